-- The definitions that the promises and theorems about a table's diagnosis cite, in document 01's order: what a table's rows say, a house's
-- numbers, scoring's answer, the report, the whole program, when two houses are compared, and the houses of the examples.
-- `Premises` has what the code's structs always hold, and `Internal` is for the code alone.
pub mod Rows
pub mod House
pub mod Answers
pub mod Report
pub mod Program
pub mod Comparison
pub mod Worked
pub mod Premises
pub mod Internal
