-- The definitions that the promises and theorems about changes on site cite: rows put in and taken out, totals, the changes and their answers, and runs
-- of changes. `Internal` is for the code alone.
pub mod Rows
pub mod Totals
pub mod Changes
pub mod Runs
pub mod Worked
pub mod Internal
