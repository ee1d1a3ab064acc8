-- The definitions that the method's promises and laws cite, in document 01's order, a file a section. None of them knows where a number stands
-- in a table.
pub mod Printed
pub mod JointTables
pub mod Held
pub mod Required
pub mod LayoutFactor
pub mod Deterioration
pub mod Verdicts
pub mod Score
pub mod Worked
