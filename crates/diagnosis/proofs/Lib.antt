-- The laws about a table's diagnosis, and the theorems.
pub mod NarrowStoreys
pub mod AcceptedTables
pub mod Sums
pub mod Places
pub mod SixPlaces
pub mod Assessments
pub mod ScoreLists
pub mod GivenStrengths
pub mod RecordNumbers
pub mod ReportRows
pub mod ReportNumbers
pub mod Reporting
pub mod Comparing
pub mod Examples
pub mod Pairs
pub mod Theorems
