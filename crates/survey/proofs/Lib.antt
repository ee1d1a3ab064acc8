-- The laws about a table's rows that other crates cite, and the theorems.
pub mod Faults
pub mod FirstInRange
pub mod Positions
pub mod RowFaults
pub mod Judging
pub mod RefusalNumbers
pub mod FaultlessRows
pub mod Acceptance
pub mod StoreyWalls
pub mod AlikeTables
pub mod Sets
pub mod Examples
pub mod Theorems
