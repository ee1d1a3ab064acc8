-- The laws about the method's definitions that other crates cite, its theorems on one page, and these used.
pub mod Branches
pub mod Products
pub mod Tables
pub mod Factors
pub mod Cases
pub mod Shares
pub mod Requirements
pub mod BandLaws
pub mod Points
pub mod Fractions
pub mod Quotients
pub mod Comparisons
pub mod Examples
pub mod Theorems
pub mod Witnesses
