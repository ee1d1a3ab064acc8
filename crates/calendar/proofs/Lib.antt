-- The laws about days that other crates cite, the calendar's theorems on one page, and these used.
pub mod Months
pub mod Numbers
pub mod Ages
pub mod Examples
pub mod Theorems
pub mod Witnesses
