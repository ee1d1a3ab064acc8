-- The definitions that promises about answers cite, those about lists, and the houses of the examples.
pub mod Told
pub mod Lists
pub mod First
pub mod Length
pub mod Text
pub mod Houses
