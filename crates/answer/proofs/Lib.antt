-- The laws about answers, places, lengths and lists that other crates cite.
pub mod Refusals
pub mod Places
pub mod Lengths
pub mod Parts
pub mod Lists
