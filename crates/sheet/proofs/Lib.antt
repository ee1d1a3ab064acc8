-- The laws about fields, lines and sheets, for other crates too, and last the theorems on one page.
pub mod Fields
pub mod Sheets
pub mod Answers
pub mod RoundTrip
pub mod Examples
pub mod Theorems
