-- The definitions that the sheet's promises and theorems cite, in document 01's order: a field, a line, a sheet.
pub mod Field
pub mod Line
pub mod Sheet
