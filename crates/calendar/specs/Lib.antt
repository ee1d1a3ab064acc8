-- The definitions that the calendar's promises and theorems cite.
pub mod Days
pub mod Worked
