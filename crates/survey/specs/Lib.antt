-- The definitions that the survey's promises and theorems cite, in document 01's order: where rows stand, what their columns may hold,
-- which refusal is due, what an accepted table is made of, a storey's walls; and what the examples speak of.
-- `Internal` is for the code alone.
pub mod Table
pub mod Ranges
pub mod Judgement
pub mod Acceptance
pub mod Walls
pub mod Worked
pub mod Internal
