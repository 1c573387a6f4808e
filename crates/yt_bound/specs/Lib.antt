-- How many jobs and output lines a run comes to at most.
pub mod Bounds
-- Bounds worked out by hand.
pub mod Worked
-- What that says of runs.
pub mod Laws
-- What only private functions cite.
pub mod Inside
