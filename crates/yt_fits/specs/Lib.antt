pub mod Loads
pub mod Intervals
pub mod Unfits
pub mod Worked
-- How the points of tasks are gone through.
pub mod Inside
