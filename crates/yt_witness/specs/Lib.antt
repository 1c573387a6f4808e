-- The patterns that show that a set doesn't fit.
pub mod Witnesses
-- How their plans are made.
pub mod Inside
