-- What a walk over a handler asks and keeps: no public clause cites these.
-- Which locals and variables a handler names.
pub mod Within
-- How far a handler has come.
pub mod Progress
