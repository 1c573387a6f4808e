-- Limits of runs.
pub mod Limits
-- The variables at a tick of a run.
pub mod Variables
-- What only private functions cite.
pub mod Inside
