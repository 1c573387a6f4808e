-- The lines that refuse a trace.
pub mod Lines
-- What the texts of runs and of stops say.
pub mod Runs
-- Why a verdict comes, and which text tells it.
pub mod Causes
-- What only private functions cite.
pub mod Inside
