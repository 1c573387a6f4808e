-- Feeds whose messages are counted.
pub mod Feeds
-- Counts of a trace's messages.
pub mod Counting
