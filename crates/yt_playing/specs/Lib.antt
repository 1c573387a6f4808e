-- What is printed of a play.
pub mod Texts
-- Plays, how they end, and what their texts show.
pub mod Plays
-- How the code prints a schedule up to a tick.
pub mod Inside
