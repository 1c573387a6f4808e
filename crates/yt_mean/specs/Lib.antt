-- What `handle` asks of a port, and what it answers.
pub mod Handled
-- What a walk over a handler asks and keeps.
pub mod Inside
