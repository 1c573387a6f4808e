-- How a trace's text is read: no public clause cites these.
-- What a line's fields say.
pub mod Lines
-- What the lines so far say, and what may come next.
pub mod Reading
