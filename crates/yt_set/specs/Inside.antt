-- How sets' texts are read: no public clause cites these.
-- What the steps of reading a set's text answer.
pub mod Reading
