-- How digits are read and a file's fault is told: no public clause cites these.
-- A value that takes one more digit.
pub mod NextDigit
-- The fault of a line as that of its file.
pub mod LineErrors
