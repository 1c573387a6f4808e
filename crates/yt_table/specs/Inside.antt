-- How a table keeps its names: no public clause cites these.
pub mod Numbers
