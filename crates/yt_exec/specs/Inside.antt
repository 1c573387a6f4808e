-- How plays go: no public clause cites this.
-- A body that only counts, and a play as far as it has come.
pub mod Counting
