-- How two lists of jobs are put together.
pub mod Merging
