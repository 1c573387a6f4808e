pub mod Commands
pub mod Counts
pub mod FileLemmas
pub mod Requests
pub mod Told
pub mod Written
