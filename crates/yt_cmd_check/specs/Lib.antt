pub mod TaskLines
pub mod Tasks
pub mod Check
