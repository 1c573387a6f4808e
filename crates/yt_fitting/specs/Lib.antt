pub mod FaultLines
pub mod TaskText
pub mod Loads
pub mod Sets
