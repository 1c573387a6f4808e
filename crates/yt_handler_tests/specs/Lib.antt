pub mod Arithmetic
pub mod Graphs
