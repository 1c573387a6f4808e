-- What the code judges of a tree.
pub mod Judged
