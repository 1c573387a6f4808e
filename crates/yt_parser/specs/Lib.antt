pub mod Parses
pub mod Inside
