pub mod Calls
pub mod Lines
pub mod Trees
pub mod Stages
pub mod Causes
pub mod Admissions
pub mod Inside
