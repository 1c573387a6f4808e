pub mod LogSegments
pub mod Begun
pub mod Replacing
pub mod InTime
