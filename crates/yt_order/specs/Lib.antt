pub mod Orders
pub mod Words
pub mod Laws
pub mod Sorting
pub mod Falling
pub mod Gaps
