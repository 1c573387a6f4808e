pub mod Laws
pub mod Resolved
