pub mod Code
pub mod Due
