mod Examples
pub mod Formed
pub mod Plain
pub mod Shapes
