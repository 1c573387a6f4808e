pub mod Tests
pub mod Depths
pub mod Spelled
pub mod Written
pub mod WellFormed
