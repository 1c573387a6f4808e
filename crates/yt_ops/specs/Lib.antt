pub mod Limits
pub mod Values
pub mod Heads
pub mod Tables
