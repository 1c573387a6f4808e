-- What the texts of a graph and of a trace give.
pub mod Readings
