pub mod Faults
pub mod Shelf
pub mod Answers
pub mod Sink
pub mod MemShelf
pub mod MemSink
