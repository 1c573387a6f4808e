pub mod Pipelines
pub mod GraphText
pub mod TraceText
