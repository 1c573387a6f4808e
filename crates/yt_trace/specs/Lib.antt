-- The limits.
pub mod Limits
-- Traces, and when one keeps a graph's periods.
pub mod Traces
-- The text of a trace.
pub mod TraceText
-- What is proved of texts.
pub mod Laws
-- Worked texts.
pub mod Worked
-- How a text is read.
pub mod Inside
