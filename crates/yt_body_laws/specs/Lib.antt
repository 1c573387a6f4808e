-- What the handlers of a graph carry of an interleaved run.
pub mod Carrying
-- How messages come to their ports and outputs.
pub mod Placing
-- Which messages of a trace have come.
pub mod Reading
-- The handlers with an executive.
pub mod Running
-- The laws.
pub mod Laws
