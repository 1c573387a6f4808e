-- The wires of a graph, and the handlers of a graph with their messages.
pub mod Wiring
pub mod State
pub mod Sends
pub mod Sound
pub mod Steps
-- How wires are made, and how a job sends.
pub mod Inside
