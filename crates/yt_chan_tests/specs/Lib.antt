-- A run on one wire, call by call, by which the tests of channels go.
pub mod Example
-- Many wires at their limits.
pub mod Wide
