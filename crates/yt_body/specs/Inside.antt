-- How wires are made, and how a job sends: no public clause cites these.
-- The wire of one out.
pub mod OneWire
-- What a job's sends need and leave, as the machine sees it.
pub mod Takes
