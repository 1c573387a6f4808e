-- How the points of tasks are gone through: no public clause cites these.
-- Numbers of which the least is at hand.
pub mod Tournaments
-- Tasks that are taken together, and the dearest job.
pub mod Streams
-- Where a walk stands.
pub mod Walks
