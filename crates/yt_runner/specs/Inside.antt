-- What a contract sees of a run as far as it has come.
pub mod State
-- The room that an executive has for the jobs of a run.
pub mod Room
-- Which tick comes next.
pub mod Next
-- How a run goes on.
pub mod Going
-- The laws by which it does.
pub mod Laws
