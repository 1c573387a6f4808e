-- How a `Channels` keeps what it means: no public clause cites these.
-- What one job sent on a wire.
pub mod Banks
-- A wire's two banks, and what sending and closing make of them.
pub mod Queues
-- What stays true of the banks, and of how much each target has had.
pub mod Sound
-- The list of heads, one for each target for which a message waits.
pub mod Heads
-- What the list of heads says, and all that stays true of a `Channels`.
pub mod Next
