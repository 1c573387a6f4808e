-- How logs are judged and plans' texts are read: no public clause cites these.
-- The last job of each task, and which item may come next.
pub mod LastJobs
-- What the steps of reading a plan's text answer.
pub mod PlanReading
-- The first unfinished job of each task, which tells where the next tick goes.
pub mod Heads
-- Counting over segments, and the first miss among the items judged so far.
pub mod Counts
-- Following a log for as long as each tick goes where the rule gives it.
pub mod Following
