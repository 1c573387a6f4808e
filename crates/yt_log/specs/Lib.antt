-- The limits of plans.
pub mod Limits
-- Tasks by their numbers.
pub mod Tasks
-- Which jobs arrive when, and what they cost.
pub mod Plan
-- Which job each tick goes to.
pub mod Ticks
-- The segments of a log.
pub mod Segments
-- The rule: earliest deadline first with dynamic deadline modification.
pub mod EdfDdm
-- Arrivals that show that a set doesn't fit.
pub mod Patterns
-- What is proved of every set, plan and log.
pub mod Laws
-- Worked examples.
pub mod Worked
-- Judging logs.
pub mod Judging
-- The text of a plan, and why one is none.
pub mod LastJobs
pub mod PlanText
pub mod PlanFaults
-- The text of a log.
pub mod Printed
-- How logs are judged and plans' texts are read.
pub mod Inside
