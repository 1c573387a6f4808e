pub mod Limits
pub mod Tasks
pub mod Hyperperiod
pub mod Worked
pub mod NamedTasks
pub mod SetText
pub mod Printed
-- How sets' texts are read.
pub mod Inside
