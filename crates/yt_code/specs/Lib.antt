pub mod Step
pub mod Valid
pub mod Ready
pub mod Outbox
pub mod Inside
