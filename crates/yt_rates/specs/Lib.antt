pub mod Limits
pub mod Rates
pub mod Laws
pub mod Faults
pub mod Tables
pub mod Acceptance
-- How ports are rated one by one.
pub mod Inside
