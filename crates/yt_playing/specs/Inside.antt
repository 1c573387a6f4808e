-- How the code prints a schedule up to a tick.
pub mod Cut
