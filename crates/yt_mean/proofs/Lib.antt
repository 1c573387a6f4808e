mod Exprs
mod Forget
mod Ports
mod Turns
mod WellFormed
