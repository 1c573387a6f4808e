mod Comings
mod Facts
mod Fresh
mod Frames
mod Jobs
mod Kept
pub mod Lemmas
mod Lefts
mod Numbers
mod Opens
mod Places
mod Sending
mod Sound
mod Steppings
mod There
mod Ticked
mod Widths
mod Wires
