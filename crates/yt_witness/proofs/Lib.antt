pub mod Lemmas
mod Merging
mod Misses
mod OnePattern
mod Places
mod Plans
