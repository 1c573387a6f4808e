pub mod Lemmas
mod Changes
mod Countings
mod Idling
mod LongerLogs
mod Playings
mod Readings
mod Releases
mod Sounds
mod Standing
mod Ticking
