pub mod Lemmas
mod Replays
