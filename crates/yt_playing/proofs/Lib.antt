pub mod Lemmas
mod CutSegments
mod Plays
