pub mod Lemmas
mod Adding
mod Judging
mod Keeping
mod LastTimes
mod Reading
