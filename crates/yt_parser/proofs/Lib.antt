pub mod Lemmas
mod parsing
