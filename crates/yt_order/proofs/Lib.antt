pub mod Lemmas
mod Falling
mod Sorts
mod Words
