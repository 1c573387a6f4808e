pub mod Lemmas
mod Plans
