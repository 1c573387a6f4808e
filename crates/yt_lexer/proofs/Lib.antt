mod Examples
pub mod Lemmas
mod LexesLemmas
mod PlaceLemmas
