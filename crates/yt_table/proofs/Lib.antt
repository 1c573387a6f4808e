pub mod Lemmas
mod NumberLemmas
mod ReadKeys
