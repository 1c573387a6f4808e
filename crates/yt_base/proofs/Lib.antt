mod Values
mod FieldLemmas
mod LineCounts
mod LinesLemmas
mod Decimals
mod Stays
pub mod Lemmas
