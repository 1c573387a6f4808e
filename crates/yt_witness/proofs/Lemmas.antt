-- The lemmas that proofs of other crates cite.
pub use Rattle.yt_witness.proofs.OnePattern.{no_pattern, one_pattern}
pub use Rattle.yt_witness.proofs.Places.{length_arrivals}
