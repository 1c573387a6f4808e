-- The lemmas that proofs of other crates cite.
pub use Rattle.yt_rates.proofs.Chains.{of_some, source}
