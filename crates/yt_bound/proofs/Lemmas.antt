-- The lemmas that proofs of other crates cite.
pub use Rattle.yt_bound.proofs.Bounded.{runs_are_bounded}
