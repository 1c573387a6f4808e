-- The lemmas that proofs of other crates cite.
pub use Rattle.yt_run_laws.proofs.ReadableNames.{names_are_readable}
pub use Rattle.yt_run_laws.proofs.ReadingBack.{runs_read_back}
