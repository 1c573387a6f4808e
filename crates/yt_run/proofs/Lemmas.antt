-- The lemmas that proofs of other crates cite.
pub use Rattle.yt_run.proofs.Faithful.{faithful_texts}
pub use Rattle.yt_run.proofs.PrintedLines.{IsReadableJob, IsReadableLine}
pub use Rattle.yt_run.proofs.ReadBack.{read_back-run_text}
pub use Rattle.yt_run.proofs.ReadBackSegments.{segments_of-jobs}
