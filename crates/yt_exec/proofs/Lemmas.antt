-- The lemmas that proofs of other crates cite.
pub use Rattle.yt_exec.proofs.Changes.{changed, changed_arrival, changed_is, changed_job, changed_no, has_from, has_with}
