-- The lemmas that proofs of other crates cite.
pub use Rattle.yt_trace.proofs.Reading.{no_trace_and_fault, trace_or_fault}
