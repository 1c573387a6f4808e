-- The lemmas that proofs of other crates cite.
pub use Rattle.yt_ready.proofs.Orders.{begun_first, no_later}
