-- The lemmas that proofs of other crates cite.
pub use Rattle.yt_cost.proofs.CodeKeeps.{keeps}
pub use Rattle.yt_cost.proofs.CodeLogs.{next_tick}
pub use Rattle.yt_cost.proofs.CodeOwn.{owns}
pub use Rattle.yt_cost.proofs.CodeUses.{uses_vars}
pub use Rattle.yt_cost.proofs.CodesWithin.{limits_kept}
pub use Rattle.yt_cost.proofs.Compiled.{drop_at, fine_port, port_is}
