-- The lemmas that proofs of other crates cite.
pub use Rattle.yt_chan.proofs.Closes.{over_other}
pub use Rattle.yt_chan.proofs.Puts.{target_cases}
pub use Rattle.yt_chan.proofs.Table.{any_has, line_is, own_line, source_is}
