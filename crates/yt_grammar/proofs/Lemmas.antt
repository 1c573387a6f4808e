-- The lemmas that proofs of other crates cite.
pub use Rattle.yt_grammar.proofs.reading.Graph.{graph_read, graph_only, graph_stuck}
pub use Rattle.yt_grammar.proofs.written.Tests.{both}
pub use Rattle.yt_grammar.proofs.written.Depths.{expr_within, stmts_within, port_within}
pub use Rattle.yt_grammar.proofs.written.Spelled.{spelled_writable}
pub use Rattle.yt_grammar.proofs.written.Written.{count_from, op_ok}
pub use Rattle.yt_grammar.proofs.written.WellFormed.{spelled_is_writable}
