-- What callers cite of a handler's meaning: it keeps lengths, and stays within its greatest cost and sends; and the codes of heads.
pub use Rattle.yt_graph.proofs.Lengths.{stmt_keeps, block_keeps}
pub use Rattle.yt_graph.proofs.Within.{stmt_ticks, block_ticks, ticks_within, sends_within}
pub use Rattle.yt_graph.proofs.Heads.{op_code_at}
