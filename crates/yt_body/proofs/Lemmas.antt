-- The lemmas that proofs of other crates cite.
pub use Rattle.yt_body.proofs.Facts.{code_is, fine_at, has_wires, limit_at, task_at, tree_at}
pub use Rattle.yt_body.proofs.Kept.{KeepsPort, closes_keep, delivers_keep, held_kept, keeps_both, mid_open, port_differs, puts_keep, sends_keep, stage_kept, waits_less}
pub use Rattle.yt_body.proofs.Lefts.{left_begun, left_none, left_same, left_some, mid_begins, mid_tick, other_vars, some_left, tick_facts}
pub use Rattle.yt_body.proofs.Opens.{no_wire_at, of_other_port, same_out}
pub use Rattle.yt_body.proofs.Places.{HasWire, has_wire}
pub use Rattle.yt_body.proofs.Sound.{are_wires, of_some, output_source, port_source, wire_from}
pub use Rattle.yt_body.proofs.There.{number_at}
pub use Rattle.yt_body.proofs.Widths.{waits_wide, width_is}
pub use Rattle.yt_body.proofs.Wires.{IsWireFrom, contains_has, fed}
