use Rattle.std.proofs.Common.{◌≡◌, ◌+◌, ◌≤◌, drop, length, ℕ}
use Rattle.yt_graph.specs.Picture.{port_tree}
use Rattle.yt_list.specs.Numbered.{numbered_or}
use Rattle.yt_graph.specs.Cost.{greatest_sends}
use Rattle.yt_cost.specs.Faults.{crowded_out}
use Rattle.yt_cost.proofs.compiling.sends_of_outs.Given as goal

abbrev pub invariant-loop-place : goal.invariant-loop-place
invariant-loop-place l = record {
  count : length l.sends.items ≡ l.place;
  so_far : crowded_out (port_tree l.port) (l.place + 1) (drop l.place l.port.outs) ≡ crowded_out (port_tree l.port) 1 l.port.outs;
  each : (out : ℕ) → 1 ≤ out → out ≤ l.place → numbered_or l.sends.items out 0 ≡ greatest_sends (port_tree l.port) out;
}
