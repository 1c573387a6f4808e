use Rattle.std.proofs.Common.{◌≡◌, ◌+◌, ◌≤◌, Some, length, drop, ℕ}
use Rattle.yt_list.specs.Numbered.{numbered}
use Rattle.yt_graph.specs.Picture.{port_tree}
use Rattle.yt_rates.specs.Rates.{passed_on}
use Rattle.yt_rates.specs.Faults.{outs_fault, ArePassedWithin}
use Rattle.yt_rates.proofs.outs.rate_outs.Given as goal

abbrev pub invariant-loop-place : goal.invariant-loop-place
invariant-loop-place l = record {
  count : length l.outs.items ≡ l.place;
  so_far : outs_fault l.number (port_tree l.port) l.stream (l.place + 1) (drop l.place l.port.outs) ≡ outs_fault l.number (port_tree l.port) l.stream 1 l.port.outs;
  each : (out : ℕ) → 1 ≤ out → out ≤ l.place → numbered l.outs.items out ≡ Some (passed_on (port_tree l.port) l.stream out);
  limits : ArePassedWithin (port_tree l.port) l.stream l.place;
}
