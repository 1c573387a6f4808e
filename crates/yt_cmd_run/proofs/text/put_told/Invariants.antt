use Rattle.std.proofs.Common.{◌≡◌, ◌≤◌, ◌+◌, ◌-◌, ◌++◌, length, drop}
use Rattle.std.specs.List.{All}
use Rattle.yt_graph.specs.Picture.{graph_tree}
use Rattle.yt_run.specs.RunText.{told_text}
use Rattle.yt_run_laws.specs.Values.{AreValues}
use Rattle.yt_cmd_run.proofs.text.put_told.Given as goal

-- what was put so far, and then what is left, is all; and all lines have values where those that are left do
abbrev pub invariant-left : goal.invariant-left
invariant-left l = (l.i ≤ length l.segments) × (l.j ≤ length l.lines)
    × (l.text ++ told_text (graph_tree l.names.graph.now) (drop l.i l.segments) (drop l.j l.lines) ≡ l.fn.text ++ told_text (graph_tree l.names.graph.now) l.segments l.lines)
    × (All (λ line. AreValues line.values) (drop l.j l.lines) → All (λ line. AreValues line.values) l.lines)

abbrev pub decreases-left : goal.decreases-left
decreases-left l = (length l.segments - l.i) + (length l.lines - l.j)
