use Rattle.std.proofs.Common.{◌≡◌, ◌≤◌, ◌-◌, length, take}
use Rattle.yt_io.specs.Sink.{add}
use Rattle.yartos.proofs.write.write_lines.Given as goal

-- the lines so far were written
abbrev pub invariant-lines : goal.invariant-lines
invariant-lines g l = (l.at ≤ length l.text)
    × (g.K.Sink.faults l.initial.out ≤ g.K.Sink.faults l.out)
    × (g.K.Sink.written l.out ≡ add (g.K.Sink.written l.initial.out) (take l.at l.text))

abbrev pub decreases-lines : goal.decreases-lines
decreases-lines g l = length l.text - l.at
