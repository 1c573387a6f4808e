use Rattle.std.proofs.Common.{◌-◌, ◌≤◌, vec_len}
use Rattle.std.specs.Io.KnownBytes.{Consumes}
use Rattle.yt_io.proofs.host_shelf.read_to_end.Given as goal

-- the bytes so far are those that reads gave
abbrev pub invariant-turns : goal.invariant-turns
invariant-turns g l = (vec_len l.bytes ≤ l.limit) × Consumes (g.F.Read.remaining l.initial.file) (g.F.Read.remaining l.file) l.bytes.items

-- how many bytes there is room for
abbrev pub decreases-turns : goal.decreases-turns
decreases-turns g l = l.limit - vec_len l.bytes
