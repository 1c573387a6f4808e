use Rattle.std.proofs.Common.{◌≡◌, ◌+◌, ◌<◌, ◌^◌, drop, length}
use Rattle.yt_lexer.specs.Places.{place_after}
use Rattle.yt_lexer.proofs.places.place_behind.Given as goal

-- the bytes that are left lead to the same place
abbrev pub invariant-loop-b : goal.invariant-loop-b
invariant-loop-b l = (place_after l.here (drop l.b-index l.bytes) ≡ place_after l.fn.place l.bytes)
    × (l.here.line + length (drop l.b-index l.bytes) < 2 ^ 32) × (l.here.col + length (drop l.b-index l.bytes) < 2 ^ 32)
