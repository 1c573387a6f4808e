use Rattle.std.proofs.Common.{◌≡◌, ◌+◌, ◌-◌, ◌≤◌, drop, length}
use Rattle.yt_lexer.specs.First.{blank_len, blank_len_in}
use Rattle.yt_lexer.proofs.blanks.blank_len.Given as goal

-- the bytes so far, and then the blank ones that are left
abbrev pub invariant-loop-n : goal.invariant-loop-n
invariant-loop-n l = (l.n ≤ length l.text) × (l.n + blank_len_in l.comment (drop l.n l.text) ≡ blank_len l.text)

abbrev pub decreases-loop-n : goal.decreases-loop-n
decreases-loop-n l = length l.text - l.n
