-- The lines of a graph's text, piece by piece as they are written.
use Rattle.std.proofs.Common.{ℕ, ◌≡◌, ◌++◌, append_assoc}
use Rattle.std.specs.Prelude.{codes}
use Rattle.std.specs.Fmt.{decimal}
use Rattle.yt_gen.specs.GraphText.{ends_text, pool_text, process_text}
use Rattle.yt_gen.specs.Pipelines.{period_of}

pub ends_pieces : (i : ℕ) → ends_text i ≡
    codes "input in" ++ (decimal i ++ (codes "(1) period " ++ (decimal (period_of i) ++ (codes "\noutput out" ++ (decimal i ++ (codes " from w" ++ (decimal i ++ codes ".g.o\n")))))))
unfolding ends_text
ends_pieces i = simp append_assoc

pub process_pieces : (i : ℕ) → process_text i ≡
    codes "process w" ++ (decimal i ++ (pool_text i ++ (codes " {\n  var s = " ++ (decimal i ++ (codes "\n  port f from in" ++ (decimal i ++
    (codes " (v) out o(1) {\n    let x = v\n    repeat v % 8 max 7 {\n      x = x * 3 + s\n    }\n    s = s + 1\n    send o (x)\n    send o (s)\n  }\n  port g from w" ++ (decimal i ++
    codes ".f.o (v) out o(1) {\n    s = s + v\n    send o (s)\n  }\n}\n"))))))))
unfolding process_text
process_pieces i = simp append_assoc
