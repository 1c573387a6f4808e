use Rattle.std.proofs.Common.{◌≡◌, ◌++◌, drop}
use Rattle.std.specs.List.{flat_map}
use Rattle.yt_grammar.specs.CanonicalText.{out_layout, text_of}
use Rattle.yt_printer.proofs.print.print_outs.Given as goal

-- what was put so far, and then the outs that are left, is all
abbrev pub invariant-loop-decl : goal.invariant-loop-decl
invariant-loop-decl l = l.out ++ text_of (flat_map out_layout (drop l.decl-index l.outs)) ≡ l.initial.out ++ text_of (flat_map out_layout l.outs)
