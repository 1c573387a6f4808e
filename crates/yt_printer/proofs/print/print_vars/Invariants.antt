use Rattle.std.proofs.Common.{◌≡◌, ◌++◌, drop}
use Rattle.std.specs.List.{flat_map}
use Rattle.yt_grammar.specs.CanonicalText.{text_of, var_layout}
use Rattle.yt_printer.proofs.print.print_vars.Given as goal

-- what was put so far, and then the variables that are left, is all
abbrev pub invariant-loop-var : goal.invariant-loop-var
invariant-loop-var l = l.out ++ text_of (flat_map var_layout (drop l.var-index l.vars)) ≡ l.initial.out ++ text_of (flat_map var_layout l.vars)
