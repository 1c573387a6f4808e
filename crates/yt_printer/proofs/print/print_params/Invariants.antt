use Rattle.std.proofs.Common.{◌≡◌, ◌++◌, drop}
use Rattle.std.specs.List.{flat_map}
use Rattle.yt_grammar.specs.CanonicalText.{next_param_layout, text_of}
use Rattle.yt_printer.proofs.print.print_params.Given as goal

-- what was put so far, and then the parameters that are left, is all
abbrev pub invariant-loop-param : goal.invariant-loop-param
invariant-loop-param l = l.out ++ text_of (flat_map next_param_layout (drop l.param-index l.rest)) ≡ l.initial.out ++ text_of (flat_map next_param_layout l.rest)
