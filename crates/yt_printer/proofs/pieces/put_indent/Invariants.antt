use Rattle.std.proofs.Common.{◌≡◌, ◌-◌, ◌++◌}
use Rattle.yt_grammar.specs.CanonicalText.{indent_text}
use Rattle.yt_printer.proofs.pieces.put_indent.Given as goal

-- what was put so far, and then the spaces that are left, is all
abbrev pub invariant-loop : goal.invariant-loop
invariant-loop l = l.out ++ indent_text (l.braces - l.counter) ≡ l.fn.out ++ indent_text l.braces
