use Rattle.std.proofs.Common.{ℕ, ◌≡◌, ◌+◌, ◌-◌, ◌<◌, List, [], ◌∷◌, ◌++◌, suc, arith, append_assoc, subst}
use Rattle.yt_grammar.specs.CanonicalText.{indent_text}
use Rattle.yt_printer.proofs.pieces.put_indent.Goals as goal

-- one more brace's spaces are put
step : (so far begun : List ℕ) (braces n : ℕ) → n < braces → so ++ indent_text (braces - n) ≡ begun → far ≡ so ++ 32 ∷ 32 ∷ [] → far ++ indent_text (braces - (n + 1)) ≡ begun
step so far begun braces n less h k =
    let e : braces - n ≡ suc (braces - (n + 1)) = omega arith in
    rw (k, append_assoc) (subst (λ (m : ℕ). so ++ indent_text m ≡ begun) e h)

pub loop-preserved : goal.loop-preserved
loop-preserved c = step c.loop.out c.put.new.self _ c.args.braces c.loop.counter c.loop-test.true c.loop.invariant c.in_ok-put.ensures
