use Rattle.std.proofs.Common.{◌≡◌, ◌+◌, ◌<◌, ◌∷◌, List, length, drop, drop-cons, rules, subst, arith}
use Rattle.std.specs.List.{All}
use Rattle.std.proofs.lemmas.Grind.{common_steps}
use Rattle.yt_run_laws.specs.Values.{AreValues}
use Rattle.yt_serial.specs.declared.shown.OutLine.{OutLine}
use Rattle.yt_cmd_run.proofs.Values.{passes_on, all_passed}
use Rattle.yt_cmd_run.proofs.text.put_told.Goals as goal

pub left-preserved : goal.left-preserved
left-preserved c =
    let lines = c.as_slice-lines.result.now in
    let line = c.index-lines-j-else-i-segments-2.result in
    let within : c.left.j < length lines = search rules in
    let cut : drop c.left.j lines ≡ line ∷ drop (c.left.j + 1) lines = grind (arith, common_steps, drop-cons lines c.left.j line within, c.index-lines-j-else-i-segments-2.is) in
    (search rules, omega arith, grind (arith, common_steps), passes_on (λ (line : OutLine). AreValues line.values) lines c.left.j line cut c.in_ok-put_line.ensures.values c.left.invariant.3)

pub returns-clause-values : goal.returns-clause-values
returns-clause-values c =
    subst (λ (lines : List OutLine). All (λ (line : OutLine). AreValues line.values) lines) c.as_slice-lines.ensures
    (all_passed (λ (line : OutLine). AreValues line.values) c.as_slice-lines.result.now c.left.j c.if-j-lines.false c.left.invariant.3)
