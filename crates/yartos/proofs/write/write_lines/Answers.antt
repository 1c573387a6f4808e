use Rattle.std.proofs.Common.{arith}
use Rattle.std.proofs.lemmas.Result.{err_from_is_err_and}
use Rattle.yartos.proofs.Written.{adds_next, adds_front}
use Rattle.yartos.proofs.write.write_lines.Goals as goal

pub returns-in_err-write-clause-front : goal.returns-in_err-write-clause-front
returns-in_err-write-clause-front g c =
    let p = err_from_is_err_and c.from_residual.result c.from_residual.ensures.1 in
    rw p.1 (adds_front _ _ _ c.args.text.now c.lines.at c.in-Some.line.next c.lines.invariant.2 c.in_err-write.ensures.front)

pub lines-preserved : goal.lines-preserved
lines-preserved g c = (
  omega (arith, c.in-Some.ensures),
  omega (arith, c.in_ok-write.ensures.count),
  adds_next _ _ _ c.args.text.now c.lines.at c.in-Some.line.next (omega (arith, c.in-Some.ensures)) c.lines.invariant.2 c.in_ok-write.ensures.ok,
)
