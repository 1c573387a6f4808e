use Rattle.std.proofs.Common.{length, sym, ◌∙◌, arith, eq-eqb}
use Rattle.yt_witness.proofs.Merging.{second_alone}
use Rattle.yt_witness.proofs.merge.is_second_next.Goals as goal

pub returns-then-i-first : goal.returns-then-i-first
returns-then-i-first c =
    let next = second_alone c.args.first.now c.args.second.now c.args.i c.args.j (omega arith) c.if-j-second.true in
    eq-eqb c.args.i (length c.args.first.now) c.if-i-first.true ∙ sym next
