use Rattle.yt_fits.specs.declared.dearest.Dearest.{Dearest}
use Rattle.yt_fits.proofs.DearestLemmas.{dearest_until}
use Rattle.yt_fits.proofs.dearest.Dearest.of.Goals as goal

pub returns-clause-dearest : goal.returns-clause-dearest
returns-clause-dearest c =
    let d : Dearest = record { cost = c.dearest_cost.result; until = c.next_within.result } in
    dearest_until c.args.set.now c.args.span d c.dearest_cost.ensures.dearest c.next_within.ensures.least
