use Rattle.std.proofs.Common.{refl, sym}
use Rattle.yt_log.specs.Inside.Heads.{head_at}
use Rattle.yt_log.proofs.HeadChoices.{lead_alone, lead_new}
use Rattle.yt_log.proofs.judge.heads.lead.Goals as goal

pub returns-in-None : goal.returns-in-None
unfolding head_at
returns-in-None c = lead_alone _ _ c.args.n _ c.args.least c.in-None.is c.requires.leads (c.if-not-waits.ensures.0 refl)

pub returns-then-precedes : goal.returns-then-precedes
unfolding head_at
returns-then-precedes c =
    lead_new _ _ c.args.n c.in-Some.first _ c.args.least c.in-Some.is c.requires.leads (c.if-not-waits.ensures.0 refl) (sym c.if-precedes.ensures)
