use Rattle.std.proofs.Common.{◌≡◌, ◌∙◌, sym, ap, map, arith}
use Rattle.yt_name_faults.specs.Paths.{steps_back}
use Rattle.yt_name_faults.proofs.ChainLemmas.{turn, no_steps}
use Rattle.yt_name_faults.proofs.chains.far_back.Goals as goal

pub loop-left-preserved : goal.loop-left-preserved
loop-left-preserved c =
    turn c.loop-left.jump.items c.loop-left.at.items c.in_ok-jump-2.jump.items c.in_ok-at-2.at.items _ _ _ _ c.loop-left.left
    c.in_ok-jump-2.ensures c.deref-in-loop-left-2.ensures.value c.deref-in-loop-left.ensures.value
    c.in_ok-at-2.ensures c.deref.ensures.value c.loop-left.invariant

pub returns : goal.returns
returns c =
    let e : c.loop-left.left ≡ 0 = omega arith in
    sym (no_steps c.loop-left.jump.items c.loop-left.at.items)
    ∙ ap (λ n. map (steps_back c.loop-left.jump.items n) c.loop-left.at.items) (sym e)
    ∙ c.loop-left.invariant
