use Rattle.std.proofs.Common.{ℕ, suc, ◌<◌, List, length, refl, subst, arith}
use Rattle.yt_log.specs.declared.plan.PlanItem.{PlanItem}
use Rattle.yt_log.specs.Inside.Heads.{Starts, head_at}
use Rattle.yt_log.proofs.Reading.{reads_first}
use Rattle.yt_log.proofs.Following.{follows_first, unbroken_at_end}
use Rattle.yt_log.proofs.judge.broken.first_broken.Goals as goal

pub loop-tick-init : goal.loop-tick-init
loop-tick-init c =
    let P : List PlanItem → Type 0 = λ xs. (n : ℕ) → n < length c.start.new.heads → Starts c.args.set.now xs (suc n) 0 (head_at c.start.new.heads n) in
    record {
      follows = follows_first _ _ c.requires.legal _ _ c.start.ensures.long (subst P c.items.ensures c.start.ensures.starts);
      reads = reads_first _;
    }

pub returns-clause-none : goal.returns-clause-none
returns-clause-none c =
    (λ e. unbroken_at_end _ _ c.requires.legal _ _ _ c.loop-tick.invariant.follows (omega (arith, c.until-until.ensures, c.loop-tick-test.false)), λ u. refl)
