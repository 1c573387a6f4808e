use Rattle.std.proofs.Common.{◌≡◌, ℕ, ◌<◌, List, length, false, true, refl, subst}
use Rattle.yt_log.specs.declared.plan.PlanItem.{PlanItem}
use Rattle.yt_log.specs.Tasks.{task_of}
use Rattle.yt_log.specs.Inside.Heads.{KeepsResource, head_at}
use Rattle.yt_log.proofs.Plans.{one_item}
use Rattle.yt_log.proofs.Following.{unlawful_at, shared_at, not_least_at, task_waits}
use Rattle.yt_log.proofs.judge.broken.broken_rule.Goals as goal

never : false ≡ true → ⊥
never e = cc

pub waits-requires : goal.waits-requires
waits-requires c = λ item other has is e. one_item _ _ c.requires.legal.legal item other has is e

pub shares-requires-clause-from_one : goal.shares-requires-clause-from_one
shares-requires-clause-from_one c = (task_waits _ c.requires.in_range _ c.requires.legal.legal _ _ _ c.requires.follows c.args.job (c.if-not-waits.ensures.0 refl)).0

pub shares-requires-clause-in_set : goal.shares-requires-clause-in_set
shares-requires-clause-in_set c = (task_waits _ c.requires.in_range _ c.requires.legal.legal _ _ _ c.requires.follows c.args.job (c.if-not-waits.ensures.0 refl)).1

pub returns-then-not-waits : goal.returns-then-not-waits
returns-then-not-waits c = unlawful_at _ c.requires.in_range _ c.requires.legal.legal _ _ _ c.requires.follows c.args.job c.requires.named (λ w. never (c.if-not-waits.ensures.1 w))

pub returns-then-shares : goal.returns-then-shares
returns-then-shares c =
    let P : List PlanItem → Type 0 = λ xs. (0 < (task_of c.args.set.now c.args.job.task).resource) × ((n : ℕ) × (n < length c.args.heads.now) × KeepsResource c.args.set.now xs (task_of c.args.set.now c.args.job.task).resource c.args.job (head_at c.args.heads.now n)) in
    shared_at _ c.requires.in_range _ c.requires.legal.legal _ _ _ c.requires.follows c.args.job c.requires.below c.requires.named (c.if-not-waits.ensures.0 refl) (subst P c.items.ensures (c.if-shares.ensures.yes refl))

pub returns-else-shares : goal.returns-else-shares
returns-else-shares c =
    let P : List PlanItem → Type 0 = λ xs. 0 < (task_of c.args.set.now c.args.job.task).resource → (n : ℕ) → n < length c.args.heads.now → KeepsResource c.args.set.now xs (task_of c.args.set.now c.args.job.task).resource c.args.job (head_at c.args.heads.now n) → ⊥ in
    not_least_at _ c.requires.in_range _ c.requires.legal.legal _ _ _ c.requires.follows c.args.job c.requires.below c.requires.named (c.if-not-waits.ensures.0 refl) (subst P c.items.ensures (c.if-shares.ensures.no refl)) c.requires.leaves
