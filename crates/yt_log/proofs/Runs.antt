-- What holds of a log under the deadline-modified rule.
use Rattle.std.proofs.Common.{◌≡◌, ℕ, zero, suc, ◌<◌, ◌≤◌, List, Some, sym, subst, ⊎_elim, arith}
use Rattle.yt_set.specs.declared.task.Task.{Task}
use Rattle.yt_log.specs.declared.plan.PlanItem.{PlanItem}
use Rattle.yt_log.specs.Tasks.{Has}
use Rattle.yt_log.specs.Plan.{IsLegal}
use Rattle.yt_log.specs.Ticks.{Ticks, tick, done, first_tick, IsWaiting, IsLawful, IsWorkConserving}
use Rattle.yt_log.specs.EdfDdm.{IsEdfDdm}
use Rattle.yt_log.proofs.Ticks.{done-zero, done_yes, done_no, tick_or_not, done_grows, first_is, first_stays}
use Rattle.yt_log.proofs.Plans.{one_item}
use Rattle.yt_log.proofs.Choices.{IsChosen, chosen, idle}

module _ (tasks : List Task) (plan : List PlanItem) (legal : IsLegal tasks plan) (log : Ticks) (rule : IsEdfDdm tasks plan log) where
  -- the item of the plan that a tick goes to
  pub chosen_item : (i : PlanItem) → Has plan i → (t : ℕ) → tick log t ≡ Some i.job → IsChosen tasks plan log t i
  chosen_item i is t e =
      let c = chosen tasks plan log rule t i.job e in
      let P : PlanItem → Type 0 = λ k. IsChosen tasks plan log t k in
      subst P (one_item tasks plan legal c.0 i c.2.has is c.1) c.2

  -- no item gets more than it costs
  pub capped : (i : PlanItem) → Has plan i → (t : ℕ) → done log i.job t ≤ i.cost
  capped i is zero = let z = done-zero log i.job in omega arith
  capped i is (suc t) =
      ⊎_elim
      (λ (e : tick log t ≡ Some i.job). let s = done_yes log i.job t e in let w = (chosen_item i is t e).waiting.unfinished in omega arith)
      (λ (never : tick log t ≡ Some i.job → ⊥). let s = done_no log i.job t never in let rest = capped i is t in omega arith)
      (tick_or_not log i.job t)

  -- an item that begins at b waits and has begun from then on until it is done
  pub record IsRunning (i : PlanItem) (b u : ℕ) : Type 0 where
    pub begun : 0 < done log i.job u
    pub waiting : IsWaiting log u i
    pub first : first_tick log i.job u ≡ b

  pub running : (i : PlanItem) → Has plan i → (t : ℕ) → 0 < done log i.job t → (u v : ℕ) → first_tick log i.job t < u → u ≤ t → u ≤ v → done log i.job v < i.cost → IsRunning i (first_tick log i.job t) u
  running i is t h u v lt le le' unfinished =
      let b = first_tick log i.job t in
      let f = first_is log i.job t h in
      let c = chosen_item i is b f.names in
      let s = done_yes log i.job b f.names in
      let z = f.fresh in
      let g = done_grows log i.job (suc b) u lt in
      let k = done_grows log i.job u v le' in
      let a = c.waiting.arrived in
      let pos : 0 < done log i.job u = omega arith in
      record { begun = pos; waiting = record { arrived = omega arith; unfinished = omega arith }; first = sym (first_stays log i.job u t pos le) }

  pub lawful : IsLawful plan log
  lawful t j e = let c = chosen tasks plan log rule t j e in (c.0, c.2.has, c.1, c.2.waiting)

  pub conserving : IsWorkConserving plan log
  conserving t lt e = idle tasks plan log rule t lt e
