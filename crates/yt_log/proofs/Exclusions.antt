-- No two items under one resource are active at once.
use Rattle.std.proofs.Common.{◌≡◌, ℕ, suc, ◌<◌, ◌≤◌, ◌⊎◌, List, sym, ap, subst, ⊎_elim, arith}
use Rattle.std.proofs.lemmas.Bool.{cases_lt, cases_order}
use Rattle.yt_set.specs.declared.task.Task.{Task}
use Rattle.yt_set.specs.Tasks.{within}
use Rattle.yt_log.specs.declared.plan.PlanItem.{PlanItem}
use Rattle.yt_log.specs.Tasks.{Has}
use Rattle.yt_log.specs.Plan.{its_task, IsLegal}
use Rattle.yt_log.specs.Ticks.{Ticks, tick, first_tick, IsActive, IsExclusive}
use Rattle.yt_log.specs.EdfDdm.{current_deadline, IsEdfDdm}
use Rattle.yt_log.specs.Laws.{RuleIsSafe}
use Rattle.yt_log.proofs.Ticks.{done_grows, first_is}
use Rattle.yt_log.proofs.Plans.{good_item}
use Rattle.yt_log.proofs.Demands.{deadline_is, has_task, has_item}
use Rattle.yt_log.proofs.Choices.{current_fresh, current_held}
use Rattle.yt_log.proofs.Floors.{floor_least}
use Rattle.yt_log.proofs.Runs.{chosen_item, running, lawful, conserving}

module _ (tasks : List Task) (plan : List PlanItem) (legal : IsLegal tasks plan) (log : Ticks) (rule : IsEdfDdm tasks plan log) where
  -- one that begins later would have waited when the other began
  overlap : (a b : PlanItem) → Has plan a → Has plan b → 0 < (its_task tasks a).resource → (its_task tasks a).resource ≡ (its_task tasks b).resource → (t : ℕ) → IsActive log t a → IsActive log t b → first_tick log a.job (suc t) < first_tick log b.job (suc t) → ⊥
  overlap a b ha hb held same t xa xb lt =
      let s = first_tick log a.job (suc t) in
      let u = first_tick log b.job (suc t) in
      let fa = first_is log a.job (suc t) xa.begun in
      let fb = first_is log b.job (suc t) xb.begun in
      let u_t : u ≤ t = omega (arith, fb.below) in
      let r = running tasks plan legal log rule a ha (suc t) xa.begun u t lt (omega arith) u_t xa.unfinished in
      let cb = chosen_item tasks plan legal log rule b hb u fb.names in
      let ca = chosen_item tasks plan legal log rule a ha s fa.names in
      let db = current_fresh tasks log u b fb.fresh in
      let ea = current_held tasks log u a (has_item tasks plan legal a ha) r.begun held in
      let first = r.first in
      let early = cb.earliest a ha r.waiting in
      let strict : current_deadline tasks log u b < current_deadline tasks log u a =
      ⊎_elim
      (λ (l : current_deadline tasks log u b < current_deadline tasks log u a). l)
      (λ (ge : current_deadline tasks log u a ≤ current_deadline tasks log u b). let pos = cb.begun_first a ha r.waiting ge r.begun in let z = fb.fresh in absurd (omega arith))
      (cases_lt (current_deadline tasks log u b) (current_deadline tasks log u a)) in
      let gb = good_item tasks plan legal b hb in
      let floor = floor_least tasks (its_task tasks a).resource (within (its_task tasks a)) (its_task tasks b) (has_task tasks b.job.task gb.from_one gb.in_set) (sym same) in
      let deb = deadline_is tasks b in
      let arrived : b.arrival ≤ s = omega arith in
      let none = done_grows log b.job s u (omega arith) in
      let zb = fb.fresh in
      let some = gb.some in
      let early' = ca.earliest b hb (record { arrived = arrived; unfinished = omega arith }) in
      let da = current_fresh tasks log s a fa.fresh in
      let db' = current_fresh tasks log s b (omega arith) in
      omega arith

  exclusive : IsExclusive tasks plan log
  exclusive t below a b ha hb held same xa xb =
      let s = first_tick log a.job (suc t) in
      let u = first_tick log b.job (suc t) in
      ⊎_elim
      (λ (e : s ≡ u).
      let fa = (first_is log a.job (suc t) xa.begun).names in
      let fb = (first_is log b.job (suc t) xb.begun).names in
      let k = ap (tick log) e in
      cc)
      (λ (q : (s < u) ⊎ (u < s)). ⊎_elim
      (λ (lt : s < u). absurd (overlap a b ha hb held same t xa xb lt))
      (λ (lt : u < s). let P : ℕ → Type 0 = λ n. 0 < n in absurd (overlap b a hb ha (subst P same held) (sym same) t xb xa lt))
      q)
      (cases_order s u)

pub rule_is_safe : RuleIsSafe
rule_is_safe tasks plan legal log rule = record {
  lawful = lawful tasks plan legal log rule;
  work_conserving = conserving tasks plan legal log rule;
  exclusive = exclusive tasks plan legal log rule;
}
