-- Of the begun, unfinished jobs of a log of the rule the current deadlines fall in order of beginning.
use Rattle.std.proofs.Common.{◌≡◌, ◌⊎◌, ℕ, suc, ◌<◌, ◌≤◌, eqb, List, Option, Some, None, sym, ap, subst, ◌∙◌, ⊎_elim, arith, ne_eqb}
use Rattle.std.proofs.lemmas.Bool.{cases_lt, cases_order, cond-false}
use Rattle.std.proofs.lemmas.Option.{same_Some}
use Rattle.yt_set.specs.declared.task.Task.{Task}
use Rattle.yt_set.specs.Tasks.{floor_of}
use Rattle.yt_log.specs.declared.plan.PlanItem.{PlanItem}
use Rattle.yt_log.specs.EdfDdm.{lowered, current_deadline, IsEdfDdm}
use Rattle.yt_log.specs.Plan.{its_task, deadline_of, IsLegal}
use Rattle.yt_log.specs.Ticks.{Ticks, tick, done, first_tick, IsWaiting}
use Rattle.yt_log.proofs.Lemmas.{chosen, current_fresh, done_yes, done_grows, first_is, first_stays, one_item}
use Rattle.yt_schedule_laws.specs.Begun.{IsBegun, BeganBefore, BegunDeadlinesFall}

current_begun : (tasks : List Task) (log : Ticks) (t : ℕ) (i : PlanItem) → 0 < done log i.job t →
    current_deadline tasks log t i ≡ lowered (deadline_of tasks i) (first_tick log i.job t) (floor_of tasks (its_task tasks i).resource)
unfolding current_deadline
current_begun tasks log t i h =
    cond-false (eqb (done log i.job t) 0) (deadline_of tasks i) (lowered (deadline_of tasks i) (first_tick log i.job t) (floor_of tasks (its_task tasks i).resource))
    (ne_eqb (done log i.job t) 0 (λ e. absurd (omega arith)))

lowered_le : (deadline first : ℕ) (floor : Option ℕ) → lowered deadline first floor ≤ deadline
unfolding lowered
lowered_le deadline first None = omega arith
lowered_le deadline first (Some f) = omega arith

-- a begun job's current deadline stays what it is
current_stays : (tasks : List Task) (log : Ticks) (u t : ℕ) (i : PlanItem) → 0 < done log i.job u → u ≤ t → current_deadline tasks log t i ≡ current_deadline tasks log u i
current_stays tasks log u t i h le =
    let g = done_grows log i.job u t le in
    current_begun tasks log t i (omega arith)
    ∙ ap (λ (b : ℕ). lowered (deadline_of tasks i) b (floor_of tasks (its_task tasks i).resource)) (first_stays log i.job u t h le)
    ∙ sym (current_begun tasks log u i h)

module _ (tasks : List Task) (plan : List PlanItem) (legal : IsLegal tasks plan) (log : Ticks) (rule : IsEdfDdm tasks plan log) where
  abbrev current : ℕ → PlanItem → ℕ
  current t i = current_deadline tasks log t i

  -- the one that begins later takes its first tick from the other, which waits, and is begun
  falls : (t : ℕ) (a b : PlanItem) → IsBegun plan log t a → IsBegun plan log t b → BeganBefore log t a b → current_deadline tasks log t b < current_deadline tasks log t a
  falls t a b xa xb lt =
      let s = first_tick log a.job t in
      let u = first_tick log b.job t in
      let fa = first_is log a.job t xa.begun in
      let fb = first_is log b.job t xb.begun in
      let u_t : u ≤ t = omega (arith, fb.below) in
      let ya = done_yes log a.job s fa.names in
      let ga = done_grows log a.job (suc s) u (omega arith) in
      let begun : 0 < done log a.job u = omega arith in
      let more = done_grows log a.job u t u_t in
      let left = xa.unfinished in
      let ca = chosen tasks plan log rule s a.job fa.names in
      let cb = chosen tasks plan log rule u b.job fb.names in
      let is_a = one_item tasks plan legal ca.0 a ca.2.has xa.has ca.1 in
      let is_b = one_item tasks plan legal cb.0 b cb.2.has xb.has cb.1 in
      let arrived : a.arrival ≤ s = subst (λ (i : PlanItem). i.arrival ≤ s) is_a ca.2.waiting.arrived in
      let waits : IsWaiting log u a = record { arrived = omega arith; unfinished = omega arith } in
      let early = cb.2.earliest a xa.has waits in
      let same : current u cb.0 ≡ current u b = ap (current_deadline tasks log u) is_b in
      let own = current_fresh tasks log u b fb.fresh in
      let strict : current u b < current u a =
      ⊎_elim
      (λ (l : current u b < current u a). l)
      (λ (ge : current u a ≤ current u b).
      let pos = cb.2.begun_first a xa.has waits (omega arith) begun in
      let none : done log cb.0.job u ≡ 0 = ap (λ (i : PlanItem). done log i.job u) is_b ∙ fb.fresh in
      absurd (omega arith))
      (cases_lt (current u b) (current u a)) in
      let stays = current_stays tasks log u t a begun u_t in
      let yb = done_yes log b.job u fb.names in
      let now = current_begun tasks log t b xb.begun in
      let low = lowered_le (deadline_of tasks b) (first_tick log b.job t) (floor_of tasks (its_task tasks b).resource) in
      omega arith

  -- a tick begins one item
  ticks_differ : (t : ℕ) (a b : PlanItem) → IsBegun plan log t a → IsBegun plan log t b → first_tick log a.job t ≡ first_tick log b.job t → a ≡ b
  ticks_differ t a b xa xb e =
      let fa = first_is log a.job t xa.begun in
      let fb = first_is log b.job t xb.begun in
      one_item tasks plan legal a b xa.has xb.has (same_Some a.job b.job (sym fa.names ∙ ap (tick log) e ∙ fb.names))

  deadlines_differ : (t : ℕ) (a b : PlanItem) → IsBegun plan log t a → IsBegun plan log t b → current_deadline tasks log t a ≡ current_deadline tasks log t b → a ≡ b
  deadlines_differ t a b xa xb e =
      ⊎_elim
      (λ (same : first_tick log a.job t ≡ first_tick log b.job t). ticks_differ t a b xa xb same)
      (λ (q : (first_tick log a.job t < first_tick log b.job t) ⊎ (first_tick log b.job t < first_tick log a.job t)). ⊎_elim
      (λ (lt : first_tick log a.job t < first_tick log b.job t). let f = falls t a b xa xb lt in absurd (omega arith))
      (λ (lt : first_tick log b.job t < first_tick log a.job t). let f = falls t b a xb xa lt in absurd (omega arith))
      q)
      (cases_order (first_tick log a.job t) (first_tick log b.job t))

  before : (t : ℕ) (a b : PlanItem) → IsBegun plan log t a → IsBegun plan log t b → current_deadline tasks log t b < current_deadline tasks log t a → BeganBefore log t a b
  before t a b xa xb less =
      ⊎_elim
      (λ (same : first_tick log a.job t ≡ first_tick log b.job t).
      let e : current t a ≡ current t b = ap (current_deadline tasks log t) (ticks_differ t a b xa xb same) in
      absurd (omega arith))
      (λ (q : (first_tick log a.job t < first_tick log b.job t) ⊎ (first_tick log b.job t < first_tick log a.job t)). ⊎_elim
      (λ (lt : first_tick log a.job t < first_tick log b.job t). lt)
      (λ (lt : first_tick log b.job t < first_tick log a.job t). let f = falls t b a xb xa lt in absurd (omega arith))
      q)
      (cases_order (first_tick log a.job t) (first_tick log b.job t))

pub begun_deadlines_fall : BegunDeadlinesFall
begun_deadlines_fall = record {
  fall = λ tasks plan legal log rule t a b xa xb. (falls tasks plan legal log rule t a b xa xb, before tasks plan legal log rule t a b xa xb);
  deadlines_differ = λ tasks plan legal log rule. deadlines_differ tasks plan legal log rule;
  ticks_differ = λ tasks plan legal log rule. ticks_differ tasks plan legal log rule;
}
