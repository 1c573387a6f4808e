-- In a legal plan the jobs of a task are a period apart, so that one which is done by its deadline isn't replaced.
use Rattle.std.proofs.Common.{◌≡◌, ℕ, zero, suc, ◌+◌, ◌<◌, ◌≤◌, cond, eqb, List, [], ◌∷◌, Some, refl, sym, ap, subst, ◌∙◌, inl, inr, ⊎_elim, arith, eq-eqb}
use Rattle.std.proofs.lemmas.Bool.{cond-true}
use Rattle.yt_set.specs.declared.task.Task.{Task}
use Rattle.yt_log.specs.declared.plan.PlanItem.{PlanItem}
use Rattle.yt_log.specs.Plan.{its_task, deadline_of, jobs_of, IsLegalAfter, IsLegal}
use Rattle.yt_log.specs.Tasks.{Has, task_of}
use Rattle.yt_log.specs.Ticks.{Ticks, tick, done, IsLawful, KeepsDeadlines}
use Rattle.yt_log.proofs.Lemmas.{deadline_is, done-zero, done_yes, done_no, done_grows, jobs_of-cons, one_item, tick_or_not}
use Rattle.yt_schedule_laws.specs.Replacing.{NoneIsReplaced}

-- a later item of a task arrives at least a period after an earlier one
apart_after : (tasks : List Task) (before xs : List PlanItem) → IsLegalAfter tasks before xs → (e i : PlanItem) → Has before e → Has xs i → e.job.task ≡ i.job.task → e.arrival + (its_task tasks i).period ≤ i.arrival
apart_after tasks before [] legal e i early late same = absurd late
apart_after tasks before (x ∷ xs) legal e i early late same =
    ⊎_elim
    (λ (q : i ≡ x).
    let P : PlanItem → Type 0 = λ y. e.job.task ≡ y.job.task → e.arrival + (its_task tasks y).period ≤ y.arrival in
    subst P (sym q) (λ s. legal.0.apart e early s) same)
    (λ (k : Has xs i). apart_after tasks (x ∷ before) xs legal.1 e i (inr early) k same)
    late

-- an item's number is greater than the count of its task's items before it
number_after : (tasks : List Task) (before xs : List PlanItem) → IsLegalAfter tasks before xs → (i : PlanItem) → Has xs i → jobs_of i.job.task before < i.job.number
number_after tasks before [] legal i is = absurd is
number_after tasks before (x ∷ xs) legal i is =
    ⊎_elim
    (λ (e : i ≡ x). let n = legal.0.number in subst (λ (y : PlanItem). jobs_of y.job.task before < y.job.number) (sym e) (omega arith))
    (λ (k : Has xs i). let c = jobs_of-cons i.job.task x before in let n = number_after tasks (x ∷ before) xs legal.1 i k in omega arith)
    is

-- of two items of a task the one with the greater number arrives at least a period after the other
apart_in : (tasks : List Task) (before xs : List PlanItem) → IsLegalAfter tasks before xs → (a b : PlanItem) → Has xs a → Has xs b → a.job.task ≡ b.job.task → a.job.number < b.job.number → a.arrival + (its_task tasks b).period ≤ b.arrival
apart_in tasks before [] legal a b ha hb same lt = absurd ha
apart_in tasks before (x ∷ xs) legal a b ha hb same lt =
    ⊎_elim
    (λ (p : a ≡ x). ⊎_elim
    (λ (q : b ≡ x). let n : a.job.number ≡ b.job.number = ap (λ (i : PlanItem). i.job.number) (p ∙ sym q) in absurd (omega arith))
    (λ (k : Has xs b). apart_after tasks (x ∷ before) xs legal.1 a b (inl p) k same)
    hb)
    (λ (k : Has xs a). ⊎_elim
    (λ (q : b ≡ x).
    let n = number_after tasks (x ∷ before) xs legal.1 a k in
    let task : a.job.task ≡ x.job.task = same ∙ ap (λ (i : PlanItem). i.job.task) q in
    let number : b.job.number ≡ x.job.number = ap (λ (i : PlanItem). i.job.number) q in
    let count : jobs_of a.job.task (x ∷ before) ≡ jobs_of x.job.task (x ∷ before) = ap (λ (m : ℕ). jobs_of m (x ∷ before)) task in
    let here : cond {A = ℕ} (eqb x.job.task x.job.task) 1 0 ≡ 1 = cond-true (eqb x.job.task x.job.task) 1 0 (eq-eqb x.job.task x.job.task refl) in
    let c = jobs_of-cons x.job.task x before in
    let m = legal.0.number in
    absurd (omega arith))
    (λ (l : Has xs b). apart_in tasks (x ∷ before) xs legal.1 a b k l same lt)
    hb)
    ha

module _ (tasks : List Task) (plan : List PlanItem) (legal : IsLegal tasks plan) (log : Ticks) (lawful : IsLawful plan log) where
  -- no item gets more than it costs
  capped : (i : PlanItem) → Has plan i → (t : ℕ) → done log i.job t ≤ i.cost
  capped i is zero = let z = done-zero log i.job in omega arith
  capped i is (suc t) =
      ⊎_elim
      (λ (e : tick log t ≡ Some i.job).
      let w = lawful t i.job e in
      let same = one_item tasks plan legal w.0 i w.1 is w.2 in
      let less : done log i.job t < i.cost = subst (λ (y : PlanItem). done log y.job t < y.cost) same w.3.unfinished in
      let s = done_yes log i.job t e in
      omega arith)
      (λ (never : tick log t ≡ Some i.job → ⊥). let s = done_no log i.job t never in let rest = capped i is t in omega arith)
      (tick_or_not log i.job t)

  ended : (h : ℕ) → KeepsDeadlines tasks plan log h → (a b : PlanItem) → Has plan a → Has plan b → a.job.task ≡ b.job.task → a.job.number < b.job.number → b.arrival ≤ h → done log a.job b.arrival ≡ a.cost
  ended h keeps a b ha hb same lt le =
      let far = apart_in tasks [] plan legal a b ha hb same lt in
      let period : (its_task tasks a).period ≡ (its_task tasks b).period = ap (λ (n : ℕ). (task_of tasks n).period) same in
      let d = deadline_is tasks a in
      let late : deadline_of tasks a ≤ b.arrival = omega arith in
      let at = keeps a ha (omega arith) in
      let more = done_grows log a.job (deadline_of tasks a) b.arrival late in
      let most = capped a ha b.arrival in
      omega arith

pub none_is_replaced : NoneIsReplaced
none_is_replaced = record {
  none = λ tasks plan legal log lawful keeps a b ha hb same next. ended tasks plan legal log lawful b.arrival (keeps b.arrival) a b ha hb same (omega arith) (omega arith);
  none_by = λ tasks plan legal log lawful h keeps. ended tasks plan legal log lawful h keeps;
}
