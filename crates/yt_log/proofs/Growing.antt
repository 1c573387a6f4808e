-- A plan and a log that grow as time goes on.
use Rattle.std.proofs.Common.{◌≡◌, ℕ, ◌<◌, ◌≤◌, Bool, true, false, cond, List, [], ◌∷◌, ◌++◌, length, Option, Some, None, refl, sym, ap, subst, ◌∙◌, inl, inr, ⊎_elim, arith, length-append}
use Rattle.std.proofs.lemmas.Bool.{cases_lt, cases_Bool, cond-false}
use Rattle.std.proofs.lemmas.List.{get_or_append_left, get_or_at}
use Rattle.yt_set.specs.declared.task.Task.{Task}
use Rattle.yt_log.specs.declared.job.Job.{Job}
use Rattle.yt_log.specs.declared.plan.PlanItem.{PlanItem}
use Rattle.yt_log.specs.Tasks.{Has}
use Rattle.yt_log.specs.Ticks.{Ticks, tick}
use Rattle.yt_log.specs.EdfDdm.{rank, waits, sooner, least, job_of, choice, IsEdfDdm}
use Rattle.yt_log.specs.Laws.{RuleIsOnline}
use Rattle.yt_log.proofs.Appends.{legal_push}
use Rattle.yt_log.proofs.Choices.{waits_true}
use Rattle.yt_log.proofs.Made.{Agree, choice_same}

-- items that do not pass do not count
least_none : (key : PlanItem → List ℕ) (passes : PlanItem → Bool) (xs : List PlanItem) → ((i : PlanItem) → Has xs i → passes i ≡ true → ⊥) → least key passes xs ≡ None
unfolding least
least_none key passes [] h = refl
least_none key passes (x ∷ xs) h =
    let rest = least_none key passes xs (λ i is. h i (inr is)) in
    ⊎_elim
    (λ (e : passes x ≡ true). absurd (h x (inl refl) e))
    (λ (e : passes x ≡ false). cond-false (passes x) (Some (sooner key x (least key passes xs))) (least key passes xs) e ∙ rest)
    (cases_Bool (passes x))

least_more : (key : PlanItem → List ℕ) (passes : PlanItem → Bool) (xs ys : List PlanItem) → ((i : PlanItem) → Has ys i → passes i ≡ true → ⊥) → least key passes (xs ++ ys) ≡ least key passes xs
unfolding least
least_more key passes [] ys h = least_none key passes ys h
least_more key passes (x ∷ xs) ys h = ap (λ (o : Option PlanItem). cond (passes x) (Some (sooner key x o)) o) (least_more key passes xs ys h)

choice_more : (tasks : List Task) (plan more : List PlanItem) (log : Ticks) (t : ℕ) → ((i : PlanItem) → Has more i → t < i.arrival) → choice tasks (plan ++ more) log t ≡ choice tasks plan log t
unfolding choice
choice_more tasks plan more log t h = ap job_of (least_more (rank tasks log t) (waits log t) plan more (λ i is w. let l = h i is in let a = (waits_true log t i w).arrived in omega arith))

tick_before : (log : Ticks) (o : Option Job) (t : ℕ) → t < length log → tick (log ++ o ∷ []) t ≡ tick log t
unfolding tick
tick_before log o t h = get_or_append_left log (o ∷ []) None t h

tick_last : (log : Ticks) (o : Option Job) → tick (log ++ o ∷ []) (length log) ≡ o
unfolding tick
tick_last log o = get_or_at log o [] None (length log) refl

tick_grows : (tasks : List Task) (plan : List PlanItem) (log : Ticks) → IsEdfDdm tasks plan log → IsEdfDdm tasks plan (log ++ choice tasks plan log (length log) ∷ [])
tick_grows tasks plan log rule t h =
    let n = length log in
    let last = choice tasks plan log n in
    let more = log ++ last ∷ [] in
    let l = length-append log (last ∷ []) in
    let agree : (u : ℕ) → u ≤ n → Agree more log u = λ u a v b. tick_before log last v (omega arith) in
    ⊎_elim
    (λ (a : t < n). tick_before log last t a ∙ rule t a ∙ sym (choice_same tasks plan more log t (agree t (omega arith))))
    (λ (a : n ≤ t).
    let e : n ≡ t = omega arith in
    let P : ℕ → Type 0 = λ u. tick more u ≡ choice tasks plan more u in
    subst P e (tick_last log last ∙ sym (choice_same tasks plan more log n (agree n (omega arith)))))
    (cases_lt t n)

pub rule_is_online : RuleIsOnline
rule_is_online = record {
  item = legal_push;
  plan = λ tasks plan more log later rule t h. rule t h ∙ sym (choice_more tasks plan more log t (λ i is. let l = later i is in omega arith));
  tick = tick_grows;
}
