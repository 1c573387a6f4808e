-- The rule makes a log of each length: its choice at a tick goes by the ticks before alone.
use Rattle.std.proofs.Common.{◌≡◌, ℕ, zero, suc, ◌+◌, ◌<◌, ◌≤◌, Bool, cond, eqb, List, [], ◌∷◌, ◌++◌, length, get_or, Option, None, refl, sym, ap, ap₂, subst, ◌∙◌, ⊎_elim, arith, length-append}
use Rattle.std.proofs.lemmas.Bool.{cases_lt}
use Rattle.std.proofs.lemmas.List.{get_or_append_left, get_or_at, ext_get_or}
use mathlib.Core.Path.{fun_ext}
use Rattle.yt_set.specs.declared.task.Task.{Task}
use Rattle.yt_log.specs.declared.job.Job.{Job}
use Rattle.yt_log.specs.declared.plan.PlanItem.{PlanItem}
use Rattle.yt_log.specs.Ticks.{Ticks, tick, names, done, first_tick}
use Rattle.yt_log.specs.EdfDdm.{IsEdfDdm, current_deadline, rank, waits, least, job_of, choice, edf_ddm}
use Rattle.yt_log.specs.Laws.{RuleMakesLogs, RuleIsDetermined}

-- two logs have the same ticks below t
abbrev pub Agree : Ticks → Ticks → ℕ → Type 0
Agree a b t = (u : ℕ) → u < t → tick a u ≡ tick b u

pub agree_less : (a b : Ticks) (t : ℕ) → Agree a b (suc t) → Agree a b t
agree_less a b t h u l = h u (omega arith)

pub done_same : (a b : Ticks) (j : Job) (t : ℕ) → Agree a b t → done a j t ≡ done b j t
unfolding done
done_same a b j zero h = refl
done_same a b j (suc t) h = ap₂ (λ (n : ℕ) (o : Option Job). n + cond (names o j) 1 0) (done_same a b j t (agree_less a b t h)) (h t (omega arith))

pub first_same : (a b : Ticks) (j : Job) (t : ℕ) → Agree a b t → first_tick a j t ≡ first_tick b j t
unfolding first_tick
first_same a b j zero h = refl
first_same a b j (suc t) h = ap₂ (λ (n m : ℕ). cond (eqb n 0) t m) (done_same a b j t (agree_less a b t h)) (first_same a b j t (agree_less a b t h))

current_same : (tasks : List Task) (a b : Ticks) (t : ℕ) → Agree a b t → (i : PlanItem) → current_deadline tasks a t i ≡ current_deadline tasks b t i
unfolding current_deadline
current_same tasks a b t h i = let d = done_same a b i.job t h in let f = first_same a b i.job t h in cc

rank_same : (tasks : List Task) (a b : Ticks) (t : ℕ) → Agree a b t → (i : PlanItem) → rank tasks a t i ≡ rank tasks b t i
unfolding rank
rank_same tasks a b t h i = let d = done_same a b i.job t h in let f = current_same tasks a b t h i in cc

waits_same : (a b : Ticks) (t : ℕ) → Agree a b t → (i : PlanItem) → waits a t i ≡ waits b t i
unfolding waits
waits_same a b t h i = let d = done_same a b i.job t h in cc

pub choice_same : (tasks : List Task) (plan : List PlanItem) (a b : Ticks) (t : ℕ) → Agree a b t → choice tasks plan a t ≡ choice tasks plan b t
unfolding choice
choice_same tasks plan a b t h = ap₂ (λ (key : PlanItem → List ℕ) (p : PlanItem → Bool). job_of (least key p plan)) (fun_ext (rank_same tasks a b t h)) (fun_ext (waits_same a b t h))

module _ (tasks : List Task) (plan : List PlanItem) where
  made-suc : (n : ℕ) → edf_ddm tasks plan (suc n) ≡ edf_ddm tasks plan n ++ choice tasks plan (edf_ddm tasks plan n) n ∷ []
  unfolding edf_ddm
  made-suc n = refl

  made_long : (n : ℕ) → length (edf_ddm tasks plan n) ≡ n
  unfolding edf_ddm
  made_long zero = refl
  made_long (suc n) =
      let log = edf_ddm tasks plan n in
      let e = length-append log (choice tasks plan log n ∷ []) in
      let rest = made_long n in
      omega arith

  agree_before : (n : ℕ) → Agree (edf_ddm tasks plan (suc n)) (edf_ddm tasks plan n) n
  unfolding tick
  agree_before n u h =
      let log = edf_ddm tasks plan n in
      let l = made_long n in
      ap (λ (xs : Ticks). get_or xs u None) (made-suc n) ∙ get_or_append_left log (choice tasks plan log n ∷ []) None u (omega arith)

  last_is : (n : ℕ) → tick (edf_ddm tasks plan (suc n)) n ≡ choice tasks plan (edf_ddm tasks plan n) n
  unfolding tick
  last_is n = let log = edf_ddm tasks plan n in ap (λ (xs : Ticks). get_or xs n None) (made-suc n) ∙ get_or_at log (choice tasks plan log n) [] None n (made_long n)

  made_rule : (n t : ℕ) → t < n → tick (edf_ddm tasks plan n) t ≡ choice tasks plan (edf_ddm tasks plan n) t
  made_rule zero t h = absurd (omega arith)
  made_rule (suc n) t h =
      let log = edf_ddm tasks plan n in
      let more = edf_ddm tasks plan (suc n) in
      let agree : Agree more log t = λ u l. agree_before n u (omega arith) in
      ⊎_elim
      (λ (l : t < n). agree_before n t l ∙ made_rule n t l ∙ sym (choice_same tasks plan more log t agree))
      (λ (l : n ≤ t). let e : n ≡ t = omega arith in let P : ℕ → Type 0 = λ u. tick more u ≡ choice tasks plan more u in subst P e (last_is n ∙ sym (choice_same tasks plan more log n (agree_before n))))
      (cases_lt t n)

pub rule_makes_logs : RuleMakesLogs
rule_makes_logs tasks plan n =
    record { long = made_long tasks plan n; rule = λ t h. made_rule tasks plan n t (let l = made_long tasks plan n in omega arith) }

-- two logs of the rule have the same ticks for as long as both go
pub same_so_far : (tasks : List Task) (plan : List PlanItem) (a b : Ticks) → IsEdfDdm tasks plan a → IsEdfDdm tasks plan b → (n : ℕ) → n ≤ length a → n ≤ length b → Agree a b n
same_so_far tasks plan a b ra rb zero x y u h = absurd (omega arith)
same_so_far tasks plan a b ra rb (suc n) x y u h =
    let before = same_so_far tasks plan a b ra rb n (omega arith) (omega arith) in
    ⊎_elim
    (λ (l : u < n). before u l)
    (λ (l : n ≤ u).
    let e : n ≡ u = omega arith in
    let P : ℕ → Type 0 = λ v. tick a v ≡ tick b v in
    subst P e (ra n (omega arith) ∙ choice_same tasks plan a b n before ∙ sym (rb n (omega arith))))
    (cases_lt u n)

pub rule_is_determined : RuleIsDetermined
unfolding tick
rule_is_determined tasks plan a b ra rb e =
    ext_get_or None a b e (λ i h. same_so_far tasks plan a b ra rb (length a) (omega arith) (omega arith) i h)
