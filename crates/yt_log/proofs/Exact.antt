-- A set fits exactly where no legal plan must miss.
use Rattle.std.proofs.Common.{◌≡◌, ℕ, zero, suc, ◌<◌, ◌≤◌, ◌⊎◌, List, [], ◌∷◌, Option, Some, None, refl, subst, inl, inr, ⊎_elim, arith}
use Rattle.std.specs.Prelude.{IsSomeAnd}
use Rattle.std.proofs.lemmas.Bool.{cases_lt}
use Rattle.std.specs.List.{All}
use Rattle.yt_set.specs.declared.task.Task.{Task}
use Rattle.yt_set.specs.Tasks.{IsTaskSet, FitsInterval, LacksRoom, LeavesRoom, floor_of, within, need_of, hyperperiod, load}
use Rattle.yt_set.proofs.Lemmas.{all_more}
use Rattle.yt_log.specs.declared.plan.PlanItem.{PlanItem}
use Rattle.yt_log.specs.Tasks.{Has}
use Rattle.yt_log.specs.EdfDdm.{edf_ddm}
use Rattle.yt_log.specs.Patterns.{MustMiss, pattern_plan, all_tasks, blocker}
use Rattle.yt_log.specs.Laws.{RuleMisses, FitsIsExact}
use Rattle.yt_log.proofs.Demands.{has_number}
use Rattle.yt_log.proofs.Overloads.{overloads}
use Rattle.yt_log.proofs.Blockers.{blockers}
use Rattle.yt_log.proofs.Exclusions.{rule_is_safe}
use Rattle.yt_log.proofs.Keeping.{fits_keeps}
use Rattle.yt_log.proofs.Made.{rule_makes_logs}

-- a number below n with a property, or none has it
search_below : (P : ℕ → Type 0) → ((k : ℕ) → P k ⊎ (P k → ⊥)) → (n : ℕ) → ((k : ℕ) × (k < n) × P k) ⊎ ((k : ℕ) → k < n → P k → ⊥)
search_below P decide zero = inr (λ k h p. omega arith)
search_below P decide (suc n) =
    ⊎_elim
    (λ (p : P n). inl (n, omega arith, p))
    (λ (q : P n → ⊥). ⊎_elim
    (λ (r : (k : ℕ) × (k < n) × P k). let l = r.1 in inl (r.0, omega arith, r.2))
    (λ (r : (k : ℕ) → k < n → P k → ⊥). inr (λ k h p. ⊎_elim (λ (l : k < n). r k l p) (λ (l : n ≤ k). let e : k ≡ n = omega arith in q (subst P e p)) (cases_lt k n)))
    (search_below P decide n))
    (decide n)

-- likewise a task
search_tasks : (P : Task → Type 0) → ((i : Task) → P i ⊎ (P i → ⊥)) → (xs : List Task) → ((i : Task) × (Has xs i) × P i) ⊎ ((i : Task) → Has xs i → P i → ⊥)
search_tasks P decide [] = inr (λ i is p. is)
search_tasks P decide (x ∷ xs) =
    ⊎_elim
    (λ (p : P x). inl (x, inl refl, p))
    (λ (q : P x → ⊥). ⊎_elim
    (λ (r : (i : Task) × (Has xs i) × P i). inl (r.0, inr r.1, r.2))
    (λ (r : (i : Task) → Has xs i → P i → ⊥). inr (λ i is p. ⊎_elim (λ (e : i ≡ x). q (subst P e p)) (λ (k : Has xs i). r i k p) is))
    (search_tasks P decide xs))
    (decide x)

all_has : {X : Type 0} (P : X → Type 0) (xs : List X) → ((x : X) → Has xs x → P x) → All P xs
all_has P [] h = λ k d lt. absurd (omega arith)
all_has P (x ∷ xs) h = all_more P x xs (h x (inl refl)) (all_has P xs (λ y is. h y (inr is)))

-- a task lacks room in a span, or it doesn't
below_or : (o : Option ℕ) (span : ℕ) → IsSomeAnd o (λ floor. floor < span) ⊎ (IsSomeAnd o (λ floor. floor < span) → ⊥)
below_or None span = inr (λ h. h)
below_or (Some floor) span = ⊎_elim (λ (a : floor < span). inl a) (λ (a : span ≤ floor). inr (λ h. omega arith)) (cases_lt floor span)

lacks_or : (tasks : List Task) (task : Task) (span : ℕ) → LacksRoom tasks span task ⊎ (LacksRoom tasks span task → ⊥)
lacks_or tasks task span =
    ⊎_elim
    (λ (a : IsSomeAnd (floor_of tasks task.resource) (λ floor. floor < span)). ⊎_elim
    (λ (b : span < within task). ⊎_elim
    (λ (c : span < need_of tasks task span). inl (a, b, c))
    (λ (c : need_of tasks task span ≤ span). inr (λ l. let o = l.2 in omega arith))
    (cases_lt span (need_of tasks task span)))
    (λ (b : within task ≤ span). inr (λ l. let o = l.1 in omega arith))
    (cases_lt span (within task)))
    (λ (a : IsSomeAnd (floor_of tasks task.resource) (λ floor. floor < span) → ⊥). inr (λ l. a l.0))
    (below_or (floor_of tasks task.resource) span)

-- a task leaves no room in some span
abbrev Blocks : List Task → Task → Type 0
Blocks tasks task = (span : ℕ) × LacksRoom tasks span task

blocks_or : (tasks : List Task) (task : Task) → Blocks tasks task ⊎ (Blocks tasks task → ⊥)
blocks_or tasks task =
    ⊎_elim
    (λ (r : (k : ℕ) × (k < within task) × LacksRoom tasks k task). inl (r.0, r.2))
    (λ (r : (k : ℕ) → k < within task → LacksRoom tasks k task → ⊥). inr (λ b. r b.0 b.1.1 b.1))
    (search_below (λ span. LacksRoom tasks span task) (lacks_or tasks task) (within task))

-- a task that leaves no room, with its plan
blocks_plan : (tasks : List Task) → IsTaskSet tasks → (task : Task) → Has tasks task → Blocks tasks task → (plan : List PlanItem) × (h : ℕ) × MustMiss tasks plan h
blocks_plan tasks set task is b =
    let n = has_number tasks task is in
    (pattern_plan (blocker tasks n.0 b.0), b.0, blockers tasks set n.0 task n.1 b.0 b.1)

-- where no task does so, each leaves room
rooms_from : (tasks : List Task) → ((task : Task) → Has tasks task → Blocks tasks task → ⊥) → FitsInterval tasks
rooms_from tasks none = all_has (LeavesRoom tasks) tasks (λ task is span lacks. none task is (span, lacks))

pub rule_misses : RuleMisses
rule_misses tasks plan h must log long rule =
    let safe = rule_is_safe tasks plan must.legal log rule in
    must.misses log long safe.lawful safe.work_conserving safe.exclusive

pub fits_is_exact : FitsIsExact
fits_is_exact = record {
  one = λ tasks set.
      let hp = hyperperiod tasks in
      ⊎_elim
      (λ (over : hp < load tasks hp). inr (pattern_plan (all_tasks tasks hp), hp, overloads.load tasks set over))
      (λ (loads : load tasks hp ≤ hp). ⊎_elim
      (λ (r : (i : Task) × (Has tasks i) × Blocks tasks i). inr (blocks_plan tasks set r.0 r.1 r.2))
      (λ (none : (i : Task) → Has tasks i → Blocks tasks i → ⊥). inl (record { loads = loads; intervals = rooms_from tasks none }))
      (search_tasks (Blocks tasks) (blocks_or tasks) tasks))
      (cases_lt hp (load tasks hp));
  not_both = λ tasks set fits plan h must.
      let log = edf_ddm tasks plan h in
      let made = rule_makes_logs tasks plan h in
      let long = made.long in
      let miss = rule_misses tasks plan h must log (omega arith) made.rule in
      let due = miss.2.due in
      let late = miss.2.short in
      let kept = fits_keeps tasks set fits plan must.legal log made.rule miss.0 miss.1 (omega arith) in
      omega arith;
}
