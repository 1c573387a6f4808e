-- A play has one verdict.
use Rattle.std.proofs.Common.{◌≡◌, ℕ, List, refl, sym, subst, ◌∙◌, ⊎_elim}
use Rattle.std.specs.Prelude.{Ok}
use Rattle.yt_fitting.proofs.Lemmas.{one_set, some_set}
use Rattle.yt_log.specs.declared.plan.PlanItem.{PlanItem}
use Rattle.yt_log.specs.PlanText.{plan_of}
use Rattle.yt_log.proofs.Lemmas.{HasFault, no_plan_and_fault, plan_or_fault}
use Rattle.yt_set.specs.NamedTasks.{NamedTasks}
use Rattle.yt_cmd_play.specs.Causes.{PlanCause, PlayCause, kept, missed, plan_at_fault, plan_verdict, play_verdict}
use Rattle.yt_playing.specs.Plays.{PlayMisses}

one_list : (set : NamedTasks) (plan : List ℕ) (a b : List PlanItem) → plan_of set plan ≡ Ok a → plan_of set plan ≡ Ok b → a ≡ b
one_list set plan a b p q =
    let here = sym p ∙ q in
    cc

-- a plan of which a job misses its deadline isn't one of which none does
not_mixed : (set : NamedTasks) (plan : List ℕ) (a b : List PlanItem) → plan_of set plan ≡ Ok a → plan_of set plan ≡ Ok b → PlayMisses set.tasks a → (PlayMisses set.tasks b → ⊥) → ⊥
not_mixed set plan a b is too misses keeps = keeps (subst (λ (items : List PlanItem). PlayMisses set.tasks items) (one_list set plan a b is too) misses)

-- the text of a plan for a set has one verdict
pub one_plan : (set : NamedTasks) (plan : List ℕ) (a b : PlanCause set plan) → plan_verdict a ≡ plan_verdict b
one_plan set plan (plan_at_fault f is not_memory) (plan_at_fault g too no_more) = refl
one_plan set plan (plan_at_fault f is not_memory) (missed b too h) = absurd (no_plan_and_fault set plan b f too is not_memory)
one_plan set plan (plan_at_fault f is not_memory) (kept b too h) = absurd (no_plan_and_fault set plan b f too is not_memory)
one_plan set plan (missed a is h) (plan_at_fault g too not_memory) = absurd (no_plan_and_fault set plan a g is too not_memory)
one_plan set plan (missed a is h) (missed b too k) = refl
one_plan set plan (missed a is h) (kept b too k) = absurd (not_mixed set plan a b is too h k)
one_plan set plan (kept a is h) (plan_at_fault g too not_memory) = absurd (no_plan_and_fault set plan a g is too not_memory)
one_plan set plan (kept a is h) (missed b too k) = absurd (not_mixed set plan b a too is k h)
one_plan set plan (kept a is h) (kept b too k) = refl

-- no text of a plan lacks a verdict
pub some_plan : (set : NamedTasks) (plan : List ℕ) → (PlanCause set plan → ⊥) → ⊥
some_plan set plan none =
    ⊎_elim
    (λ (h : (items : List PlanItem) × (plan_of set plan ≡ Ok items)). none (kept h.0 h.1 (λ misses. none (missed h.0 h.1 misses))))
    (λ (h : HasFault set plan). none (plan_at_fault h.0 h.1 h.2))
    (plan_or_fault set plan)

-- a play has one verdict
pub one_play : (set plan : List ℕ) (a b : PlayCause set plan) → play_verdict a ≡ play_verdict b
one_play set plan a b = one_set set (λ named. PlanCause named plan) (λ named why. plan_verdict why) (λ named p q. one_plan named plan p q) a b

-- no play lacks one
pub some_play : (set plan : List ℕ) → (PlayCause set plan → ⊥) → ⊥
some_play set plan none = some_set set (λ named. PlanCause named plan) (λ named. some_plan named plan) none
