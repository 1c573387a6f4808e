-- The demand over a hyperperiod and more ticks, and over any span.
use Rattle.std.proofs.Common.{◌≡◌, ℕ, ◌+◌, ◌-◌, ◌*◌, ◌/◌, List, [], ◌∷◌, refl, sym, ap, ◌∙◌, inl, inr, arith}
use Rattle.std.proofs.Math.Nat.{div-mul_cancel, add-mul-div_right, div-eq_of_lt}
use Rattle.std.specs.Int.{◌∣◌}
use Rattle.yt_set.specs.declared.task.Task.{Task}
use Rattle.yt_set.specs.Tasks.{within}
use Rattle.yt_set.proofs.Lemmas.{demand_fits}
use Rattle.yt_log.specs.Tasks.{Has}
use Rattle.yt_log.specs.Laws.{EveryDemandFits}
use Rattle.yt_log.proofs.Forms.{IsUsable, AreUsable, due_within, due_within_is, demand, work}
use Rattle.yt_log.proofs.Demands.{demand-cons}

work-cons : (task : Task) (tasks : List Task) (h : ℕ) → work (task ∷ tasks) h ≡ task.cost * (h / task.period) + work tasks h
unfolding work
work-cons task tasks h = refl

demand-nil : (t : ℕ) → demand [] t ≡ 0
unfolding demand
demand-nil t = refl

work-nil : (t : ℕ) → work [] t ≡ 0
unfolding work
work-nil t = refl

due_within-add : (task : Task) (t h : ℕ) → IsUsable task → task.period ∣ h → due_within task (t + h) ≡ due_within task t + h / task.period
due_within-add task t h is d =
    let a = is.in_period in
    let b = is.due in
    let p = task.period in
    let w = within task in
    let m : h / p * p ≡ h = div-mul_cancel p d in
    let e : t + h + p - w ≡ (t + p - w) + h / p * p = omega arith in
    due_within_is task (t + h) ∙ ap (λ (n : ℕ). n / p) e ∙ add-mul-div_right (t + p - w) (h / p) (omega arith) ∙ ap (λ (n : ℕ). n + h / p) (sym (due_within_is task t))

pub demand-add : (tasks : List Task) (t h : ℕ) → AreUsable tasks → ((task : Task) → Has tasks task → task.period ∣ h) → demand tasks (t + h) ≡ demand tasks t + work tasks h
demand-add [] t h set d = let a = demand-nil (t + h) in let b = demand-nil t in let c = work-nil h in omega arith
demand-add (task ∷ tasks) t h set d =
    let a = demand-cons task tasks (t + h) in
    let b = demand-cons task tasks t in
    let c = work-cons task tasks h in
    let e = due_within-add task t h (set task (inl refl)) (d task (inl refl)) in
    let f : due_within task (t + h) * task.cost ≡ (due_within task t + h / task.period) * task.cost = ap (λ (n : ℕ). n * task.cost) e in
    let rest = demand-add tasks t h (λ k is. set k (inr is)) (λ k is. d k (inr is)) in
    omega arith

pub demand-zero : (tasks : List Task) → AreUsable tasks → demand tasks 0 ≡ 0
demand-zero [] set = demand-nil 0
demand-zero (task ∷ tasks) set =
    let is = set task (inl refl) in
    let a = is.in_period in
    let b = is.due in
    let c = demand-cons task tasks 0 in
    let z : due_within task 0 ≡ 0 = due_within_is task 0 ∙ div-eq_of_lt (omega arith) in
    let f : due_within task 0 * task.cost ≡ 0 * task.cost = ap (λ (n : ℕ). n * task.cost) z in
    let rest = demand-zero tasks (λ k is. set k (inr is)) in
    omega arith

pub every_demand : EveryDemandFits
every_demand tasks set ends loads = demand_fits tasks set loads
