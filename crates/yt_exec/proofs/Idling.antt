-- An executive with no job goes on by idle ticks.
use Rattle.std.proofs.Common.{◌≡◌, ℕ, zero, suc, ◌+◌, ◌-◌, ◌≤◌, ◌^◌, List, [], ◌∷◌, ◌++◌, replicate, None, refl, sym, subst, arith, append-nil, append_assoc}
use Rattle.yt_log.specs.declared.job.Job.{Job}
use Rattle.yt_log.specs.declared.plan.PlanItem.{PlanItem}
use Rattle.yt_log.specs.Plan.{IsLegal}
use Rattle.yt_log.specs.Ticks.{Ticks}
use Rattle.yt_exec.specs.Moments.{Moment, at_tick, IsSound}
use Rattle.yt_exec.specs.StandsFor.{StandsFor, GoesOn, IdlesTo}
use Rattle.yt_exec.proofs.Readings.{none_in}
use Rattle.yt_exec.proofs.Standing.{idle_stands}

-- an executive with no job stays sound at a later tick
pub idle_sound : (m : Moment) (tick : ℕ) → IsSound m.tasks m.entries m.clock m.releases → m.entries ≡ [] → m.clock ≤ tick → tick ≤ 2 ^ 63 → IsSound m.tasks m.entries tick m.releases
idle_sound m tick sound none later most = record {
  set = sound.set;
  long = sound.long;
  clock = most;
  known = sound.known;
  released = sound.released;
  past = λ task. let p = sound.past task in omega arith;
  one = sound.one;
  held = sound.held;
  near = λ a has begun floor e. absurd (none_in m.entries a none has);
}

-- so many idle ticks
idle_ticks : (n : ℕ) (old : Moment) → IsSound old.tasks old.entries old.clock old.releases → old.entries ≡ [] → old.clock + n ≤ 2 ^ 63
    → (left : Job → ℕ) (plan : List PlanItem) (log : Ticks) → IsLegal old.tasks plan → StandsFor old left plan log
    → GoesOn (at_tick (old.clock + n) old) left plan plan log (log ++ replicate n None)
idle_ticks zero old sound none most left plan log legal stands =
    let here : GoesOn (at_tick old.clock old) left plan plan log log = record { legal = legal; stands = stands; rule = λ rule. rule } in
    let now : GoesOn (at_tick (old.clock + 0) old) left plan plan log log = subst (λ (t : ℕ). GoesOn (at_tick t old) left plan plan log log) (omega arith) here in
    subst (λ (more : Ticks). GoesOn (at_tick (old.clock + 0) old) left plan plan log more) (sym (append-nil log)) now
idle_ticks (suc n) old sound none most left plan log legal stands =
    let mid = at_tick (old.clock + 1) old in
    let more = log ++ None ∷ [] in
    let first = idle_stands old left plan log legal stands sound mid (λ e has. none_in old.entries e none has) (λ e has. none_in old.entries e none has) refl refl refl left in
    let rest = idle_ticks n mid (idle_sound old (old.clock + 1) sound none (omega arith) (omega arith)) none (omega arith) left plan more first.legal first.stands in
    let whole : GoesOn (at_tick (old.clock + 1 + n) old) left plan plan log (more ++ replicate n None) =
    record { legal = rest.legal; stands = rest.stands; rule = λ rule. rest.rule (first.rule rule) } in
    let now : GoesOn (at_tick (old.clock + suc n) old) left plan plan log (more ++ replicate n None) =
    subst (λ (t : ℕ). GoesOn (at_tick t old) left plan plan log (more ++ replicate n None)) (omega arith) whole in
    subst (λ (all : Ticks). GoesOn (at_tick (old.clock + suc n) old) left plan plan log all) (append_assoc log (None ∷ []) (replicate n None)) now

pub idles_to : (old : Moment) (tick : ℕ) → IsSound old.tasks old.entries old.clock old.releases → old.entries ≡ [] → old.clock ≤ tick → tick ≤ 2 ^ 63 → IdlesTo old (at_tick tick old)
idles_to old tick sound none later most left plan log legal stands =
    let n = tick - old.clock in
    subst (λ (t : ℕ). GoesOn (at_tick t old) left plan plan log (log ++ replicate n None)) (omega arith)
    (idle_ticks n old sound none (omega arith) left plan log legal stands)
