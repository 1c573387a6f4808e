-- A set that fits keeps its deadlines.
use Rattle.std.proofs.Common.{◌≡◌, ℕ, ◌-◌, ◌<◌, ◌≤◌, List, Option, length, refl, sym, subst, ⊎_elim, arith}
use Rattle.std.specs.Prelude.{IsSomeAnd}
use Rattle.std.proofs.lemmas.Bool.{cases_lt}
use Rattle.yt_set.specs.declared.task.Task.{Task}
use Rattle.yt_set.specs.Tasks.{FitsInterval, LeavesRoom, need_of}
use Rattle.yt_log.specs.declared.plan.PlanItem.{PlanItem}
use Rattle.yt_log.specs.Plan.{deadline_of, IsLegal}
use Rattle.yt_log.specs.Ticks.{Ticks, done, KeepsDeadlines}
use Rattle.yt_log.specs.EdfDdm.{IsEdfDdm}
use Rattle.yt_log.specs.Laws.{FitsDemand, DemandKeeps, FitsKeeps, FreeFitsKeeps}
use Rattle.yt_log.proofs.Forms.{AreUsable, usable, has_all, demand, demand_is}
use Rattle.yt_log.proofs.Floors.{BlockingFits, floor_some}
use Rattle.yt_log.proofs.Periods.{every_demand}
use Rattle.yt_log.proofs.Runs.{capped}
use Rattle.yt_log.proofs.BusyIntervals.{no_miss}

-- where the demand fits everywhere and each task leaves room, no deadline is missed
keeps : (tasks : List Task) → AreUsable tasks → ((t : ℕ) → 1 ≤ t → demand tasks t ≤ t) → BlockingFits tasks →
    (plan : List PlanItem) → IsLegal tasks plan → (log : Ticks) → IsEdfDdm tasks plan log → KeepsDeadlines tasks plan log (length log)
keeps tasks set fits blocking plan legal log rule item is due =
    let t = deadline_of tasks item in
    let cap = capped tasks plan legal log rule item is t in
    ⊎_elim
    (λ (missed : done log item.job t < item.cost). absurd (no_miss tasks set plan legal log rule t fits blocking due item is refl missed))
    (λ (l : item.cost ≤ done log item.job t). omega arith)
    (cases_lt (done log item.job t) item.cost)

demands : (tasks : List Task) → FitsDemand tasks → (t : ℕ) → 1 ≤ t → demand tasks t ≤ t
demands tasks fits t some = let a = fits t in let b = demand_is tasks t in omega arith

-- the interval condition, of demands and floors
rooms : (tasks : List Task) → FitsInterval tasks → BlockingFits tasks
rooms tasks intervals = λ task is held span above below.
    let room : LeavesRoom tasks task = has_all (LeavesRoom tasks) tasks intervals task is in
    let d = demand_is tasks (span - 1) in
    let over = subst (λ (o : Option ℕ). IsSomeAnd o (λ n. n < span)) (sym (floor_some tasks task is held)) above in
    ⊎_elim
    (λ (l : span < need_of tasks task span). absurd (room span (over, below, l)))
    (λ (l : need_of tasks task span ≤ span). omega arith)
    (cases_lt span (need_of tasks task span))

pub demand_keeps : DemandKeeps
demand_keeps tasks set fits intervals = keeps tasks (usable tasks set) (demands tasks fits) (rooms tasks intervals)

pub fits_keeps : FitsKeeps
fits_keeps tasks set fits = demand_keeps tasks set (every_demand tasks set (λ k d lt. refl) fits.loads) fits.intervals

pub free_fits_keeps : FreeFitsKeeps
free_fits_keeps tasks set free fits =
    keeps tasks (usable tasks set) (demands tasks fits) (λ task is held span above below.
    let z = has_all (λ (x : Task). x.resource ≡ 0) tasks free task is in
    absurd (omega arith))
