-- The dearest job that can keep its resource in a span.
use Rattle.std.proofs.Common.{◌≡◌, ℕ, ◌+◌, ◌-◌, ◌<◌, ◌≤◌, List, slice_index_or, Some, ⊎_elim, arith}
use Rattle.std.proofs.lemmas.Bool.{cases_lt}
use Rattle.std.specs.List.{All}
use Rattle.yt_set.specs.declared.task.Task.{Task}
use Rattle.yt_set.specs.Tasks.{demand_bound, floor_of, within}
use Rattle.yt_fits.specs.declared.dearest.Dearest.{Dearest}
use Rattle.yt_fits.specs.Intervals.{HaveRoom}
use Rattle.yt_fits.specs.Inside.Streams.{IsInRange}
use Rattle.yt_fits.specs.Inside.Walks.{IsDearest}
use Rattle.yt_fits.proofs.IntervalLemmas.{floor_keeps, some_and}

-- up to the next span as long as a task's time to its deadline no task comes into range
into_range : (tasks : List Task) (span next later : ℕ) (task : Task) → All (λ t. span ≤ within t → next ≤ within t) tasks → span ≤ later → later ≤ next → IsInRange tasks later task → IsInRange tasks span task
into_range tasks span next later task least from to range =
    let short = range.1 in (
      some_and (floor_of tasks task.resource) (λ n. n < later) (λ n. n < span)
          (λ (floor : ℕ) (is : floor_of tasks task.resource ≡ Some floor) (less : floor < later).
          let far : span ≤ floor → next ≤ floor = floor_keeps (λ n. span ≤ n → next ≤ n) tasks task.resource floor least is in
          ⊎_elim (λ (h : floor < span). h) (λ (h : span ≤ floor). let k = far h in absurd (omega arith)) (cases_lt floor span))
          range.0,
      omega arith,
    )

-- so the dearest stays the dearest
pub dearest_until : (tasks : List Task) (span : ℕ) (d : Dearest) → All (λ t. IsInRange tasks span t → t.cost ≤ d.cost) tasks → All (λ t. span ≤ within t → d.until ≤ within t) tasks → IsDearest tasks span d
dearest_until tasks span d dear least = λ later from to k e lt range. dear k e lt (into_range tasks span d.until later (slice_index_or tasks k e) least from to range)

-- where it leaves room, each task does
pub room_by_dearest : (tasks : List Task) (span demand : ℕ) (d : Dearest) → IsDearest tasks span d → span ≤ d.until → demand ≡ demand_bound tasks (span - 1) → demand + d.cost ≤ span → HaveRoom tasks span tasks
room_by_dearest tasks span demand d dear until is room =
    λ k e lt lacks.
    let task = slice_index_or tasks k e in
    let cost : task.cost ≤ d.cost = dear span (omega arith) until k e lt (lacks.0, lacks.1) in
    let over : span < task.cost + demand_bound tasks (span - 1) = lacks.2 in
    omega arith

-- what is known of spans from one on is known from a later one on
pub dearest_later : (tasks : List Task) (span later : ℕ) (d : Dearest) → span ≤ later → IsDearest tasks span d → IsDearest tasks later d
dearest_later tasks span later d h dear = λ s from to. dear s (omega arith) to

pub dearest_none : (tasks : List Task) (d : Dearest) → d.until ≡ 0 → IsDearest tasks 1 d
dearest_none tasks d none = λ s from to. absurd (omega arith)
