-- Walks through the points of tasks.
use Rattle.std.proofs.Common.{◌≡◌, ℕ, ◌+◌, ◌-◌, ◌*◌, ◌/◌, ◌<◌, ◌≤◌, List, length, slice_index_or, slice_set, Option, None, Some, refl, sym, ap, subst, ◌∙◌, ⊎_elim, arith}
use Rattle.std.proofs.lemmas.Bool.{cases_eq, cases_lt}
use Rattle.std.proofs.lemmas.List.{get_or-set_other, get_or-set_same, get_or_default, length-set}
use Rattle.std.proofs.lemmas.List.Elements.{All-set, All-weaker}
use Rattle.std.proofs.lemmas.List.Sums.{sum_by-le, sum_by-set}
use Rattle.std.specs.List.{All, refill, sum_by}
use Rattle.std.specs.Prelude.{IfSome}
use Rattle.yt_set.specs.declared.task.Task.{Task}
use Rattle.yt_set.specs.Limits.{most_ticks}
use Rattle.yt_set.specs.Tasks.{IsTaskSet, demand_bound}
use Rattle.yt_fits.specs.declared.stream.Stream.{Stream}
use Rattle.yt_fits.specs.declared.tournament.Entrant.{Entrant}
use Rattle.yt_fits.specs.Inside.Streams.{AreStreamsOf, IsPaced, cost_counted, due_in, next_of}
use Rattle.yt_fits.specs.Inside.Tournaments.{IsPlayed, never, number_at}
use Rattle.yt_fits.specs.Inside.Walks.{IsAt, stream_at}
use Rattle.yt_set.proofs.Lemmas.{due_in_periods}
use Rattle.yt_fits.specs.declared.dearest.Dearest.{Dearest}
use Rattle.yt_fits.specs.declared.interval.Breach.{Breach}
use Rattle.yt_fits.specs.Intervals.{HaveRoom, IsFirstBreach, IsLowestBreach}
use Rattle.yt_fits.specs.Inside.Walks.{IsDearest}
use Rattle.yt_fits.proofs.DearestLemmas.{room_by_dearest}
use Rattle.yt_fits.proofs.IntervalLemmas.{room_between, room_more}
use Rattle.yt_fits.proofs.StreamLemmas.{AreNext, all_unset, before_least, cost_small, demand_here, nothing, refilled}

few_streams : (tasks : List Task) (streams : List Stream) (nodes : List Entrant) (demand point : ℕ) → IsAt tasks streams nodes demand point → length streams ≤ 64
few_streams tasks streams nodes demand point at = let few = at.of_tasks.few in let most = at.set.0 in omega arith

-- where no number is less than this one, no next point is before it
pub least_next : (tasks : List Task) (streams : List Stream) (nodes : List Entrant) (demand point least : ℕ) → IsAt tasks streams nodes demand point → ((place : ℕ) → place < 64 → least ≤ number_at nodes place) → All (λ s. least ≤ next_of s) streams
least_next tasks streams nodes demand point least at all =
    λ k d lt.
    let few = few_streams tasks streams nodes demand point at in
    let read : stream_at streams k ≡ slice_index_or streams k d = get_or_default streams k nothing d lt in
    let number : number_at nodes k ≡ next_of (stream_at streams k) = at.nexts k lt in
    let small = all k (omega arith) in
    let P : Stream → Type 0 = λ s. least ≤ next_of s in
    let here : least ≤ next_of (stream_at streams k) = omega arith in
    subst P read here

-- a number that isn't the greatest stands at the place of a stream
pub place_within : (tasks : List Task) (streams : List Stream) (nodes : List Entrant) (demand point : ℕ) (e : Entrant) → IsAt tasks streams nodes demand point → e.place < 64 → number_at nodes e.place ≡ e.number → e.number < never → e.place < length streams
place_within tasks streams nodes demand point e at few there less =
    ⊎_elim
    (λ (h : e.place < length streams). h)
    (λ (h : length streams ≤ e.place). let out : number_at nodes e.place ≡ never = at.rest e.place h few in absurd (omega arith))
    (cases_lt e.place (length streams))

-- the least of the numbers isn't before the point
pub least_later : (tasks : List Task) (streams : List Stream) (nodes : List Entrant) (demand point : ℕ) (e : Entrant) → IsAt tasks streams nodes demand point → e.place < 64 → number_at nodes e.place ≡ e.number → point ≤ e.number
least_later tasks streams nodes demand point e at few there =
    let short = at.short in
    ⊎_elim
    (λ (h : e.place < length streams).
    let number : number_at nodes e.place ≡ next_of (stream_at streams e.place) = at.nexts e.place h in
    let ahead : point ≤ next_of (stream_at streams e.place) = at.ahead e.place nothing h in
    omega arith)
    (λ (h : length streams ≤ e.place). let out : number_at nodes e.place ≡ never = at.rest e.place h few in omega arith)
    (cases_lt e.place (length streams))

-- where the point is behind the least of the next points, it was passed in all streams
pub passed : (tasks : List Task) (streams : List Stream) (nodes : List Entrant) (demand point least : ℕ) → IsAt tasks streams nodes demand point → All (λ s. least ≤ next_of s) streams → point < least → AreNext streams point
passed tasks streams nodes demand point least at all less = record {
  ahead = λ k d lt. let h = all k d lt in omega arith;
  near = at.near;
}

-- a stream of which a job more is counted
pub record HasOneMore (old new : Stream) : Type 0 where
  pub cost : new.cost ≡ old.cost
  pub period : new.period ≡ old.period
  pub due : new.within ≡ old.within
  pub jobs : new.jobs ≡ old.jobs + 1

same_due : (old new : Stream) (t : ℕ) → HasOneMore old new → due_in new t ≡ due_in old t
same_due old new t is = ap (λ (p : ℕ). (t + p - new.within) / p) is.period ∙ ap (λ (w : ℕ). (t + old.period - w) / old.period) is.due

-- goes on at the same pace
streams_still : (tasks : List Task) (streams : List Stream) (i : ℕ) (s : Stream) → i < length streams → HasOneMore (stream_at streams i) s → AreStreamsOf tasks streams → AreStreamsOf tasks (slice_set streams i s)
streams_still tasks streams i s inside is are =
    let old = stream_at streams i in
    let same : length (slice_set streams i s) ≡ length streams = length-set streams i s in
    let few = are.few in
    let was = are.paced i nothing inside in
    let d = was.due in
    let p = was.in_period in
    let m = was.short in
    let o = was.some in
    let c = was.cheap in
    let cost = is.cost in
    let period = is.period in
    let due = is.due in
    record {
      few = omega arith;
      paced = All-set (λ x. IsPaced x (length tasks * most_ticks)) streams i s (record { due = omega arith; in_period = omega arith; short = omega arith; some = omega arith; cheap = omega arith }) are.paced;
      demand = λ t.
          let f = λ (x : Stream). due_in x t * x.cost in
          let sums : sum_by f (slice_set streams i s) + f old ≡ sum_by f streams + f s = sum_by-set f streams i s nothing inside in
          let equal : due_in s t * s.cost ≡ due_in old t * old.cost = ap (λ (n : ℕ). n * s.cost) (same_due old s t is) ∙ ap (λ (n : ℕ). due_in old t * n) cost in
          let before = are.demand t in
          omega arith;
      all = λ point next h. are.all point next (all_unset (λ x. next ≤ due_in x point * x.period + x.within) streams i s nothing inside (back point next) h);
    }
  where
    back : (point next : ℕ) → next ≤ due_in s point * s.period + s.within → next ≤ due_in (stream_at streams i) point * (stream_at streams i).period + (stream_at streams i).within
    back point next h =
        let old = stream_at streams i in
        let same : due_in s point * s.period + s.within ≡ due_in old point * old.period + old.within =
        ap (λ (n : ℕ). n * s.period + s.within) (same_due old s point is)
        ∙ ap (λ (p : ℕ). due_in old point * p + s.within) is.period
        ∙ ap (λ (w : ℕ). due_in old point * old.period + w) is.due in
        omega arith

next_more : (old new : Stream) → HasOneMore old new → next_of new ≡ next_of old + old.period
next_more old new is =
    let due = is.due in
    let times : new.jobs * new.period ≡ (old.jobs + 1) * old.period = ap (λ (n : ℕ). n * new.period) is.jobs ∙ ap (λ (p : ℕ). (old.jobs + 1) * p) is.period in
    omega arith

cost_more : (old new : Stream) → HasOneMore old new → new.jobs * new.cost ≡ old.jobs * old.cost + old.cost
cost_more old new is =
    let times : new.jobs * new.cost ≡ (old.jobs + 1) * old.cost = ap (λ (n : ℕ). n * new.cost) is.jobs ∙ ap (λ (c : ℕ). (old.jobs + 1) * c) is.cost in
    omega arith

-- the walk stands at the next point where a job more of its stream is counted
pub counts : (tasks : List Task) (streams : List Stream) (nodes changed : List Entrant) (demand point next i : ℕ) (s : Stream)
    → IsAt tasks streams nodes demand point
    → i < length streams
    → HasOneMore (stream_at streams i) s
    → All (λ x. next ≤ next_of x) streams
    → point ≤ next
    → next ≡ next_of (stream_at streams i)
    → IsPlayed changed
    → number_at changed i ≡ next_of s
    → ((other : ℕ) → other < 64 → (other ≡ i → ⊥) → number_at changed other ≡ number_at nodes other)
    → next ≤ most_ticks
    → IsAt tasks (slice_set streams i s) changed (demand + s.cost) next
counts tasks streams nodes changed demand point next i s at inside more least later there played here others short =
    let few = few_streams tasks streams nodes demand point at in
    let old = stream_at streams i in
    let same : length (slice_set streams i s) ≡ length streams = length-set streams i s in
    let ahead = next_more old s more in
    let period = more.period in
    record {
      set = at.set;
      of_tasks = streams_still tasks streams i s inside more at.of_tasks;
      played = played;
      nexts = λ place lt.
          ⊎_elim
          (λ (e : place ≡ i).
          let read : stream_at (slice_set streams i s) place ≡ s = ap (stream_at (slice_set streams i s)) e ∙ get_or-set_same streams i s nothing inside in
          ap (number_at changed) e ∙ here ∙ ap next_of (sym read))
          (λ (ne : place ≡ i → ⊥).
          let read : stream_at (slice_set streams i s) place ≡ stream_at streams place = get_or-set_other streams i place s nothing ne in
          others place (omega arith) ne ∙ at.nexts place (omega arith) ∙ ap next_of (sym read))
          (cases_eq place i);
      rest = λ place out lt. others place lt (λ (e : place ≡ i). omega arith) ∙ at.rest place (omega arith) lt;
      counted =
          let f = λ (x : Stream). x.jobs * x.cost in
          let sums : sum_by f (slice_set streams i s) + f old ≡ sum_by f streams + f s = sum_by-set f streams i s nothing inside in
          let dear = cost_more old s more in
          let cost = more.cost in
          let was : demand ≡ sum_by f streams = at.counted in
          omega arith;
      short = short;
      ahead = All-set (λ x. next ≤ next_of x) streams i s (omega arith) least;
      near = All-set (λ x. next_of x ≤ next + x.period) streams i s (omega arith)
          (All-weaker (λ x. next_of x ≤ point + x.period) (λ x. next_of x ≤ next + x.period) (λ (x : Stream) h. omega arith) streams at.near);
    }

-- a stream of which a job more is counted, and the streams where one was lent and written back
abbrev pub one_more : Stream → Stream
one_more s = record { cost = s.cost; period = s.period; within = s.within; jobs = s.jobs + 1 }

-- as where the list was read, and lent to be changed
pub counts_lent : (tasks : List Task) (streams read lent : List Stream) (nodes changed : List Entrant) (demand point next i : ℕ)
    → IsAt tasks streams nodes demand point
    → read ≡ streams
    → lent ≡ streams
    → i < length streams
    → All (λ x. next ≤ next_of x) streams
    → point ≤ next
    → next ≡ next_of (stream_at streams i)
    → IsPlayed changed
    → number_at changed i ≡ next_of (one_more (stream_at read i))
    → ((other : ℕ) → other < 64 → (other ≡ i → ⊥) → number_at changed other ≡ number_at nodes other)
    → next ≤ most_ticks
    → IsAt tasks (refill (length streams) streams (slice_set lent i (one_more (stream_at read i)))) changed (demand + (stream_at read i).cost) next
counts_lent tasks streams read lent nodes changed demand point next i at e f inside least later there played here others short =
    let s = one_more (stream_at streams i) in
    let number : number_at changed i ≡ next_of s = subst (λ (l : List Stream). number_at changed i ≡ next_of (one_more (stream_at l i))) e here in
    let now = counts tasks streams nodes changed demand point next i s at inside (record { cost = refl; period = refl; due = refl; jobs = refl }) least later there played number others short in
    let whole : refill (length streams) streams (slice_set streams i s) ≡ slice_set streams i s = refilled (length streams) streams (slice_set streams i s) (sym (length-set streams i s)) in
    let back : IsAt tasks (refill (length streams) streams (slice_set streams i s)) changed (demand + s.cost) next = subst (λ (l : List Stream). IsAt tasks l changed (demand + s.cost) next) (sym whole) now in
    subst (λ (l : List Stream). IsAt tasks (refill (length streams) streams (slice_set l i (one_more (stream_at read i)))) changed (demand + (stream_at read i).cost) next) (sym f)
    (subst (λ (l : List Stream). IsAt tasks (refill (length streams) streams (slice_set streams i (one_more (stream_at l i)))) changed (demand + (stream_at l i).cost) next) (sym e) back)

-- and before the first point where none is counted
pub starts : (tasks : List Task) (streams : List Stream) (nodes : List Entrant) → IsTaskSet tasks → AreStreamsOf tasks streams → All (λ s. s.jobs ≡ 0) streams → IsPlayed nodes → ((place : ℕ) → place < length streams → number_at nodes place ≡ next_of (stream_at streams place))
    → ((place : ℕ) → length streams ≤ place → place < 64 → number_at nodes place ≡ never) → IsAt tasks streams nodes 0 0
starts tasks streams nodes set are none played nexts rest =
    let each : All (λ s. s.jobs * s.cost ≤ 0) streams =
    λ k d lt. let s = slice_index_or streams k d in let e : s.jobs * s.cost ≡ 0 * s.cost = ap (λ (n : ℕ). n * s.cost) (none k d lt) in omega arith in
    let all : cost_counted streams ≤ length streams * 0 = sum_by-le (λ (s : Stream). s.jobs * s.cost) 0 streams each in
    record {
      set = set;
      of_tasks = are;
      played = played;
      nexts = nexts;
      rest = rest;
      counted = omega arith;
      short = omega arith;
      ahead = λ k d lt. omega arith;
      near = λ k d lt.
          let s = slice_index_or streams k d in
          let is = are.paced k d lt in
          let short = is.in_period in
          let e : s.jobs * s.period ≡ 0 * s.period = ap (λ (n : ℕ). n * s.period) (none k d lt) in
          omega arith;
    }

-- what is counted has a bound
pub demand_small : (tasks : List Task) (streams : List Stream) (nodes : List Entrant) (demand point : ℕ) → IsAt tasks streams nodes demand point → demand ≤ 5000000000000000
demand_small tasks streams nodes demand point at =
    let counted = at.counted in
    let small = cost_small tasks streams point at.set.0 at.of_tasks at.near at.short in
    omega arith

-- where the dearest leaves room in the span behind the point, each task does
pub room_here : (tasks : List Task) (streams : List Stream) (nodes : List Entrant) (demand point next : ℕ) (d : Dearest) → IsAt tasks streams nodes demand point → All (λ s. next ≤ next_of s) streams → point < next
    → IsDearest tasks (point + 1) d → point + 1 ≤ d.until → demand + d.cost ≤ point + 1 → HaveRoom tasks (point + 1) tasks
room_here tasks streams nodes demand point next d at least less dear until room =
    let here : demand ≡ demand_bound tasks point = at.counted ∙ demand_here tasks streams point at.of_tasks (passed tasks streams nodes demand point next at least less) in
    let same : demand_bound tasks point ≡ demand_bound tasks (point + 1 - 1) = ap (demand_bound tasks) (omega arith) in
    room_by_dearest tasks (point + 1) demand d dear until (here ∙ same) room

-- and where all have room in it, they have it up to the next point
pub rooms_on : (tasks : List Task) (streams : List Stream) (nodes : List Entrant) (demand point next : ℕ) → IsAt tasks streams nodes demand point → All (λ s. next ≤ next_of s) streams → point < next
    → ((span : ℕ) → span ≤ point → HaveRoom tasks span tasks) → HaveRoom tasks (point + 1) tasks → (span : ℕ) → span ≤ next → HaveRoom tasks span tasks
rooms_on tasks streams nodes demand point next at least less rooms here =
    room_between tasks point next (due_in_periods tasks at.set) (before_least tasks streams point next at.of_tasks (passed tasks streams nodes demand point next at least less) least) (room_more tasks point rooms here)

-- a breach there is the first
pub first_there : (tasks : List Task) (point : ℕ) (found : Option Breach) → IfSome found (λ b. b.len ≡ point + 1) → IfSome found (λ b. IsLowestBreach tasks b) → ((span : ℕ) → span ≤ point → HaveRoom tasks span tasks) → IfSome found (λ b. IsFirstBreach tasks b)
first_there tasks point None len lowest rooms = lowest
first_there tasks point (Some b) len lowest rooms = record { lowest = lowest; shortest = λ span less. rooms span (omega arith) }
