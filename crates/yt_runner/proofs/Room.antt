-- The room of an executive is enough for all jobs of a run.
use Rattle.std.proofs.Common.{◌≡◌, ℕ, suc, ◌+◌, ◌-◌, ◌≤◌, cond, eqb, true, false, List, [], ◌∷◌, ◌++◌, length, get_or, set, slice_get, Option, Some, refl, sym, ap, ◌∙◌, inl, inr, ⊎_elim, arith, eq-eqb, ne_eqb, length-set}
use Rattle.std.specs.List.{sum_by}
use Rattle.std.specs.Option.{unwrap_or}
use Rattle.std.specs.Prelude.{slice_set}
use Rattle.std.proofs.lemmas.Bool.{cases_eq, cases_Bool, cond-true, cond-false}
use Rattle.std.proofs.lemmas.List.{length-replicate}
use Rattle.std.proofs.lemmas.List.Folds.{sum_by-replicate}
use Rattle.std.proofs.lemmas.List.Sums.{sum_by-cons, sum_by-set}
use Rattle.std.proofs.lemmas.Option.{slice_get_within}
use Rattle.yt_graph.specs.Picture.{graph_tree}
use Rattle.yt_list.proofs.Lemmas.{numbered_or_place}
use Rattle.yt_set.specs.declared.task.Task.{Task}
use Rattle.yt_log.specs.declared.job.Job.{Job}
use Rattle.yt_log.specs.declared.last_jobs.LastJob.{LastJob}
use Rattle.yt_log.specs.declared.plan.PlanItem.{PlanItem}
use Rattle.yt_log.specs.Tasks.{Has}
use Rattle.yt_log.proofs.Lemmas.{has_append}
use Rattle.yt_exec.specs.declared.executive.Ticked.{Ticked}
use Rattle.yt_exec.specs.declared.executive.Ticked.TheVariants.{Idle, Ran}
use Rattle.yt_exec.specs.Bodies.{IsKnown}
use Rattle.yt_exec.specs.Moments.{IsNextJob, Moment, at_tick, no_release, release_of, start}
use Rattle.yt_exec.specs.StandsFor.{IsTick, last_release}
use Rattle.yt_chan.specs.declared.target.Arrived.{Arrived}
use Rattle.yt_rates.specs.Acceptance.{Parts}
use Rattle.yt_trace.specs.declared.message.Message.{Message}
use Rattle.yt_serial.specs.Beginnings.{order_of}
use Rattle.yt_serial.specs.declared.shown.OutLine.{OutLine}
use Rattle.yt_serial.specs.PortMessages.{PortMessage}
use Rattle.yt_serial.specs.SerialHandling.{Serial, messages_at}
use Rattle.yt_serial.proofs.Lemmas.{numbered_within}
use Rattle.yt_interleave.specs.Interleaved.{RunState, known_at}
use Rattle.yt_interleave.proofs.Lemmas.{known_first}
use Rattle.yt_list.specs.Numbered.{numbered}
use Rattle.yt_bound.specs.Bounds.{most_jobs}
use Rattle.yt_bound.proofs.Lemmas.{runs_are_bounded}
use Rattle.yt_body.specs.State.{HandlersState}
use Rattle.yt_body_laws.specs.Running.{IsTelling}
use Rattle.yt_runner.specs.Inside.Room.{HasRoom, jobs_released}

-- the number of a release
abbrev number_in : LastJob → ℕ
number_in last = last.number

-- a new executive with room for one job more than come
pub room_starts : (jobs : ℕ) (tasks : List Task) → HasRoom jobs (start tasks (jobs + 1))
room_starts jobs tasks =
    let none = sum_by-replicate number_in (length tasks) no_release in
    record { long = length-replicate (length tasks) no_release; room = omega arith }

-- the last release of a task has the number of an item, where there is any
last_number : (last : LastJob) (task most : ℕ) (items : List PlanItem) → last.number ≤ most → ((z : PlanItem) → Has items z → z.job.task ≡ task → z.job.number ≤ most) →
    (last_release last task items).number ≤ most
unfolding last_release
last_number last task most [] first each = first
last_number last task most (x ∷ xs) first each =
    let here : LastJob = record { number = x.job.number; arrival = x.arrival } in
    let next : LastJob = cond (eqb x.job.task task) here last in
    let small : next.number ≤ most =
    ⊎_elim
    (λ (e : x.job.task ≡ task). let a = ap number_in (cond-true (eqb x.job.task task) here last (eq-eqb x.job.task task e)) in let b = each x (inl refl) e in omega arith)
    (λ (ne : x.job.task ≡ task → ⊥). let a = ap number_in (cond-false (eqb x.job.task task) here last (ne_eqb x.job.task task ne)) in omega arith)
    (cases_eq x.job.task task) in
    last_number next task most xs small (λ z has own. each z (inr has) own)

-- the numbers of releases, each no greater than how many messages there are of the task
sum_most : (releases : List LastJob) (messages : List (List PortMessage)) →
    ((k : ℕ) (last : LastJob) → slice_get releases k ≡ Some last → last.number ≤ length (unwrap_or (slice_get messages k) [])) → sum_by number_in releases ≤ sum_by length messages
sum_most [] messages each = omega arith
sum_most (x ∷ xs) [] each =
    let first : x.number ≤ 0 = each 0 x refl in
    let rest : sum_by number_in xs ≤ 0 = sum_most xs [] (λ k last there. each (suc k) last there) in
    let c = sum_by-cons number_in x xs in
    omega arith
sum_most (x ∷ xs) (m ∷ ms) each =
    let first : x.number ≤ length m = each 0 x refl in
    let rest = sum_most xs ms (λ k last there. each (suc k) last there) in
    let c = sum_by-cons number_in x xs in
    let d = sum_by-cons (length {A = PortMessage}) m ms in
    omega arith

module _ {parts : Parts} {trace : List Message} {s : Serial} {r : RunState} {plan : List PlanItem} {lines : List OutLine} {due : Arrived → ℕ} {b : HandlersState} {moment : Moment}
    {new : List PlanItem} {more : List OutLine} (is : IsTelling parts trace s r plan lines due b moment new more) where
  -- an item has a known message of its number
  item_known : (z : PlanItem) → Has (plan ++ new) z → (m : PortMessage) × (numbered (known_at r z.job.task) z.job.number ≡ Some m)
  item_known z has =
      ⊎_elim
      (λ (h : Has plan z). let m = is.running.goes.known z h in (m.0, m.1))
      (λ (h : Has new z). let m = is.told.known z h in (m.0, m.1))
      (has_append plan new z has)

  item_small : (task : ℕ) (z : PlanItem) → Has (plan ++ new) z → z.job.task ≡ task → z.job.number ≤ length (messages_at s task)
  item_small task z has own =
      let known = item_known z has in
      let there = known_first (graph_tree parts.graph) trace is.placing.can.can s r is.placing.interleaves z.job.task z.job.number known.0 known.1 in
      let within = (numbered_within (messages_at s z.job.task) z.job.number known.0 there).1 in
      let same : length (messages_at s z.job.task) ≡ length (messages_at s task) = ap (λ (n : ℕ). length (messages_at s n)) own in
      omega arith

  released_small : length moment.releases ≡ length moment.tasks → (k : ℕ) (last : LastJob) → slice_get moment.releases k ≡ Some last → last.number ≤ length (unwrap_or (slice_get s.messages k) [])
  released_small long k last there =
      let within = slice_get_within moment.releases k last there in
      let own : release_of moment.releases (suc k) ≡ last = ap (λ (o : Option LastJob). unwrap_or o no_release) there in
      let of : release_of moment.releases (suc k) ≡ last_release no_release (suc k) (plan ++ new) = is.executes.stands.releases (suc k) (omega arith) (omega arith) in
      let number : last.number ≡ (last_release no_release (suc k) (plan ++ new)).number = ap number_in (sym own ∙ of) in
      let most = last_number no_release (suc k) (length (messages_at s (suc k))) (plan ++ new) (omega arith) (item_small (suc k)) in
      omega arith

  -- while what comes at a tick is released, there is room for one more
  pub room_free : HasRoom (most_jobs (graph_tree parts.graph) trace) moment → 1 ≤ moment.spare
  room_free room =
      let few = sum_most moment.releases s.messages (released_small room.long) in
      let most = runs_are_bounded.messages (graph_tree parts.graph) trace (order_of r.log) s (record { can = is.placing.can.can; along = is.placing.interleaves.stands.along }) in
      let some = room.room in
      omega arith

-- a release takes a place of the room, and its task's number grows
pub room_released : {jobs : ℕ} {old new : Moment} → HasRoom jobs old → (job : Job) → IsKnown old.tasks job → IsNextJob old job → new.tasks ≡ old.tasks → new.spare + 1 ≡ old.spare →
    new.releases ≡ slice_set old.releases (job.task - 1) (record { number = job.number; arrival = old.clock }) → HasRoom jobs new
room_released {jobs} {old} {new} room job known next tasks spare releases =
    let last : LastJob = record { number = job.number; arrival = old.clock } in
    let place = job.task - 1 in
    let some = known.0 in
    let most = known.1 in
    let long = room.long in
    let grown = ap (length {A = LastJob}) releases in
    let kept = length-set old.releases place last in
    let count = ap (length {A = Task}) tasks in
    let at : release_of old.releases job.task ≡ get_or old.releases place no_release = numbered_or_place old.releases job.task no_release some in
    let before : number_in (release_of old.releases job.task) ≡ number_in (get_or old.releases place no_release) = ap number_in at in
    let summed = sum_by-set number_in old.releases place last no_release (omega arith) in
    let same : jobs_released new ≡ sum_by number_in (set old.releases place last) = ap (sum_by number_in) releases in
    let number = next.number in
    let free = room.room in
    record { long = omega arith; room = omega arith }

-- no release and no less room
pub room_kept : {jobs : ℕ} {old new : Moment} → HasRoom jobs old → new.tasks ≡ old.tasks → new.releases ≡ old.releases → old.spare ≤ new.spare → HasRoom jobs new
room_kept {jobs} {old} {new} room tasks releases spare =
    let long = room.long in
    let grown = ap (length {A = LastJob}) releases in
    let count = ap (length {A = Task}) tasks in
    let same = ap (sum_by number_in) releases in
    let free = room.room in
    record { long = omega arith; room = omega arith }

-- a tick gives the place of a job that ends back
pub room_ticked : {jobs : ℕ} {X : Type 0} {old new : Moment} → HasRoom jobs old → (begins steps : X → Job → X → Type 0) (left : Job → ℕ) (before after : X) (ticked : Ticked) →
    IsTick begins steps left old new before after ticked → new.tasks ≡ old.tasks → new.releases ≡ old.releases → HasRoom jobs new
room_ticked {old = old} {new = new} room begins steps left before after Idle is tasks releases = let spare = is.2 in room_kept room tasks releases (omega arith)
room_ticked {old = old} {new = new} room begins steps left before after (Ran job ended) is tasks releases =
    let spare = is.5 in
    room_kept room tasks releases
    (⊎_elim
    (λ (e : ended ≡ true). let a : cond ended (old.spare + 1) old.spare ≡ old.spare + 1 = cond-true ended (old.spare + 1) old.spare e in omega arith)
    (λ (e : ended ≡ false). let a : cond ended (old.spare + 1) old.spare ≡ old.spare = cond-false ended (old.spare + 1) old.spare e in omega arith)
    (cases_Bool ended))

-- idle ticks change nothing
pub room_idled : {jobs : ℕ} {moment : Moment} (tick : ℕ) → HasRoom jobs moment → HasRoom jobs (at_tick tick moment)
room_idled tick room = record { long = room.long; room = room.room }
