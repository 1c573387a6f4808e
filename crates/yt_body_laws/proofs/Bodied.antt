-- The handlers are a body of the executive.
use Rattle.std.proofs.Common.{◌≡◌, suc, ◌<◌, ◌≤◌, true, false, eqb, List, length, Some, sym, ap, ◌∙◌, ⊎_elim, arith, ne_eqb}
use Rattle.std.specs.List.{Contains}
use Rattle.std.proofs.lemmas.Bool.{cases_lt, cond-false}
use Rattle.yt_graph.specs.Picture.{graph_tree}
use Rattle.yt_log.specs.declared.job.Job.{Job}
use Rattle.yt_log.specs.declared.plan.PlanItem.{PlanItem}
use Rattle.yt_log.specs.Ticks.{done}
use Rattle.yt_ready.specs.declared.entry.Entry.{Entry}
use Rattle.yt_exec.specs.Moments.{Moment, job_in}
use Rattle.yt_exec.specs.StandsFor.{IsBodyOf, entry_of}
use Rattle.yt_rates.specs.Acceptance.{Parts}
use Rattle.yt_rates.specs.Tables.{tasks_of}
use Rattle.yt_trace.specs.declared.message.Message.{Message}
use Rattle.yt_serial.specs.declared.shown.OutLine.{OutLine}
use Rattle.yt_serial.specs.SerialHandling.{Serial, handled_of}
use Rattle.yt_serial.proofs.Lemmas.{numbered_within}
use Rattle.yt_interleave.specs.Executives.{HasLeft}
use Rattle.yt_interleave.specs.Interleaved.{ActiveJob, RunState, item_of, known_at}
use Rattle.yt_interleave.proofs.Lemmas.{executives_follow}
use Rattle.yt_body.specs.State.{HandlersState, MayBegin, left_at, run_at, set_of}
use Rattle.yt_body_laws.specs.Running.{IsInStep}
use Rattle.yt_body_laws.proofs.Codes.{graph_in}
use Rattle.yt_body_laws.proofs.Left.{bodies_have_left}
use Rattle.yt_body_laws.proofs.Steps.{placed_from}

module _ (parts : Parts) (trace : List Message) (s : Serial) (r : RunState) (plan : List PlanItem) (lines : List OutLine) (b : HandlersState) (moment : Moment)
    (is : IsInStep parts trace s r plan lines (suc (length r.log)) b moment) where
  left_of : HasLeft (graph_in parts) r (left_at b)
  left_of = bodies_have_left parts is.accepted trace is.can.can s r is.running.interleaves (λ target. suc (length r.log)) b is.carries

  begun : (entry : Entry) → Contains moment.entries entry → entry.begun ≡ true → 0 < left_at b (job_in entry)
  begun entry has e =
      let a = executives_follow.under_way (graph_in parts) trace is.can s r (suc (length r.log)) plan lines is.running moment (left_at b) is.executes.stands entry has e in
      let left = left_of.active entry.task a.0 a.1 in
      let unfinished = is.running.interleaves.unfinished entry.task a.0 a.1 in
      let same : left_at b a.0.job ≡ left_at b (job_in entry) = ap (left_at b) a.2 in
      omega arith

  only : (job : Job) → 0 < left_at b job → (entry : Entry) × (Contains moment.entries entry) × (entry.begun ≡ true) × (job_in entry ≡ job)
  only job some =
      let a = left_of.only job some in
      let u = is.running.interleaves.stands.under_way job.task a.0 a.1 in
      let z = item_of (graph_in parts) a.0 in
      let begun = is.running.interleaves.begun job.task a.0 a.1 in
      let unfinished = is.running.interleaves.unfinished job.task a.0 a.1 in
      let count = done r.log a.0.job (length r.log) in (
        entry_of moment.tasks r.log z,
        is.executes.stands.waiting z (is.running.goes.begun z u.item) (record { arrived = u.arrived; unfinished = unfinished }),
        cond-false (eqb count 0) false true (ne_eqb count 0 (λ none. omega arith)),
        a.2,
      )

  -- a job that waits to begin has not been handled
  fresh : (job : Job) (some : 1 ≤ job.number) → done r.log job (length r.log) ≡ 0 → handled_of s job.task < job.number
  fresh job some none =
      ⊎_elim
      (λ (lt : handled_of s job.task < job.number). lt)
      (λ (le : job.number ≤ handled_of s job.task).
      let st = is.running.interleaves.stands in
      let z = st.all job.task job.number some le in
      let same : done r.log z.0.job (length r.log) ≡ done r.log job (length r.log) = ap (λ (j : Job). done r.log j (length r.log)) z.2 in
      let cost = z.3 in
      ⊎_elim
      (λ (a : (a : ActiveJob) × (r.active z.0.job.task ≡ Some a) × (z.0 ≡ item_of (graph_in parts) a)).
      let begun = is.running.interleaves.begun z.0.job.task a.0 a.1 in
      let own : done r.log z.0.job (length r.log) ≡ done r.log a.0.job (length r.log) = ap (λ (x : PlanItem). done r.log x.job (length r.log)) a.2 in
      absurd (omega arith))
      (λ (e : done r.log z.0.job (length r.log) ≡ z.0.cost). absurd (omega arith))
      (st.ended z.0 z.1))
      (cases_lt (handled_of s job.task) job.number)

  waiting : (entry : Entry) → Contains moment.entries entry → entry.begun ≡ false → MayBegin b (job_in entry)
  waiting entry has e =
      let w = executives_follow.pending (graph_in parts) trace is.can s r (suc (length r.log)) plan lines is.running moment (left_at b) is.executes.stands entry has e in
      let some = numbered_within (known_at r entry.task) entry.number w.0 w.1.there in
      let less = fresh (job_in entry) some.0 w.1.fresh in
      let arrived = w.1.arrived in
      let come = is.carries.arrived entry.task entry.number w.0 w.1.there (omega arith) in
      let placed = placed_from (run_at b entry.task).stage (run_at b entry.task).number (handled_of s entry.task) (is.carries.came entry.task) (omega arith) in
      record { stage = placed.0; number = let number = placed.1 in omega arith }

  pub body : IsBodyOf moment (set_of b) (left_at b) (MayBegin b)
  body = record {
    set = ap (λ (q : Parts). tasks_of (graph_tree q.graph)) is.carries.graph ∙ sym is.executes.tasks;
    begun = begun;
    only = only;
    waiting = waiting;
  }
