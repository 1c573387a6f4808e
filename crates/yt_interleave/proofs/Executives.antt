-- What an executive's entries and its body's ticks left say of an interleaved run.
use Rattle.std.proofs.Common.{◌≡◌, ◌⊎◌, ℕ, zero, suc, ◌+◌, ◌<◌, ◌≤◌, true, false, cond, eqb, List, [], ◌∷◌, length, get_or, Option, None, Some, refl, sym, ap, ap₂, subst, ◌∙◌, inl, inr, ⊎_elim, arith, eq-eqb, ne_eqb}
use Rattle.std.specs.List.{Contains}
use Rattle.std.specs.Option.{unwrap_or}
use Rattle.std.proofs.lemmas.Bool.{cases_eq, cases_lt, cond-true, cond-false, both_ways}
use Rattle.std.proofs.lemmas.List.{length-map, get_or_past}
use Rattle.std.proofs.lemmas.Option.{none-some, same_Some, slice_get-get_or}
use Rattle.yt_graph.specs.Picture.{GraphTree, PortTree}
use Rattle.yt_set.specs.declared.task.Task.{Task}
use Rattle.yt_set.specs.Tasks.{within}
use Rattle.yt_log.specs.declared.job.Job.{Job}
use Rattle.yt_log.specs.declared.plan.PlanItem.{PlanItem}
use Rattle.yt_log.specs.Plan.{its_task, deadline_of}
use Rattle.yt_log.specs.Tasks as numbers
use Rattle.yt_log.specs.Tasks.{Has}
use Rattle.yt_log.specs.Ticks.{Ticks, done, IsWaiting}
use Rattle.yt_log.proofs.Lemmas.{one_item, good_item, done_grows}
use Rattle.yt_ready.specs.declared.entry.Entry.{Entry}
use Rattle.yt_exec.specs.Bodies.{task_in}
use Rattle.yt_exec.specs.Moments.{Moment, job_in}
use Rattle.yt_exec.specs.StandsFor.{StandsFor, entry_of}
use Rattle.yt_rates.specs.Tables.{task_of, tasks_of}
use Rattle.yt_serial.specs.declared.shown.OutLine.{OutLine}
use Rattle.yt_trace.specs.declared.message.Message.{Message}
use Rattle.yt_serial.specs.PortMessages.{PortMessage}
use Rattle.yt_list.specs.Numbered.{numbered}
use Rattle.yt_serial.specs.SerialHandling.{Serial, messages_at, items_of, handled_of}
use Rattle.yt_graph.specs.Labels.{no_port}
use Rattle.yt_interleave.specs.Executives.{HasLeft, AllReleased, AllDue, Executes, ExecutivesFollow}
use Rattle.yt_interleave.specs.Interleaved as own
use Rattle.yt_interleave.specs.Interleaved.{ActiveJob, port_at, group_at, known_at, to_come, put, whole_of, item_of, with_begun, with_tick, with_end}
use Rattle.yt_serial.specs.Beginnings.{nth_job}
use Rattle.yt_interleave.specs.Moves.{MayBegin, after_tick, active_job, AllKnownHandled}
use Rattle.yt_serial.specs.Premises.{IsSchedulable}
use Rattle.yt_interleave.specs.Runs.{IsRunning}
use Rattle.yt_interleave.specs.Timing.{WaitsToBegin}
use Rattle.yt_serial.proofs.Lemmas.{done_this, port_task, numbered_within}
use Rattle.yt_interleave.proofs.Pieces.{placed_none, put_same, to_come_none}
use Rattle.yt_interleave.proofs.Steps.{after_last, after_other}
use Rattle.yt_interleave.proofs.Timing.{serial}

-- whether an item has begun, by its entry
entry_begun : (tasks : List Task) (log : Ticks) (z : PlanItem) → (entry_of tasks log z).begun ≡ true → 0 < done log z.job (length log)
entry_begun tasks log z h =
    ⊎_elim
    (λ (e : done log z.job (length log) ≡ 0). absurd (both_ways (cond (eqb (done log z.job (length log)) 0) false true) (cond-true (eqb (done log z.job (length log)) 0) false true (eq-eqb (done log z.job (length log)) 0 e)) h))
    (λ (ne : done log z.job (length log) ≡ 0 → ⊥). omega arith)
    (cases_eq (done log z.job (length log)) 0)

entry_fresh : (tasks : List Task) (log : Ticks) (z : PlanItem) → (entry_of tasks log z).begun ≡ false → done log z.job (length log) ≡ 0
entry_fresh tasks log z h =
    ⊎_elim
    (λ (e : done log z.job (length log) ≡ 0). e)
    (λ (ne : done log z.job (length log) ≡ 0 → ⊥).
    absurd (both_ways (cond (eqb (done log z.job (length log)) 0) false true) h (cond-false (eqb (done log z.job (length log)) 0) false true (ne_eqb (done log z.job (length log)) 0 ne))))
    (cases_eq (done log z.job (length log)) 0)

-- the resource of a port's task
no_resource : (g : GraphTree) (k : ℕ) → numbered g.ports k ≡ None → (numbers.task_of (tasks_of g) k).resource ≡ 0
unfolding numbers.task_of
no_resource g zero e = refl
no_resource g (suc k) e =
    ⊎_elim
    (λ (lt : k < length g.ports). absurd (none-some (get_or g.ports k no_port) (sym e ∙ slice_get-get_or g.ports k no_port lt)))
    (λ (ge : length g.ports ≤ k). let long = length-map g.ports (task_of g) in ap (λ (t : Task). t.resource) (get_or_past (tasks_of g) k numbers.no_task (omega arith)))
    (cases_lt k (length g.ports))

pub group_is : (g : GraphTree) (n : ℕ) → group_at g n ≡ (numbers.task_of (tasks_of g) n).resource
group_is g n = by (numbered g.ports n) refl
  where
    by : (o : Option PortTree) → numbered g.ports n ≡ o → group_at g n ≡ (numbers.task_of (tasks_of g) n).resource
    by (Some p) is =
        let t = port_task g n p is in
        ap (λ (o : Option PortTree). (unwrap_or o no_port).group) is ∙ sym (ap (λ (k : Task). k.resource) t.2)
    by None is = ap (λ (o : Option PortTree). (unwrap_or o no_port).group) is ∙ sym (no_resource g n is)

module _ (g : GraphTree) (trace : List Message) (able : IsSchedulable g trace) (s : Serial) (r : own.RunState) (due : ℕ) (plan : List PlanItem) (lines : List OutLine)
    (is : IsRunning g trace s r due plan lines) (moment : Moment) (left : Job → ℕ) (stands : StandsFor moment left plan r.log) where
  -- an item of the plan that has begun and waits is active
  active_item : (z : PlanItem) → Has plan z → 0 < done r.log z.job (length r.log) → done r.log z.job (length r.log) < z.cost → (b : ActiveJob) × (r.active z.job.task ≡ Some b) × (b.job ≡ z.job)
  active_item z has begun unfinished =
      let y = is.interleaves.stands.named z.job begun in
      let same : y.0 ≡ z = one_item (tasks_of g) plan is.by.legal y.0 z (is.goes.begun y.0 y.1) has y.2 in
      let old : Has (items_of s) z = subst (λ (x : PlanItem). Has (items_of s) x) same y.1 in
      ⊎_elim
      (λ (a : (b : ActiveJob) × (r.active z.job.task ≡ Some b) × (z ≡ item_of g b)). (a.0, a.1, ap (λ (x : PlanItem). x.job) (sym a.2)))
      (λ (e : done r.log z.job (length r.log) ≡ z.cost). absurd (omega arith))
      (is.interleaves.stands.ended z old)

  pending : (entry : Entry) → Contains moment.entries entry → entry.begun ≡ false → (m : PortMessage) × WaitsToBegin r (job_in entry) m
  pending entry has fresh =
      let o = stands.only entry has in
      let z = o.0 in
      let k = is.goes.known z o.1 in
      let job : job_in entry ≡ z.job = ap job_in o.3 in
      let none = entry_fresh moment.tasks r.log z (ap (λ (x : Entry). x.begun) (sym o.3) ∙ fresh) in
      let come = o.2.arrived in
      let time = k.2 in
      let p : WaitsToBegin r z.job k.0 = record { there = k.1; arrived = omega arith; fresh = none } in
      (k.0, subst (λ (j : Job). WaitsToBegin r j k.0) (sym job) p)

  under_way : (entry : Entry) → Contains moment.entries entry → entry.begun ≡ true → (b : ActiveJob) × (r.active entry.task ≡ Some b) × (b.job ≡ job_in entry)
  under_way entry has begun =
      let o = stands.only entry has in
      let z = o.0 in
      let job : job_in entry ≡ z.job = ap job_in o.3 in
      let some = entry_begun moment.tasks r.log z (ap (λ (x : Entry). x.begun) (sym o.3) ∙ begun) in
      let a = active_item z o.1 some o.2.unfinished in
      (a.0, ap r.active (ap (λ (j : Job). j.task) job) ∙ a.1, a.2 ∙ sym job)

  -- no item of the plan waits
  over : length r.log ≤ due → due ≤ suc (length r.log) → AllReleased r due → moment.entries ≡ [] → AllKnownHandled g s r
  over low high placed none =
      let idle : (z : PlanItem) → Has plan z → IsWaiting r.log (length r.log) z → ⊥ = λ z has w. no_entry (entry_of moment.tasks r.log z) (subst (λ es. Contains es (entry_of moment.tasks r.log z)) none (stands.waiting z has w)) in
      let quiet : (port : ℕ) → r.active port ≡ None = λ port. none_at port (r.active port) refl idle in
      record { none = quiet; all = λ port some most. all_at port idle quiet }
    where
      no_entry : (e : Entry) → Contains {X = Entry} [] e → ⊥
      no_entry e h = let k = h.1 in absurd (omega arith)

      none_at : (port : ℕ) (o : Option ActiveJob) → r.active port ≡ o → ((z : PlanItem) → Has plan z → IsWaiting r.log (length r.log) z → ⊥) → r.active port ≡ None
      none_at port None at idle = at
      none_at port (Some b) at idle =
          let u = is.interleaves.stands.under_way port b at in
          absurd (idle (item_of g b) (is.goes.begun (item_of g b) u.item) (record { arrived = u.arrived; unfinished = is.interleaves.unfinished port b at }))

      numbered_last : (ms : List PortMessage) → (length ms ≡ 0) ⊎ ((m : PortMessage) × (numbered ms (length ms) ≡ Some m))
      numbered_last [] = inl refl
      numbered_last (m ∷ ms) = inr (get_or (m ∷ ms) (length ms) m, slice_get-get_or (m ∷ ms) (length ms) m (omega arith))

      all_at : (port : ℕ) → ((z : PlanItem) → Has plan z → IsWaiting r.log (length r.log) z → ⊥) → ((p : ℕ) → r.active p ≡ None) → handled_of s port ≡ length (known_at r port)
      all_at port idle quiet =
          let st = is.interleaves.stands in
          let same : s.messages ≡ r.messages = st.messages ∙ placed_none (to_come g r.active) (to_come_none g r.active quiet) g.ports r.messages st.long in
          let holds = serial g trace able.can s r is.interleaves in
          -- each handled message is known
          let most : handled_of s port ≤ length (known_at r port) =
          ⊎_elim
          (λ (e : handled_of s port ≡ 0). omega arith)
          (λ (ne : handled_of s port ≡ 0 → ⊥).
          let z = st.all port (handled_of s port) (omega arith) (omega arith) in
          let of = holds.items z.0 z.1 in
          let there : numbered (known_at r port) (handled_of s port) ≡ Some of.message =
          ap (λ (ms : List (List PortMessage)). numbered (unwrap_or (numbered ms port) []) (handled_of s port)) (sym same)
          ∙ ap (λ (j : Job). numbered (messages_at s j.task) j.number) (sym z.2) ∙ of.there in
          (numbered_within (known_at r port) (handled_of s port) of.message there).1)
          (cases_eq (handled_of s port) 0) in
          -- and each known one is handled
          let least : length (known_at r port) ≤ handled_of s port =
          ⊎_elim
          (λ (e : length (known_at r port) ≡ 0). omega arith)
          (λ (m : (m : PortMessage) × (numbered (known_at r port) (length (known_at r port)) ≡ Some m)).
          let come = placed port (length (known_at r port)) m.0 m.1 in
          let z = is.goes.all port (length (known_at r port)) m.0 m.1 come in
          let k = is.goes.known z.0 z.1 in
          let at : m.0 ≡ k.0 = same_Some m.0 k.0 (sym m.1 ∙ ap (λ (j : Job). numbered (known_at r j.task) j.number) (sym z.2) ∙ k.1) in
          let time : m.0.time ≡ z.0.arrival = ap (λ (x : PortMessage). x.time) at ∙ k.2 in
          let cost = (good_item (tasks_of g) plan is.by.legal z.0 z.1).some in
          ⊎_elim
          (λ (lt : done r.log z.0.job (length r.log) < z.0.cost). absurd (idle z.0 z.1 (record { arrived = omega arith; unfinished = lt })))
          (λ (ge : z.0.cost ≤ done r.log z.0.job (length r.log)).
          let y = st.named z.0.job (omega arith) in
          let h = (holds.items y.0 y.1).handled in
          let job : y.0.job ≡ nth_job port (length (known_at r port)) = y.2 ∙ z.2 in
          let number : y.0.job.number ≡ length (known_at r port) = ap (λ (j : Job). j.number) job in
          let count : handled_of s y.0.job.task ≡ handled_of s port = ap (λ (j : Job). handled_of s j.task) job in
          omega arith)
          (cases_lt (done r.log z.0.job (length r.log)) z.0.cost))
          (numbered_last (known_at r port)) in
          omega arith

-- the deadlines that are past are kept, so a job that waits is due later
in_time : (g : GraphTree) (trace : List Message) → IsSchedulable g trace → (s : Serial) (r : own.RunState) (due : ℕ) (plan : List PlanItem) (lines : List OutLine)
    → IsRunning g trace s r due plan lines → (moment : Moment) (left : Job → ℕ) → Executes g r plan moment left → AllDue moment
unfolding deadline_of
in_time g trace able s r due plan lines is moment left executes entry has =
    let o = executes.stands.only entry has in
    let z = o.0 in
    let n = length r.log in
    let clock = executes.stands.clock in
    let arrival : entry.arrival ≡ z.arrival = ap (λ (x : Entry). x.arrival) o.3 in
    let task : within (task_in moment.tasks (job_in entry)) ≡ within (its_task (tasks_of g) z) =
    ap₂ (λ (ts : List Task) (j : Job). within (task_in ts j)) executes.tasks (ap job_in o.3) in
    ⊎_elim
    (λ (lt : n < z.arrival + within (its_task (tasks_of g) z)). omega arith)
    (λ (ge : z.arrival + within (its_task (tasks_of g) z) ≤ n).
    let kept = able.keeps plan is.by.legal r.log is.by.rule z o.1 ge in
    let grown = done_grows r.log z.job (z.arrival + within (its_task (tasks_of g) z)) n ge in
    let unfinished = o.2.unfinished in
    absurd (omega arith))
    (cases_lt n (z.arrival + within (its_task (tasks_of g) z)))

cost : (g : GraphTree) (trace : List Message) → IsSchedulable g trace → (s : Serial) (r : own.RunState) (job : Job) (m : PortMessage) → MayBegin g s r job m
    → done r.log job (length r.log) ≡ 0 → (left : Job → ℕ) → HasLeft g (after_tick g (active_job job m s) (with_begun job m s.vars r)) left
    → left job + 1 ≡ (whole_of g (active_job job m s)).ticks
cost g trace able s r job m may fresh left has =
    let b = active_job job m s in
    let r1 = with_begun job m s.vars r in
    let this : done (with_tick g b r1).log job (length (with_tick g b r1).log) ≡ suc (done r.log job (length r.log)) = done_this r.log (Some job) job refl in
    ⊎_elim
    (λ (e : done r1.log b.job (length r1.log) + 1 ≡ (whole_of g b).ticks).
    let h = subst (λ (x : own.RunState). HasLeft g x left) (after_last g b r1 e) has in
    ⊎_elim
    (λ (lt : 0 < left job).
    let a = h.only job lt in
    absurd (none-some a.0 (sym (put_same job.task None r1.active job.task refl) ∙ a.1)))
    (λ (ge : left job ≤ 0). omega arith)
    (cases_lt 0 (left job)))
    (λ (ne : done r1.log b.job (length r1.log) + 1 ≡ (whole_of g b).ticks → ⊥).
    let h = subst (λ (x : own.RunState). HasLeft g x left) (after_other g b r1 ne) has in
    let a = h.active job.task b (put_same job.task (Some b) r.active job.task refl) in
    omega arith)
    (cases_eq (done r1.log b.job (length r1.log) + 1) (whole_of g b).ticks)

pub executives_follow : ExecutivesFollow
executives_follow = record {
  pending = λ g trace able s r due plan lines is moment left stands entry has fresh. pending g trace able s r due plan lines is moment left stands entry has fresh;
  under_way = λ g trace able s r due plan lines is moment left stands entry has begun. under_way g trace able s r due plan lines is moment left stands entry has begun;
  over = λ g trace able s r due plan lines is low high placed moment left stands none. over g trace able s r due plan lines is moment left stands low high placed none;
  in_time = in_time;
  cost = λ g trace able s r job m may fresh left has. cost g trace able s r job m may fresh left has;
}
