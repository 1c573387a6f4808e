-- A message that comes now is of a job that may be released.
use Rattle.std.proofs.Common.{◌≡◌, ◌⊎◌, ℕ, ◌+◌, ◌-◌, ◌<◌, ◌≤◌, cond, eqb, List, [], ◌∷◌, length, Some, refl, sym, ap, subst, ◌∙◌, inl, inr, ⊎_elim, arith, eq-eqb, ne_eqb}
use Rattle.std.proofs.lemmas.Bool.{cases_eq, cases_lt, cond-true, cond-false}
use Rattle.std.proofs.lemmas.Option.{same_Some}
use Rattle.yt_graph.specs.Picture.{GraphTree}
use Rattle.yt_set.specs.declared.task.Task.{Task}
use Rattle.yt_log.specs.declared.job.Job.{Job}
use Rattle.yt_log.specs.declared.plan.PlanItem.{PlanItem}
use Rattle.yt_log.specs.Plan.{jobs_of, IsLegalAfter, IsLegal}
use Rattle.yt_log.specs.Tasks.{Has, task_of}
use Rattle.yt_log.proofs.Lemmas.{jobs_none}
use Rattle.yt_log.proofs.Lemmas.{jobs_of-cons}
use Rattle.yt_log.specs.declared.last_jobs.LastJob.{LastJob}
use Rattle.yt_exec.specs.Moments.{Moment, no_release, release_of, IsNextJob}
use Rattle.yt_exec.specs.StandsFor.{StandsFor, last_release}
use Rattle.yt_rates.specs.Rates.{period_of}
use Rattle.yt_rates.specs.Tables.{tasks_of}
use Rattle.yt_serial.specs.declared.shown.OutLine.{OutLine}
use Rattle.yt_trace.specs.declared.message.Message.{Message}
use Rattle.yt_serial.specs.PortMessages.{PortMessage}
use Rattle.yt_list.specs.Numbered.{numbered}
use Rattle.yt_serial.specs.SerialHandling.{Serial}
use Rattle.yt_interleave.specs.Interleaved as own
use Rattle.yt_interleave.specs.Interleaved.{known_at}
use Rattle.yt_serial.specs.Premises.{IsSchedulable}
use Rattle.yt_interleave.specs.Runs.{IsRunning}
use Rattle.yt_interleave.proofs.Timing.{known_port, known_first, apart, number_before}
use Rattle.yt_serial.proofs.Lemmas.{port_task, numbered_within, period_some}
use Rattle.yt_serial.specs.Beginnings.{nth_job}

-- no item has a greater number than its task has items
number_le : (tasks : List Task) (before items : List PlanItem) → IsLegalAfter tasks before items → (z : PlanItem) → Has items z → z.job.number ≤ jobs_of z.job.task before + jobs_of z.job.task items
number_le tasks before [] legal z has = absurd has
number_le tasks before (x ∷ items) legal z has =
    ⊎_elim
    (λ (e : z ≡ x).
    let n = legal.0.number in
    let c = jobs_of-cons x.job.task x items in
    let k : cond {A = ℕ} (eqb x.job.task x.job.task) 1 0 ≡ 1 = cond-true (eqb x.job.task x.job.task) 1 0 (eq-eqb x.job.task x.job.task refl) in
    let P : PlanItem → Type 0 = λ y. y.job.number ≤ jobs_of y.job.task before + jobs_of y.job.task (x ∷ items) in
    subst P (sym e) (omega arith))
    (λ (h : Has items z).
    let r = number_le tasks (x ∷ before) items legal.1 z h in
    let a = jobs_of-cons z.job.task x before in
    let b = jobs_of-cons z.job.task x items in
    omega arith)
    has

-- the last release of a task after the items of a legal plan: it has as its number how many there are, and is that of the item
record IsLastOf (task : ℕ) (count : ℕ) (items : List PlanItem) (last result : LastJob) : Type 0 where
  number : result.number ≡ count
  item : ((jobs_of task items ≡ 0) × (result ≡ last)) ⊎ ((z : PlanItem) × (Has items z) × (z.job ≡ nth_job task result.number) × (z.arrival ≡ result.arrival))

last-cons : (last : LastJob) (task : ℕ) (x : PlanItem) (items : List PlanItem)
    → last_release last task (x ∷ items) ≡ last_release (cond (eqb x.job.task task) (record { number = x.job.number; arrival = x.arrival }) last) task items
unfolding last_release
last-cons last task x items = refl

last_none : (last : LastJob) (task : ℕ) → last_release last task [] ≡ last
unfolding last_release
last_none last task = refl

last_of : (tasks : List Task) (before items : List PlanItem) (last : LastJob) (task : ℕ) → IsLegalAfter tasks before items → last.number ≡ jobs_of task before
    → IsLastOf task (jobs_of task before + jobs_of task items) items last (last_release last task items)
last_of tasks before [] last task legal is =
    let e = last_none last task in
    let z = jobs_none task in
    record { number = let n = ap (λ (r : LastJob). r.number) e in omega arith; item = inl (z, e) }
last_of tasks before (x ∷ items) last task legal is =
    let a = jobs_of-cons task x before in
    let b = jobs_of-cons task x items in
    ⊎_elim
    (λ (e : x.job.task ≡ task).
    let one : cond {A = ℕ} (eqb x.job.task task) 1 0 ≡ 1 = cond-true (eqb x.job.task task) 1 0 (eq-eqb x.job.task task e) in
    let new : LastJob = record { number = x.job.number; arrival = x.arrival } in
    let here : last_release last task (x ∷ items) ≡ last_release new task items =
    last-cons last task x items ∙ ap (λ (r : LastJob). last_release r task items) (cond-true (eqb x.job.task task) new last (eq-eqb x.job.task task e)) in
    let n = legal.0.number in
    let m : jobs_of x.job.task before ≡ jobs_of task before = ap (λ (t : ℕ). jobs_of t before) e in
    let rest = last_of tasks (x ∷ before) items new task legal.1 (omega arith) in
    let number = rest.number in
    subst (IsLastOf task (jobs_of task before + jobs_of task (x ∷ items)) (x ∷ items) last) (sym here) (record {
      number = omega arith;
      item = ⊎_elim
          (λ (k : (jobs_of task items ≡ 0) × (last_release new task items ≡ new)).
          let rn = ap (λ (r : LastJob). r.number) k.1 in
          let ra = ap (λ (r : LastJob). r.arrival) k.1 in
          inr (x, inl refl, ap (λ (t : ℕ). nth_job t x.job.number) e ∙ ap (nth_job task) (sym rn), sym ra))
          (λ (k : (z : PlanItem) × (Has items z) × (z.job ≡ nth_job task (last_release new task items).number) × (z.arrival ≡ (last_release new task items).arrival)).
          inr (k.0, inr k.1, k.2, k.3))
          rest.item;
    }))
    (λ (ne : x.job.task ≡ task → ⊥).
    let none : cond {A = ℕ} (eqb x.job.task task) 1 0 ≡ 0 = cond-false (eqb x.job.task task) 1 0 (ne_eqb x.job.task task ne) in
    let new : LastJob = record { number = x.job.number; arrival = x.arrival } in
    let here : last_release last task (x ∷ items) ≡ last_release last task items =
    last-cons last task x items ∙ ap (λ (r : LastJob). last_release r task items) (cond-false (eqb x.job.task task) new last (ne_eqb x.job.task task ne)) in
    let rest = last_of tasks (x ∷ before) items last task legal.1 (omega arith) in
    let number = rest.number in
    subst (IsLastOf task (jobs_of task before + jobs_of task (x ∷ items)) (x ∷ items) last) (sym here) (record {
      number = omega arith;
      item = ⊎_elim
          (λ (k : (jobs_of task items ≡ 0) × (last_release last task items ≡ last)). inl (omega arith, k.1))
          (λ (k : (z : PlanItem) × (Has items z) × (z.job ≡ nth_job task (last_release last task items).number) × (z.arrival ≡ (last_release last task items).arrival)).
          inr (k.0, inr k.1, k.2, k.3))
          rest.item;
    }))
    (cases_eq x.job.task task)

module _ (g : GraphTree) (trace : List Message) (able : IsSchedulable g trace) (s : Serial) (r : own.RunState) (plan : List PlanItem) (lines : List OutLine)
    (is : IsRunning g trace s r (length r.log) plan lines) (moment : Moment) (left : Job → ℕ) (wider : List PlanItem) (tasks : moment.tasks ≡ tasks_of g) (stands : StandsFor moment left wider r.log)
    (legal : IsLegal (tasks_of g) wider) (port n : ℕ) (m : PortMessage) (there : numbered (known_at r port) n ≡ Some m) (now : m.time ≡ length r.log)
    (into : (z : PlanItem) → Has plan z → Has wider z) (back : (z : PlanItem) → Has wider z → z.job.task ≡ port → Has plan z) where
  last : LastJob
  last = last_release no_release port wider

  is_last : IsLastOf port (jobs_of port [] + jobs_of port wider) wider no_release (last_release no_release port wider)
  is_last = last_of (tasks_of g) [] wider no_release port legal (sym (jobs_none port))

  -- the item of the last release, where there is one, is of a message that came a period ago or more
  last_item : (z : PlanItem) → Has wider z → z.job ≡ nth_job port (last_release no_release port wider).number
      → ((last_release no_release port wider).number < n) × (z.arrival + period_of g (known_port g trace able.can s r is.interleaves port n m there).0 ≤ length r.log)
  last_item z has job =
      let p = known_port g trace able.can s r is.interleaves port n m there in
      let k = (last_release no_release port wider).number in
      let old = back z has (ap (λ (j : Job). j.task) job) in
      let early = is.goes.early z old in
      let x = is.goes.known z old in
      let at : numbered (known_at r port) k ≡ Some x.0 = ap (λ (j : Job). numbered (known_at r j.task) j.number) (sym job) ∙ x.1 in
      let time = x.2 in
      let first = known_first g trace able.can s r is.interleaves in
      let less : k < n =
      ⊎_elim
      (λ (lt : k < n). lt)
      (λ (ge : n ≤ k).
      ⊎_elim
      (λ (e : k ≡ n).
      let same : x.0 ≡ m = same_Some x.0 m (sym at ∙ ap (numbered (known_at r port)) e ∙ there) in
      let t = ap (λ (y : PortMessage). y.time) same in
      absurd (omega arith))
      (λ (ne : k ≡ n → ⊥).
      let far = apart g trace able.can s r is.interleaves port n k p.0 m x.0 p.1 (first port n m there) (first port k x.0 at) (omega arith) in
      absurd (omega arith))
      (cases_eq k n))
      (cases_lt k n) in
      let far = apart g trace able.can s r is.interleaves port k n p.0 x.0 m p.1 (first port k x.0 at) (first port n m there) less in
      (less, omega arith)

  count_is : n ≡ (last_release no_release port wider).number + 1
  count_is =
      let l = is_last.number in
      let z0 = jobs_none port in
      let some = (numbered_within (known_at r port) n m there).0 in
      let p = known_port g trace able.can s r is.interleaves port n m there in
      let period = period_some g port p.0 able.can.rates p.1 in
      let low : (last_release no_release port wider).number < n =
      ⊎_elim
      (λ (k : (jobs_of port wider ≡ 0) × (last_release no_release port wider ≡ no_release)). let e = k.0 in omega arith)
      (λ (k : (z : PlanItem) × (Has wider z) × (z.job ≡ nth_job port (last_release no_release port wider).number) × (z.arrival ≡ (last_release no_release port wider).arrival)). (last_item k.0 k.1 k.2).0)
      is_last.item in
      let high : n ≤ (last_release no_release port wider).number + 1 =
      ⊎_elim
      (λ (e : n ≡ 1). omega arith)
      (λ (ne : n ≡ 1 → ⊥).
      let k = n - 1 in
      let x = number_before (known_at r port) n k m there (omega arith) (omega arith) in
      let first = known_first g trace able.can s r is.interleaves in
      let far = apart g trace able.can s r is.interleaves port k n p.0 x.0 m p.1 (first port k x.0 x.1) (first port n m there) (omega arith) in
      let z = is.goes.all port k x.0 x.1 (omega arith) in
      let le = number_le (tasks_of g) [] wider legal z.0 (into z.0 z.1) in
      let number : z.0.job.number ≡ k = ap (λ (j : Job). j.number) z.2 in
      let count : jobs_of z.0.job.task wider ≡ jobs_of port wider = ap (λ (j : Job). jobs_of j.task wider) z.2 in
      let none : jobs_of z.0.job.task [] ≡ 0 = jobs_none z.0.job.task in
      omega arith)
      (cases_eq n 1) in
      omega arith

pub next_job : (g : GraphTree) (trace : List Message) → IsSchedulable g trace → (s : Serial) (r : own.RunState) (plan : List PlanItem) (lines : List OutLine)
    → IsRunning g trace s r (length r.log) plan lines → (moment : Moment) (left : Job → ℕ) (wider : List PlanItem) → moment.tasks ≡ tasks_of g → StandsFor moment left wider r.log
    → IsLegal (tasks_of g) wider → (port n : ℕ) (m : PortMessage) → numbered (known_at r port) n ≡ Some m → m.time ≡ length r.log
    → ((z : PlanItem) → Has plan z → Has wider z) → ((z : PlanItem) → Has wider z → z.job.task ≡ port → Has plan z) → IsNextJob moment (nth_job port n)
next_job g trace able s r plan lines is moment left wider tasks stands legal port n m there now into back =
    let p = known_port g trace able.can s r is.interleaves port n m there in
    let range = port_task g port p.0 p.1 in
    let long : length moment.tasks ≡ length (tasks_of g) = ap length tasks in
    let released : release_of moment.releases port ≡ last_release no_release port wider = stands.releases port range.0 (let h = range.1 in omega arith) in
    let count = count_is g trace able s r plan lines is moment left wider tasks stands legal port n m there now into back in
    let number = ap (λ (x : LastJob). x.number) released in
    let arrival = ap (λ (x : LastJob). x.arrival) released in
    let clock = stands.clock in
    let period : (task_of moment.tasks port).period ≡ period_of g p.0 = ap (λ (ts : List Task). (task_of ts port).period) tasks ∙ ap (λ (t : Task). t.period) range.2 in
    record {
      number = omega arith;
      apart = λ some. ⊎_elim
          (λ (k : (jobs_of port wider ≡ 0) × (last_release no_release port wider ≡ no_release)). let e = ap (λ (x : LastJob). x.number) k.1 in absurd (omega arith))
          (λ (k : (z : PlanItem) × (Has wider z) × (z.job ≡ nth_job port (last_release no_release port wider).number) × (z.arrival ≡ (last_release no_release port wider).arrival)).
          let h = (last_item g trace able s r plan lines is moment left wider tasks stands legal port n m there now into back k.0 k.1 k.2).1 in
          let a = k.3 in
          omega arith)
          (is_last g trace able s r plan lines is moment left wider tasks stands legal port n m there now into back).item;
    }
