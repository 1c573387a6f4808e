-- No run has more jobs and lines than its bound.
use Rattle.std.proofs.Common.{◌≡◌, ◌⊎◌, ℕ, suc, ◌+◌, ◌<◌, ◌≤◌, cond, eqb, List, [], ◌∷◌, length, slice_get, Option, None, Some, refl, sym, ap, subst, ◌∙◌, inl, inr, ⊎_elim, arith, eq-eqb, ne_eqb, length-append}
use Rattle.std.specs.List.{sum_by}
use Rattle.std.specs.Prelude.{IsSomeAnd}
use Rattle.std.specs.Option.{option_map, unwrap_or}
use Rattle.std.proofs.lemmas.Bool.{cases_eq, cond-true, cond-false}
use Rattle.std.proofs.lemmas.List.{length-map}
use Rattle.std.proofs.lemmas.Option.{same_Some, option_and_then_some, slice_get_within, get_or_from_slice_get}
use Rattle.yt_graph.specs.declared.graph.Output.{Output}
use Rattle.yt_graph.specs.declared.port.OutHead.{OutHead}
use Rattle.yt_graph.specs.Picture.{GraphTree, PortTree}
use Rattle.yt_graph.specs.WellFormed.{IsFineOutput}
use Rattle.yt_log.specs.declared.job.Job.{Job}
use Rattle.yt_log.specs.declared.plan.PlanItem.{PlanItem}
use Rattle.yt_log.specs.Plan.{jobs_of, IsLegal, IsLegalAfter}
use Rattle.yt_log.specs.Tasks.{Has}
use Rattle.yt_log.specs.Ticks.{Ticks}
use Rattle.yt_log.proofs.Lemmas.{has_append, jobs_none, jobs_of-cons}
use Rattle.yt_list.specs.Numbered.{numbered}
use Rattle.yt_set.specs.declared.task.Task.{Task}
use Rattle.yt_serial.specs.Beginnings.{order_of}
use Rattle.yt_serial.specs.Bounds.{greatest_passed, most_messages}
use Rattle.yt_serial.specs.declared.shown.OutLine.{OutLine}
use Rattle.yt_trace.specs.declared.message.Message.{Message}
use Rattle.yt_serial.specs.Lines.{lines_of}
use Rattle.yt_trace.specs.Traces.{PortMessage}
use Rattle.yt_serial.specs.Premises.{CanRun, IsHandling}
use Rattle.yt_serial.specs.SerialHandling.{Handled, Serial, all_shown, handled_of, items_of, messages_at, serial_run, serial_step, shown, start}
use Rattle.yt_serial.specs.Told.{IsPromisedRun, line_before}
use Rattle.yt_serial.proofs.Lemmas.{Holds, lines_other, lines_same, messages_are_bounded, numbered_within, port_there, serial_holds, stepped}
use Rattle.yt_bound.specs.Bounds.{job_bound, most_jobs, most_lines, most_shown}
use Rattle.yt_bound.specs.Laws.{RunsAreBounded}
use Rattle.yt_bound.proofs.Counts.{count_from, count_more, count_sum, sort-length, sum_le}

-- each job handles one message
handled-length : (g : GraphTree) (order : List Job) (s t : Serial) → serial_run g order s ≡ Some t → length t.handled ≡ length s.handled + length order
handled-length g [] s t along = let e = ap (λ (x : Serial). length x.handled) (same_Some s t along) in omega arith
handled-length g (job ∷ order) s t along =
    option_and_then_some {P = length t.handled ≡ length s.handled + length (job ∷ order)} (serial_run g order) (serial_step g job s) t along
    (λ x step rest.
    let k = stepped g job s x step in
    let more : length x.handled ≡ length s.handled + 1 = sym (ap (λ (y : Serial). length y.handled) k.2) ∙ length-append s.handled _ in
    let n = handled-length g order x t rest in
    omega arith)

-- a line of an output that is there
abbrev IsShownBy : List Output → OutLine → Type 0
IsShownBy outputs l = (1 ≤ l.output) × (l.output ≤ length outputs)

shown_by : (n : ℕ) (ms : List PortMessage) (l : OutLine) → Has (shown n ms) l → l.output ≡ n
shown_by n [] l h = absurd h
shown_by n (m ∷ ms) l h =
    ⊎_elim
    (λ (e : l ≡ (record { time = m.time; output = n; values = m.values })). ap (λ (x : OutLine). x.output) e)
    (λ (k : Has (shown n ms) l). shown_by n ms l k)
    h

all_shown_by : (task : ℕ) (passes : ℕ → List PortMessage) (n : ℕ) (outputs : List Output) (l : OutLine) → Has (all_shown task passes n outputs) l → (n ≤ l.output) × (l.output < n + length outputs)
all_shown_by task passes n [] l h = absurd h
all_shown_by task passes n (o ∷ outputs) l h =
    let own = cond {A = List OutLine} (eqb o.port task) (shown n (passes o.out)) [] in
    ⊎_elim
    (λ (k : Has (cond {A = List OutLine} (eqb o.port task) (shown n (passes o.out)) []) l).
    ⊎_elim
    (λ (e : o.port ≡ task).
    let i = shown_by n (passes o.out) l (subst (λ (ls : List OutLine). Has ls l) (cond-true (eqb o.port task) (shown n (passes o.out)) [] (eq-eqb o.port task e)) k) in
    (omega arith, omega arith))
    (λ (ne : o.port ≡ task → ⊥). absurd (subst (λ (ls : List OutLine). Has ls l) (cond-false (eqb o.port task) (shown n (passes o.out)) [] (ne_eqb o.port task ne)) k))
    (cases_eq o.port task))
    (λ (k : Has (all_shown task passes (suc n) outputs) l). let i = all_shown_by task passes (suc n) outputs l k in (omega arith, omega arith))
    (has_append own (all_shown task passes (suc n) outputs) l h)

lines_along : (g : GraphTree) (order : List Job) (s t : Serial) → ((l : OutLine) → Has s.lines l → IsShownBy g.outputs l) → serial_run g order s ≡ Some t → (l : OutLine) → Has t.lines l → IsShownBy g.outputs l
lines_along g [] s t own along = λ l h. own l (subst (λ (x : Serial). Has x.lines l) (sym (same_Some s t along)) h)
lines_along g (job ∷ order) s t own along =
    option_and_then_some {P = (l : OutLine) → Has t.lines l → IsShownBy g.outputs l} (serial_run g order) (serial_step g job s) t along
    (λ x step rest.
    let k = stepped g job s x step in
    lines_along g order x t
    (λ l h. ⊎_elim
    (λ (old : Has s.lines l). own l old)
    (λ new. let i = all_shown_by job.task _ 1 g.outputs l new in (i.0, omega arith))
    (has_append s.lines _ l (subst (λ (y : Serial). Has y.lines l) (sym k.2) h)))
    rest)

-- as many lines as those of each output
lines_counted : (outputs : List Output) (lines : List OutLine) → ((l : OutLine) → Has lines l → IsShownBy outputs l) → length lines ≤ count_from 1 outputs (λ n. length (lines_of n lines))
lines_counted outputs [] own = omega arith
lines_counted outputs (l ∷ lines) own =
    let rest = lines_counted outputs lines (λ x h. own x (inr h)) in
    let here = own l (inl refl) in
    let same = ap length (lines_same l.output l lines refl) in
    let more = count_more 1 outputs (λ n. length (lines_of n lines)) (λ n. length (lines_of n (l ∷ lines))) l.output grows (omega arith) here.0 (let h = here.1 in omega arith) in
    omega arith
  where
    grows : (n : ℕ) → length (lines_of n lines) ≤ length (lines_of n (l ∷ lines))
    grows n =
        ⊎_elim
        (λ (e : l.output ≡ n). let a = ap length (lines_same n l lines e) in omega arith)
        (λ (ne : l.output ≡ n → ⊥). let a = ap length (lines_other n l lines ne) in omega arith)
        (cases_eq l.output n)

-- as many items as those of each port
items_counted : (ports : List PortTree) (items : List PlanItem) → ((z : PlanItem) → Has items z → (1 ≤ z.job.task) × (z.job.task ≤ length ports)) → length items ≤ count_from 1 ports (λ n. jobs_of n items)
items_counted ports [] own = omega arith
items_counted ports (z ∷ items) own =
    let rest = items_counted ports items (λ x h. own x (inr h)) in
    let here = own z (inl refl) in
    let c = jobs_of-cons z.job.task z items in
    let one : cond {A = ℕ} (eqb z.job.task z.job.task) 1 0 ≡ 1 = cond-true (eqb z.job.task z.job.task) 1 0 (eq-eqb z.job.task z.job.task refl) in
    let more = count_more 1 ports (λ n. jobs_of n items) (λ n. jobs_of n (z ∷ items)) z.job.task (λ n. let d = jobs_of-cons n z items in omega arith) (omega arith) here.0 (let h = here.1 in omega arith) in
    omega arith

-- a task has an item whose number is how many items it has, where it has any
record HasLast (items : List PlanItem) (task count : ℕ) : Type 0 where
  item : PlanItem
  has : Has items item
  same : item.job.task ≡ task
  number : item.job.number ≡ count

last_number : (tasks : List Task) (before items : List PlanItem) → IsLegalAfter tasks before items → (task : ℕ) → (jobs_of task items ≡ 0) ⊎ HasLast items task (jobs_of task before + jobs_of task items)
last_number tasks before [] legal task = inl (jobs_none task)
last_number tasks before (x ∷ items) legal task =
    let a = jobs_of-cons task x before in
    let b = jobs_of-cons task x items in
    ⊎_elim
    (λ (none : jobs_of task items ≡ 0).
    ⊎_elim
    (λ (e : x.job.task ≡ task).
    let one : cond {A = ℕ} (eqb x.job.task task) 1 0 ≡ 1 = cond-true (eqb x.job.task task) 1 0 (eq-eqb x.job.task task e) in
    let n = legal.0.number in
    let m : jobs_of x.job.task before ≡ jobs_of task before = ap (λ (t : ℕ). jobs_of t before) e in
    inr (record { item = x; has = inl refl; same = e; number = omega arith }))
    (λ (ne : x.job.task ≡ task → ⊥).
    let zero' : cond {A = ℕ} (eqb x.job.task task) 1 0 ≡ 0 = cond-false (eqb x.job.task task) 1 0 (ne_eqb x.job.task task ne) in
    inl (omega arith))
    (cases_eq x.job.task task))
    (λ (l : HasLast items task (jobs_of task (x ∷ before) + jobs_of task items)).
    let n = l.number in
    inr (record { item = l.item; has = inr l.has; same = l.same; number = omega arith }))
    (last_number tasks (x ∷ before) items legal.1 task)

module _ (g : GraphTree) (trace : List Message) (order : List Job) (s : Serial) (is : IsHandling g trace order s) where
  holds : Holds g s
  holds = serial_holds g is.can.well_formed is.can.rates trace is.can.keeps order s is.along

  messages : sum_by length s.messages ≤ most_jobs g trace
  messages = sum_le s.messages g.ports length (most_messages g trace) holds.long (λ k ms p there at.
      let known : messages_at s (suc k) ≡ ms = ap (λ (o : Option (List PortMessage)). unwrap_or o []) there in
      let long = ap length known in
      let most = (messages_are_bounded.ports g trace order s is (suc k) p at).1 in
      omega arith)

  jobs : length order ≤ most_jobs g trace
  jobs =
      let counted = items_counted g.ports (items_of s) (λ z has.
      let of = holds.items z has in
      let p = port_there g.ports s.messages z.job.task z.job.number of.message holds.long of.there in
      numbered_within g.ports z.job.task p.0 p.1) in
      let summed = count_sum 1 g.ports (λ n. jobs_of n (items_of s)) (most_messages g trace) (λ k p at.
      let of = messages_are_bounded.ports g trace order s is (suc k) p at in
      let a = of.0 in
      let b = of.1 in
      let e : handled_of s (1 + k) ≡ handled_of s (suc k) = ap (handled_of s) (omega arith) in
      omega arith) in
      let long : length (items_of s) ≡ length s.handled = length-map s.handled (λ (h : Handled). h.item) in
      let all = handled-length g order (start g trace) s is.along in
      omega arith

  plans : (tasks : List Task) (plan : List PlanItem) → IsLegal tasks plan → ((z : PlanItem) → Has plan z → (m : PortMessage) × (numbered (messages_at s z.job.task) z.job.number ≡ Some m)) → length plan ≤ most_jobs g trace
  plans tasks plan legal known =
      let counted = items_counted g.ports plan (λ z has.
      let m = known z has in
      let p = port_there g.ports s.messages z.job.task z.job.number m.0 holds.long m.1 in
      numbered_within g.ports z.job.task p.0 p.1) in
      let summed = count_sum 1 g.ports (λ n. jobs_of n plan) (most_messages g trace) (λ k p at.
      let most = (messages_are_bounded.ports g trace order s is (suc k) p at).1 in
      let few = few_at (suc k) in
      let e : jobs_of (1 + k) plan ≡ jobs_of (suc k) plan = ap (λ (n : ℕ). jobs_of n plan) (omega arith) in
      omega arith) in
      omega arith
    where
      few_at : (port : ℕ) → jobs_of port plan ≤ length (messages_at s port)
      few_at port =
          let none = jobs_none port in
          ⊎_elim
          (λ (e : jobs_of port plan ≡ 0). omega arith)
          (λ (l : HasLast plan port (jobs_of port [] + jobs_of port plan)).
          let m = known l.item l.has in
          let within = (numbered_within (messages_at s l.item.job.task) l.item.job.number m.0 m.1).1 in
          let same : length (messages_at s l.item.job.task) ≡ length (messages_at s port) = ap (λ (n : ℕ). length (messages_at s n)) l.same in
          let n = l.number in
          omega arith)
          (last_number tasks [] plan legal port)

  -- what an output shows is at most what its out passes on
  output_most : (k : ℕ) (o : Output) → slice_get g.outputs k ≡ Some o → length (lines_of (suc k) s.lines) ≤ most_shown g trace o
  output_most k o there =
      let e = get_or_from_slice_get g.outputs k o o there in
      let fine : IsFineOutput g o = subst (IsFineOutput g) e (is.can.well_formed.each_output k o (slice_get_within g.outputs k o there)) in
      by fine.1.0 fine.1.1 fine.1.2 (slice_get g.ports fine.1.0) refl fine.1.4
    where
      by : (a b : ℕ) → o.port ≡ suc a → (q : Option PortTree) → slice_get g.ports a ≡ q → IsSomeAnd q (λ p. IsSomeAnd (slice_get p.outs b) (λ (h : OutHead). Unit {0})) → length (lines_of (suc k) s.lines) ≤ most_shown g trace o
      by a b number None e some = absurd some
      by a b number (Some p) e some =
          let at : numbered g.ports o.port ≡ Some p = ap (numbered g.ports) number ∙ e in
          let most : most_shown g trace o ≡ greatest_passed p o.out (most_messages g trace p) =
          ap (λ (q : Option PortTree). unwrap_or (option_map (λ (p : PortTree). greatest_passed p o.out (most_messages g trace p)) q) 0) at in
          let h = messages_are_bounded.outputs g trace order s is (suc k) o p there at in
          omega arith

  lines : length s.lines ≤ most_lines g trace
  lines =
      let counted = lines_counted g.outputs s.lines (lines_along g order (start g trace) s (λ l h. absurd h) is.along) in
      let summed = count_sum 1 g.outputs (λ n. length (lines_of n s.lines)) (most_shown g trace) (λ k o there.
      let h = output_most k o there in
      let e : length (lines_of (1 + k) s.lines) ≡ length (lines_of (suc k) s.lines) = ap (λ (n : ℕ). length (lines_of n s.lines)) (omega arith) in
      omega arith) in
      omega arith

runs : (g : GraphTree) (trace : List Message) → CanRun g trace → (log : Ticks) (told : List OutLine) → IsPromisedRun g trace log told → length (order_of log) + length told ≤ job_bound g trace
runs g trace can log told run =
    let s = run.tells.serial in
    let is : IsHandling g trace (order_of log) s = record { can = can; along = run.tells.along } in
    let a = jobs g trace (order_of log) s is in
    let b = lines g trace (order_of log) s is in
    let long : length told ≡ length s.lines = ap length run.tells.shown ∙ sort-length line_before s.lines in
    omega arith

pub runs_are_bounded : RunsAreBounded
runs_are_bounded = record {
  messages = λ g trace order s is. messages g trace order s is;
  jobs = λ g trace order s is. jobs g trace order s is;
  plans = λ g trace order s is tasks plan legal known. plans g trace order s is tasks plan legal known;
  lines = λ g trace order s is. lines g trace order s is;
  runs = runs;
}
