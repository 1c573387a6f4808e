-- A tick of an executive is one of the run that it stands for.
use Rattle.std.proofs.Common.{◌≡◌, ℕ, suc, ◌+◌, ◌-◌, ◌<◌, ◌≤◌, Bool, true, eqb, List, [], ◌∷◌, ◌++◌, length, replicate, None, Some, sym, ap, subst, ◌∙◌, ⊎_elim, arith, eq-eqb, ne_eqb}
use Rattle.std.specs.List.{Contains}
use Rattle.std.proofs.lemmas.Bool.{cases_lt, cond-true, cond-false}
use Rattle.yt_graph.specs.Picture.{GraphTree}
use Rattle.yt_set.specs.declared.task.Task.{Task}
use Rattle.yt_log.specs.declared.job.Job.{Job}
use Rattle.yt_log.specs.declared.plan.PlanItem.{PlanItem}
use Rattle.yt_log.specs.EdfDdm.{IsEdfDdm}
use Rattle.yt_log.specs.Plan.{IsLegal}
use Rattle.yt_log.specs.Ticks.{Ticks, done}
use Rattle.yt_ready.specs.declared.entry.Entry.{Entry}
use Rattle.yt_exec.specs.Bodies.{task_in}
use Rattle.yt_exec.specs.Moments.{Moment, job_in}
use Rattle.yt_exec.specs.StandsFor.{StandsFor, GoesOnTo, GoesOnWith, IdlesTo, item_at, with_cost, plan_after}
use Rattle.yt_exec.specs.declared.executive.Ticked.TheVariants.{Idle, Ran}
use Rattle.yt_rates.specs.Tables.{tasks_of}
use Rattle.yt_serial.specs.declared.shown.OutLine.{OutLine}
use Rattle.yt_trace.specs.declared.message.Message.{Message}
use Rattle.yt_serial.specs.PortMessages.{PortMessage}
use Rattle.yt_serial.specs.SerialHandling.{Serial, handle_message}
use Rattle.yt_interleave.specs.Executives.{HasLeft, GivesFirstTick, StillStandsFor, ExecutivesTick}
use Rattle.yt_interleave.specs.Interleaved as own
use Rattle.yt_interleave.specs.Interleaved.{ActiveJob, whole_of, with_begun, with_idle, with_idles}
use Rattle.yt_interleave.specs.Moves.{MayBegin, after_tick, active_job}
use Rattle.yt_serial.specs.Premises.{IsSchedulable}
use Rattle.yt_interleave.specs.Runs.{IsRunning}
use Rattle.yt_interleave.specs.Timing.{IsRuleLog}
use Rattle.yt_interleave.specs.Waits.{NoneComesBefore}
use Rattle.yt_interleave.proofs.Executives.{executives_follow}
use Rattle.yt_interleave.proofs.NextJobs.{next_job}
use Rattle.yt_interleave.proofs.Whole.{grows, runs_go_on, runs_are_on_time}

-- the rule's logs of one set are those of the same set
legal_run : (g : GraphTree) (tasks : List Task) (plan : List PlanItem) (log : Ticks) → tasks ≡ tasks_of g → IsLegal tasks plan → IsEdfDdm tasks plan log → IsRuleLog g plan log
legal_run g tasks plan log e legal rule = record { legal = subst (λ (ts : List Task). IsLegal ts plan) e legal; rule = subst (λ (ts : List Task). IsEdfDdm ts plan log) e rule }

module _ (g : GraphTree) (trace : List Message) (able : IsSchedulable g trace) (s : Serial) (r : own.RunState) (plan : List PlanItem) (lines : List OutLine)
    (old new : Moment) (left left' : Job → ℕ) (entry : Entry) (ended : Bool) (m : PortMessage) (gives : GivesFirstTick g trace s r plan lines old new left left' entry ended m) where
  abbrev job : Job
  job = job_in entry

  abbrev plan2 : List PlanItem
  plan2 = plan_after left left' (Ran (job_in entry) ended) plan

  -- no tick was left of it
  none_left : left (job_in entry) ≡ 0
  none_left =
      ⊎_elim
      (λ (lt : 0 < left (job_in entry)).
      let a = gives.left_of.only (job_in entry) lt in
      let begun = gives.running.interleaves.begun (job_in entry).task a.0 a.1 in
      let same : done r.log a.0.job (length r.log) ≡ done r.log (job_in entry) (length r.log) = ap (λ (j : Job). done r.log j (length r.log)) a.2 in
      let zero_done = gives.waits.fresh in
      absurd (omega arith))
      (λ (ge : left (job_in entry) ≤ 0). omega arith)
      (cases_lt 0 (left (job_in entry)))

  plan_is : plan2 ≡ with_cost (job_in entry) (left' (job_in entry) + 1) plan
  plan_is = cond-true (eqb (left (job_in entry)) 0) (with_cost (job_in entry) (left' (job_in entry) + 1) plan) plan (eq-eqb (left (job_in entry)) 0 none_left)

  now : new.tasks ≡ tasks_of g
  now = gives.kept ∙ gives.executes.tasks

  stands_on : StandsFor new left' plan2 (r.log ++ Some (job_in entry) ∷ [])
  stands_on = (gives.goes plan r.log (subst (λ (ts : List Task). IsLegal ts plan) (sym gives.executes.tasks) gives.running.by.legal) gives.executes.stands).stands

  by : IsRuleLog g plan2 (r.log ++ Some (job_in entry) ∷ [])
  by =
      let on = gives.goes plan r.log (subst (λ (ts : List Task). IsLegal ts plan) (sym gives.executes.tasks) gives.running.by.legal) gives.executes.stands in
      let rule = on.rule (subst (λ (ts : List Task). IsEdfDdm ts plan r.log) (sym now) gives.running.by.rule) in
      legal_run g new.tasks plan2 (r.log ++ Some (job_in entry) ∷ []) now on.legal rule

  may : MayBegin g s r (job_in entry) m
  may =
      let timely = runs_are_on_time.on_time g trace able s r (suc (length r.log)) plan lines gives.running (omega arith) in
      let free = runs_are_on_time.free g trace able s r (suc (length r.log)) plan lines gives.running (job_in entry) m gives.waits (left' (job_in entry) + 1)
      (subst (λ (p : List PlanItem). IsRuleLog g p (r.log ++ Some (job_in entry) ∷ [])) plan_is by) in
      runs_are_on_time.may_begin g trace able s r gives.running.interleaves timely (job_in entry) m gives.waits free

  begins : HasLeft g (after_tick g (active_job (job_in entry) m s) (with_begun (job_in entry) m s.vars r)) left'
      → StillStandsFor g trace (handle_message g (job_in entry) m s) (after_tick g (active_job (job_in entry) m s) (with_begun (job_in entry) m s.vars r)) (suc (length r.log)) plan2 lines new left'
  begins has' =
      let b = active_job (job_in entry) m s in
      let r1 = with_begun (job_in entry) m s.vars r in
      let r2 = after_tick g b r1 in
      let cost : left' (job_in entry) + 1 ≡ (whole_of g b).ticks = executives_follow.cost g trace able s r (job_in entry) m may gives.waits.fresh left' has' in
      let same : plan2 ≡ with_cost (job_in entry) (whole_of g b).ticks plan = plan_is ∙ ap (λ (c : ℕ). with_cost (job_in entry) c plan) cost in
      let next = runs_go_on.begins g trace able s r plan lines gives.running (job_in entry) m gives.waits (subst (λ (p : List PlanItem). IsRuleLog g p (r.log ++ Some (job_in entry) ∷ [])) same by) in
      let log : r2.log ≡ r.log ++ Some (job_in entry) ∷ [] = grows g b r1 in
      record {
        running = subst (λ (p : List PlanItem). IsRunning g trace (handle_message g (job_in entry) m s) r2 (suc (length r.log)) p lines) (sym same) next;
        stands = subst (StandsFor new left' plan2) (sym log) stands_on;
      }

goes_on : (g : GraphTree) (trace : List Message) → IsSchedulable g trace → (s : Serial) (r : own.RunState) (plan : List PlanItem) (lines : List OutLine)
    → IsRunning g trace s r (suc (length r.log)) plan lines → (old new : Moment) (left left' : Job → ℕ) → old.tasks ≡ tasks_of g → new.tasks ≡ old.tasks → StandsFor old left plan r.log → HasLeft g r left
    → (entry : Entry) → Contains old.entries entry → entry.begun ≡ true → (ended : Bool) → GoesOnTo old new left left' (Ran (job_in entry) ended)
    → (b : ActiveJob) → r.active entry.task ≡ Some b → b.job ≡ job_in entry
    → StillStandsFor g trace s (after_tick g b r) (suc (length r.log)) plan lines new left'
goes_on g trace able s r plan lines is old new left left' tasks kept stands has entry there begun ended goes b at same =
    let job = job_in entry in
    let plan2 = plan_after left left' (Ran job ended) plan in
    let active = has.active entry.task b at in
    let unfinished = is.interleaves.unfinished entry.task b at in
    let l : left b.job ≡ left job = ap left same in
    let plan_is : plan2 ≡ plan = cond-false (eqb (left job) 0) (with_cost job (left' job + 1) plan) plan (ne_eqb (left job) 0 (λ e. absurd (omega arith))) in
    let on = goes plan r.log (subst (λ (ts : List Task). IsLegal ts plan) (sym tasks) is.by.legal) stands in
    let now : new.tasks ≡ tasks_of g = kept ∙ tasks in
    let rule = on.rule (subst (λ (ts : List Task). IsEdfDdm ts plan r.log) (sym now) is.by.rule) in
    let by : IsRuleLog g plan2 (r.log ++ Some job ∷ []) = legal_run g new.tasks plan2 (r.log ++ Some job ∷ []) now on.legal rule in
    let by2 : IsRuleLog g plan (r.log ++ Some b.job ∷ []) =
    subst (λ (j : Job). IsRuleLog g plan (r.log ++ Some j ∷ [])) (sym same) (subst (λ (p : List PlanItem). IsRuleLog g p (r.log ++ Some job ∷ [])) plan_is by) in
    let log : (after_tick g b r).log ≡ r.log ++ Some job ∷ [] = grows g b r ∙ ap (λ (j : Job). r.log ++ Some j ∷ []) same in
    record {
      running = runs_go_on.ticks g trace able s r plan lines is entry.task b at by2;
      stands = subst (StandsFor new left' plan) (sym log) (subst (λ (p : List PlanItem). StandsFor new left' p (r.log ++ Some job ∷ [])) plan_is on.stands);
    }

idles : (g : GraphTree) (trace : List Message) → IsSchedulable g trace → (s : Serial) (r : own.RunState) (plan : List PlanItem) (lines : List OutLine)
    → IsRunning g trace s r (suc (length r.log)) plan lines → (old new : Moment) (left left' : Job → ℕ) → old.tasks ≡ tasks_of g → new.tasks ≡ old.tasks → StandsFor old left plan r.log
    → GoesOnTo old new left left' Idle → StillStandsFor g trace s (with_idle r) (suc (length r.log)) plan lines new left'
idles g trace able s r plan lines is old new left left' tasks kept stands goes =
    let on = goes plan r.log (subst (λ (ts : List Task). IsLegal ts plan) (sym tasks) is.by.legal) stands in
    let now : new.tasks ≡ tasks_of g = kept ∙ tasks in
    let rule = on.rule (subst (λ (ts : List Task). IsEdfDdm ts plan r.log) (sym now) is.by.rule) in
    record {
      running = runs_go_on.idles g trace able s r plan lines is (legal_run g new.tasks plan (r.log ++ None ∷ []) now on.legal rule);
      stands = on.stands;
    }

idles_on : (g : GraphTree) (trace : List Message) → IsSchedulable g trace → (s : Serial) (r : own.RunState) (due : ℕ) (plan : List PlanItem) (lines : List OutLine)
    → IsRunning g trace s r due plan lines → (old new : Moment) (left : Job → ℕ) → old.tasks ≡ tasks_of g → new.tasks ≡ old.tasks → StandsFor old left plan r.log
    → due ≤ new.clock → old.clock ≤ new.clock → NoneComesBefore r due new.clock → IdlesTo old new
    → StillStandsFor g trace s (with_idles (new.clock - old.clock) r) new.clock plan lines new left
idles_on g trace able s r due plan lines is old new left tasks kept stands le later none goes =
    let count = new.clock - old.clock in
    let on = goes left plan r.log (subst (λ (ts : List Task). IsLegal ts plan) (sym tasks) is.by.legal) stands in
    let now : new.tasks ≡ tasks_of g = kept ∙ tasks in
    let rule = on.rule (subst (λ (ts : List Task). IsEdfDdm ts plan r.log) (sym now) is.by.rule) in
    let by = legal_run g new.tasks plan (r.log ++ replicate count None) now on.legal rule in
    let end : new.clock ≡ length r.log + count = let c = stands.clock in omega arith in
    let next = runs_go_on.idles_on g trace able s r due plan lines is count (omega arith) (subst (NoneComesBefore r due) end none) by in
    record {
      running = subst (λ (t : ℕ). IsRunning g trace s (with_idles count r) t plan lines) (sym end) next;
      stands = on.stands;
    }

releases : (g : GraphTree) (r : own.RunState) (plan : List PlanItem) (old new : Moment) (left : Job → ℕ) → old.tasks ≡ tasks_of g → new.tasks ≡ old.tasks → StandsFor old left plan r.log → IsRuleLog g plan r.log
    → (job : Job) → GoesOnWith old new job → 1 ≤ (task_in old.tasks job).cost
    → StandsFor new left (plan ++ item_at old.clock job 1 ∷ []) r.log × IsRuleLog g (plan ++ item_at old.clock job 1 ∷ []) r.log
releases g r plan old new left tasks kept stands by job goes most =
    let on = goes left plan r.log (subst (λ (ts : List Task). IsLegal ts plan) (sym tasks) by.legal) stands 1 (omega arith) most in
    let now : new.tasks ≡ tasks_of g = kept ∙ tasks in
    let rule = on.rule (subst (λ (ts : List Task). IsEdfDdm ts plan r.log) (sym now) by.rule) in
    (on.stands, legal_run g new.tasks (plan ++ item_at old.clock job 1 ∷ []) r.log now on.legal rule)

pub executives_tick : ExecutivesTick
executives_tick = record {
  may_begin = λ g trace able s r plan lines old new left left' entry ended m gives. may g trace able s r plan lines old new left left' entry ended m gives;
  begins = λ g trace able s r plan lines old new left left' entry ended m gives has. begins g trace able s r plan lines old new left left' entry ended m gives has;
  goes_on = λ g trace able s r plan lines is old new left left' executes kept has entry there begun ended goes b at same.
      goes_on g trace able s r plan lines is old new left left' executes.tasks kept executes.stands has entry there begun ended goes b at same;
  idles = λ g trace able s r plan lines is old new left left' executes kept goes. idles g trace able s r plan lines is old new left left' executes.tasks kept executes.stands goes;
  idles_on = λ g trace able s r due plan lines is old new left executes kept le later none goes.
      idles_on g trace able s r due plan lines is old new left executes.tasks kept executes.stands le later none goes;
  releases = λ g r plan old new left executes kept by job goes most. releases g r plan old new left executes.tasks kept executes.stands by job goes most;
  next = λ g trace able s r plan lines is moment left wider executes legal port n m there now into back.
      next_job g trace able s r plan lines is moment left wider executes.tasks executes.stands legal port n m there now into back;
}
