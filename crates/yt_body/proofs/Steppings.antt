-- What a tick of a job leaves.
use Rattle.std.proofs.Common.{◌≡◌, ◌↔◌, ℕ, suc, ◌+◌, ◌<◌, ◌≤◌, ◌⊎◌, true, false, eqb, List, [], length, get_or, set, Some, refl, sym, ap, ap₂, subst, ◌∙◌, inl, inr, ⊎_elim, arith, eq-eqb}
use Rattle.std.specs.Prelude.{ℤ}
use Rattle.std.specs.List.{Contains}
use Rattle.std.proofs.lemmas.Bool.{cases_eq, cases_lt, cond-true}
use Rattle.yt_graph.specs.Cost.{greatest_cost}
use Rattle.yt_graph.specs.Picture.{GraphTree, graph_tree}
use Rattle.yt_code.specs.declared.stepped.Stepped.{Stepped}
use Rattle.yt_code.specs.declared.stepped.Stepped.TheVariants.{Going, Ended}
use Rattle.yt_code.specs.Outbox.{TakesAll}
use Rattle.yt_code.specs.Ready.{IsReady, begun}
use Rattle.yt_code.specs.Step.{State, Tick, instruction_step, sends_of}
use Rattle.yt_code.specs.Valid.{Program}
use Rattle.yt_log.specs.declared.job.Job.{Job}
use Rattle.yt_log.specs.Limits.{most_arrival}
use Rattle.yt_rates.specs.Acceptance.{IsAccepted, Parts}
use Rattle.yt_rates.specs.Tables.{tasks_of}
use Rattle.yt_set.specs.declared.task.Task.{Task}
use Rattle.yt_chan.specs.declared.port.PortJob.{PortJob}
use Rattle.yt_chan.specs.declared.wire.Wire.{Wire}
use Rattle.yt_chan.specs.declared.target.Arrived.{Arrived}
use Rattle.yt_chan.specs.declared.target.Arrived.TheVariants.{Port}
use Rattle.yt_chan.specs.Changes.{KeepsWires}
use Rattle.yt_chan.specs.Pending.{Pending}
use Rattle.yt_chan.specs.State.{ChannelState, IsApart, job_at, open_at, open_on, placed_at, waits_at}
use Rattle.yt_chan.specs.Wires.{IsPort, wire_at, wire_of_out}
use Rattle.yt_chan.proofs.Lemmas.{line_is}
use Rattle.yt_exec.specs.Bodies.{Begins, IsFree, KeepsOthers, MayStillBegin, Steps, task_in}
use Rattle.yt_interleave.specs.Interleaved.{group_at, port_at}
use Rattle.yt_interleave.specs.MidHandling.{IsMidHandling, with_sends}
use Rattle.yt_body.specs.declared.outs.Outs.{Outs}
use Rattle.yt_body.specs.declared.port_run.PortRun.{PortRun}
use Rattle.yt_body.specs.declared.port_run.PortStage.{PortStage}
use Rattle.yt_body.specs.declared.port_run.PortStage.TheVariants.{Idle, Placed, Begun}
use Rattle.yt_body.specs.Sends.{AreOpenWide, Closes, SendsAll}
use Rattle.yt_body.specs.Sound.{AreWaitingWide, IsAsStage, IsBegun, IsHeld, IsIdle, IsPlaced, IsPortOf, IsSound}
use Rattle.yt_body.specs.State.{HandlersState, MayBegin, code_at, left_at, machine_left, run_at}
use Rattle.yt_body.specs.Steps.{GoesOn, SetsRun, StepsJob, TicksJob}
use Rattle.yt_body.specs.Inside.Takes.{LeavesSend, TakesSend}
use Rattle.yt_body.proofs.Facts.{code_is, has_wires, task_at, tree_at}
use Rattle.yt_body.proofs.Frames.{framed, sets_run, state, there}
use Rattle.yt_body.proofs.Kept.{KeepsPort, closes_keep, held_kept, keeps_both, mid_open, sends_keep, stage_kept}
use Rattle.yt_body.proofs.Lefts.{MidTick, left_begun, left_none, left_some, left_same, mid_begins, mid_tick, other_vars, some_left, tick_facts}
use Rattle.yt_body.proofs.Opens.{none_in}
use Rattle.yt_body.proofs.Sending.{clear_kept, takes_all}
use Rattle.yt_body.proofs.Ticked.{apart_kept}
use Rattle.yt_body.proofs.Widths.{is_port, opens_closed, waits_closed, waits_kept}
use Rattle.yt_body.proofs.Jobs.{not_idle, not_placed, same_job, step_inside, takes, was_active, was_begun}

-- the run goes on
pub record Goes (parts : Parts) (job : Job) (old run : PortRun) (vs ws : List ℤ) (ch mid new : ChannelState) (t : Tick) : Type 0 where
  pub going : t.stepped ≡ Going
  pub run_is : run ≡ record old { machine = t.machine }
  pub same : new ≡ mid
  pub next : IsMidHandling (graph_tree parts.graph) (code_at parts job.task) (port_at (graph_tree parts.graph) job.task) t.machine (with_sends (open_on ch job.task) t.sends) t.vars
  pub less : machine_left (code_at parts job.task) old.machine vs ≡ suc (machine_left (code_at parts job.task) t.machine t.vars)

-- the run ends
pub record Ends (parts : Parts) (job : Job) (old run : PortRun) (vs : List ℤ) (mid new : ChannelState) (t : Tick) : Type 0 where
  pub run_is : run ≡ record old { stage = Idle; machine = t.machine }
  pub closes : Closes mid new job old.arrival
  pub one : machine_left (code_at parts job.task) old.machine vs ≡ 1

module _ (parts : Parts) (accepted : IsAccepted parts) (runs : List PortRun) (vs : List ℤ) (ch : ChannelState) (sound : IsSound (state parts runs vs ch)) (job : Job) (some : 0 < left_at (state parts runs vs ch) job)
    (run : PortRun) (ws : List ℤ) (new : ChannelState) (t : TicksJob (code_at parts job.task) job (run_at (state parts runs vs ch) job.task) vs ch run ws new) (ready : run.stage ≡ Begun → IsReady (code_at parts job.task) run.machine) where
  active : ((run_at (state parts runs vs ch) job.task).stage ≡ Begun) × ((run_at (state parts runs vs ch) job.task).number ≡ job.number)
  active = was_active parts accepted runs vs ch sound job some

  inside : IsPortOf (graph_tree parts.graph) job.task
  inside = step_inside parts accepted runs vs ch sound job some

  before : IsBegun parts ch vs job.task (run_at (state parts runs vs ch) job.task)
  before = was_begun parts accepted runs vs ch sound job some

  facts : MidTick (graph_tree parts.graph) (code_at parts job.task) (port_at (graph_tree parts.graph) job.task) (run_at (state parts runs vs ch) job.task).machine (open_on ch job.task) vs t.tick
  facts = tick_facts parts accepted job.task inside (run_at (state parts runs vs ch) job.task).machine (open_on ch job.task) vs before.mid t.tick t.defined

  split : Goes parts job (run_at (state parts runs vs ch) job.task) run vs ws ch t.mid new t.tick ⊎ Ends parts job (run_at (state parts runs vs ch) job.task) run vs t.mid new t.tick
  split =
      let g = graph_tree parts.graph in
      let old = run_at (state parts runs vs ch) job.task in
      let code = code_at parts job.task in
      ⊎_elim
      (λ (go : (t.tick.stepped ≡ Going) × IsMidHandling g code (port_at g job.task) t.tick.machine (with_sends (open_on ch job.task) t.tick.sends) t.tick.vars × (machine_left code old.machine vs ≡ suc (machine_left code t.tick.machine t.tick.vars))).
      let goes = subst (λ (st : Stepped). GoesOn st job t.tick.machine old t.mid run new) go.0 t.goes in
      inl (record { going = go.0; run_is = goes.0; same = goes.1; next = go.1; less = go.2 }))
      (λ (end : (t.tick.stepped ≡ Ended) × (machine_left code old.machine vs ≡ 1)).
      let goes = subst (λ (st : Stepped). GoesOn st job t.tick.machine old t.mid run new) end.0 t.goes in
      inr (record { run_is = goes.0; closes = goes.1; one = end.1 }))
      facts.goes

  number_is : run.number ≡ job.number
  number_is =
      let old = run_at (state parts runs vs ch) job.task in
      ⊎_elim
      (λ (e : Goes parts job old run vs ws ch t.mid new t.tick). ap (λ (r : PortRun). r.number) e.run_is ∙ active.1)
      (λ (e : Ends parts job old run vs t.mid new t.tick). ap (λ (r : PortRun). r.number) e.run_is ∙ active.1)
      split

  mid_waits : AreWaitingWide t.mid
  mid_waits = waits_kept ch t.mid t.sends.wires.1 (λ target m has. subst (λ (ms : List Pending). Contains ms m) (t.sends.waits target) has) sound.waiting_wide

  mid_keeps : (q : ℕ) → (q ≡ job.task → ⊥) → KeepsPort ch t.mid q
  mid_keeps q ne = sends_keep ch t.mid job.task t.tick.sends q inside.0 ne t.sends

  keeps_port : (q : ℕ) → (q ≡ job.task → ⊥) → KeepsPort ch new q
  keeps_port q ne =
      let old = run_at (state parts runs vs ch) job.task in
      ⊎_elim
      (λ (e : Goes parts job old run vs ws ch t.mid new t.tick). subst (λ (c : ChannelState). KeepsPort ch c q) (sym e.same) (mid_keeps q ne))
      (λ (e : Ends parts job old run vs t.mid new t.tick). keeps_both ch t.mid new q (mid_keeps q ne) (closes_keep t.mid new job old.arrival q inside.0 ne e.closes))
      split

  keeps_wires : KeepsWires ch new
  keeps_wires =
      let old = run_at (state parts runs vs ch) job.task in
      ⊎_elim
      (λ (e : Goes parts job old run vs ws ch t.mid new t.tick). subst (KeepsWires ch) (sym e.same) t.sends.wires)
      (λ (e : Ends parts job old run vs t.mid new t.tick). (e.closes.wires.0 ∙ t.sends.wires.0, e.closes.wires.1 ∙ t.sends.wires.1))
      split

  new_opens : AreOpenWide new
  new_opens =
      let old = run_at (state parts runs vs ch) job.task in
      let mid = t.sends.wide sound.open_wide in
      ⊎_elim
      (λ (e : Goes parts job old run vs ws ch t.mid new t.tick). subst AreOpenWide (sym e.same) mid)
      (λ (e : Ends parts job old run vs t.mid new t.tick). opens_closed t.mid new job old.arrival e.closes mid)
      split

  new_waits : AreWaitingWide new
  new_waits =
      let old = run_at (state parts runs vs ch) job.task in
      let mid = t.sends.wide sound.open_wide in
      ⊎_elim
      (λ (e : Goes parts job old run vs ws ch t.mid new t.tick). subst AreWaitingWide (sym e.same) mid_waits)
      (λ (e : Ends parts job old run vs t.mid new t.tick). waits_closed t.mid new job old.arrival e.closes mid mid_waits)
      split

  own_goes : Goes parts job (run_at (state parts runs vs ch) job.task) run vs ws ch t.mid new t.tick → IsAsStage parts new ws job.task run run.stage
  own_goes e =
      let g = graph_tree parts.graph in
      let old = run_at (state parts runs vs ch) job.task in
      let code = code_at parts job.task in
      let h = before.held in
      let stage : run.stage ≡ Begun = ap (λ (r : PortRun). r.stage) e.run_is ∙ active.0 in
      let held : IsHeld t.mid job.task (record old { machine = t.tick.machine }) = record {
        handled = ap (λ (j : PortJob). j.in_handling) (t.sends.jobs job.task) ∙ h.handled;
        number = h.number ∙ ap (λ (j : PortJob). j.number + 1) (sym (t.sends.jobs job.task));
        early = h.early;
        apart = apart_kept ch t.mid job.task old.arrival (t.sends.jobs job.task) t.sends.wires.1 h.apart;
        clear = clear_kept ch t.mid job.task t.sends.wires.1 (λ target out lt to m has. subst (λ (ms : List Pending). Contains ms m) (t.sends.waits target) has) h.clear;
      } in
      let mid : IsMidHandling g code (port_at g job.task) t.tick.machine (open_on t.mid job.task) t.tick.vars =
      mid_open g code (port_at g job.task) t.tick.machine (with_sends (open_on ch job.task) t.tick.sends) (open_on t.mid job.task) t.tick.vars t.sends.added e.next in
      let at_mid : IsMidHandling g code (port_at g job.task) t.tick.machine (open_on t.mid job.task) ws =
      subst (λ (xs : List ℤ). IsMidHandling g code (port_at g job.task) t.tick.machine (open_on t.mid job.task) xs) (sym t.written) mid in
      let own : IsBegun parts t.mid ws job.task run = record {
        held = subst (IsHeld t.mid job.task) (sym e.run_is) held;
        ready = ready stage;
        mid = subst (λ (r : PortRun). IsMidHandling g code (port_at g job.task) r.machine (open_on t.mid job.task) ws) (sym e.run_is) at_mid;
      } in
      subst (λ (st : PortStage). IsAsStage parts new ws job.task run st) (sym stage) (subst (λ (c : ChannelState). IsBegun parts c ws job.task run) (sym e.same) own)

  own_ends : Ends parts job (run_at (state parts runs vs ch) job.task) run vs t.mid new t.tick → IsAsStage parts new ws job.task run run.stage
  own_ends e =
      let old = run_at (state parts runs vs ch) job.task in
      let s = e.closes in
      let stage : run.stage ≡ Idle = ap (λ (r : PortRun). r.stage) e.run_is in
      let closed : job_at new job.task ≡ record { in_handling = false; number = job.number; arrival = old.arrival } =
      s.jobs job.task ∙ cond-true (eqb job.task job.task) (record { in_handling = false; number = job.number; arrival = old.arrival }) (job_at t.mid job.task) (eq-eqb job.task job.task refl) in
      let wide = new_opens in
      let own : IsIdle new job.task run = record {
        free = ap (λ (j : PortJob). j.in_handling) closed;
        number = number_is ∙ ap (λ (j : PortJob). j.number) (sym closed);
        none = λ out. none_in (open_on new job.task out) (λ x has.
            let k = wire_of_out new.wires job.task out in
            let at = (line_is new.wires job.task out (wide k x has).0).0 in
            let mid_at : (wire_at t.mid.wires k).port ≡ job.task = ap (λ (ls : List Wire). (wire_at ls k).port) (sym s.wires.1) ∙ at in
            let none : open_at new k ≡ [] = s.opens k ∙ cond-true (eqb (wire_at t.mid.wires k).port job.task) [] (open_at t.mid k) (eq-eqb (wire_at t.mid.wires k).port job.task mid_at) in
            nothing x (subst (λ (ms : List (List ℤ)). Contains ms x) none has));
      } in
      subst (λ (st : PortStage). IsAsStage parts new ws job.task run st) (sym stage) own
    where
      nothing : (x : List ℤ) → Contains {X = List ℤ} [] x → ⊥
      nothing x has = let lt = has.1 in absurd (omega arith)

  its_vars : (q : ℕ) → IsPortOf (graph_tree parts.graph) q → (q ≡ job.task → ⊥) → (run_at (state parts runs vs ch) q).stage ≡ Begun → (machine : State) (f : ℕ → List (List ℤ)) →
      IsMidHandling (graph_tree parts.graph) (code_at parts q) (port_at (graph_tree parts.graph) q) machine f vs →
      IsMidHandling (graph_tree parts.graph) (code_at parts q) (port_at (graph_tree parts.graph) q) machine f ws × (machine_left (code_at parts q) machine ws ≡ machine_left (code_at parts q) machine vs)
  its_vars q at ne stage machine f mid =
      let g = graph_tree parts.graph in
      let both = other_vars parts accepted q at machine f vs mid job.task inside (λ shared same. sound.exclusive q job.task ne stage active.0 shared same) t.tick.vars facts.changes in
      subst (λ (xs : List ℤ). IsMidHandling g (code_at parts q) (port_at g q) machine f xs × (machine_left (code_at parts q) machine xs ≡ machine_left (code_at parts q) machine vs)) (sym t.written) both

  pub step_sound : IsSound (state parts (set runs job.task run) ws new)
  step_sound =
      let old = run_at (state parts runs vs ch) job.task in
      framed parts runs vs ws ch new job.task run sound inside (ap length t.written ∙ facts.changes.count) keeps_wires
      (⊎_elim (λ (e : Goes parts job old run vs ws ch t.mid new t.tick). own_goes e) (λ (e : Ends parts job old run vs t.mid new t.tick). own_ends e) split)
      (λ q at ne r here st. stage_kept parts ch new vs ws q r (keeps_port q ne)
      (λ stage machine mid. (its_vars q at ne (ap (λ (x : PortRun). x.stage) (sym here) ∙ stage) machine (open_on ch q) mid).0) r.stage refl st)
      (λ begun q ne other shared same. sound.exclusive job.task q (λ e. ne (sym e)) active.0 other shared same)
      new_opens new_waits

  after_here : run_at (state parts (set runs job.task run) ws new) job.task ≡ run
  after_here = (sets_run parts runs vs ws ch new job.task run (there parts runs vs ws ch new job.task run sound inside)).here

  after_other : (q : ℕ) → (q ≡ job.task → ⊥) → run_at (state parts (set runs job.task run) ws new) q ≡ run_at (state parts runs vs ch) q
  after_other q ne = (sets_run parts runs vs ws ch new job.task run (there parts runs vs ws ch new job.task run sound inside)).others q ne

  pub step_left : left_at (state parts runs vs ch) job ≡ left_at (state parts (set runs job.task run) ws new) job + 1
  step_left =
      let s = state parts runs vs ch in
      let after = state parts (set runs job.task run) ws new in
      let old = run_at s job.task in
      let code = code_at parts job.task in
      let was = left_begun s job active.0 active.1 in
      ⊎_elim
      (λ (e : Goes parts job old run vs ws ch t.mid new t.tick).
      let is = left_begun after job (ap (λ (r : PortRun). r.stage) (after_here ∙ e.run_is) ∙ active.0) (ap (λ (r : PortRun). r.number) after_here ∙ number_is) in
      let m : machine_left code (run_at after job.task).machine ws ≡ machine_left code t.tick.machine t.tick.vars =
      ap (λ (r : PortRun). machine_left code r.machine ws) (after_here ∙ e.run_is) ∙ ap (machine_left code t.tick.machine) t.written in
      let l = e.less in
      omega arith)
      (λ (e : Ends parts job old run vs t.mid new t.tick).
      let none = left_none after job (λ stage number. not_idle (run_at after job.task).stage stage (ap (λ (r : PortRun). r.stage) (after_here ∙ e.run_is))) in
      let l = e.one in
      omega arith)
      split

  pub step_last : (run.stage ≡ Idle) ↔ (left_at (state parts (set runs job.task run) ws new) job ≡ 0)
  step_last =
      let s = state parts runs vs ch in
      let after = state parts (set runs job.task run) ws new in
      let old = run_at s job.task in (
        λ idle. left_none after job (λ stage number. not_idle (run_at after job.task).stage stage (ap (λ (r : PortRun). r.stage) after_here ∙ idle)),
        λ none. ⊎_elim
            (λ (e : Goes parts job old run vs ws ch t.mid new t.tick).
            let stage : run.stage ≡ Begun = ap (λ (r : PortRun). r.stage) e.run_is ∙ active.0 in
            let is = left_begun after job (ap (λ (r : PortRun). r.stage) after_here ∙ stage) (ap (λ (r : PortRun). r.number) after_here ∙ number_is) in
            let m : machine_left (code_at parts job.task) (run_at after job.task).machine ws ≡ machine_left (code_at parts job.task) t.tick.machine t.tick.vars =
            ap (λ (r : PortRun). machine_left (code_at parts job.task) r.machine ws) (after_here ∙ e.run_is) ∙ ap (machine_left (code_at parts job.task) t.tick.machine) t.written in
            let n = (some_left parts accepted job.task inside t.tick.machine (with_sends (open_on ch job.task) t.tick.sends) t.tick.vars e.next).0 in
            absurd (omega arith))
            (λ (e : Ends parts job old run vs t.mid new t.tick). ap (λ (r : PortRun). r.stage) e.run_is)
            split,
      )

  pub step_steps : Steps (left_at (state parts runs vs ch)) (left_at (state parts (set runs job.task run) ws new)) job
  step_steps =
      let s = state parts runs vs ch in
      let after = state parts (set runs job.task run) ws new in
      record {
        less = step_left;
        others = λ other ne. ⊎_elim
            (λ (e : other.task ≡ job.task).
            left_none after other (λ st num. ne (same_job other job e (sym num ∙ ap (λ (i : ℕ). (run_at after i).number) e ∙ ap (λ (r : PortRun). r.number) after_here ∙ number_is)))
            ∙ sym (left_none s other (λ st num. ne (same_job other job e (sym num ∙ ap (λ (i : ℕ). (run_at s i).number) e ∙ active.1)))))
            (λ (apart : other.task ≡ job.task → ⊥). left_same s after other (after_other other.task apart) refl (λ stage.
            let at = sound.inside other.task (λ idle. not_idle (run_at s other.task).stage stage idle) in
            let its : IsBegun parts ch vs other.task (run_at s other.task) = subst (λ (st : PortStage). IsAsStage parts ch vs other.task (run_at s other.task) st) stage (sound.each other.task at) in
            (its_vars other.task at apart stage (run_at s other.task).machine (open_on ch other.task) its.mid).1))
            (cases_eq other.task job.task);
      }

  pub step_may : MayStillBegin (MayBegin (state parts runs vs ch)) (MayBegin (state parts (set runs job.task run) ws new)) job
  step_may other ne m =
      let s = state parts runs vs ch in
      let apart : other.task ≡ job.task → ⊥ = λ e. not_placed (run_at s job.task).stage active.0 (subst (λ (i : ℕ). (run_at s i).stage ≡ Placed) e m.stage) in
      record { stage = ap (λ (r : PortRun). r.stage) (after_other other.task apart) ∙ m.stage; number = ap (λ (r : PortRun). r.number) (after_other other.task apart) ∙ m.number }

  pub step_leaves : StepsJob (state parts runs vs ch) job (state parts (set runs job.task run) ws new)
  step_leaves =
      let sets = sets_run parts runs vs ws ch new job.task run (there parts runs vs ws ch new job.task run sound inside) in
      record {
        parts = refl;
        run = record { long = sets.long; here = refl; others = sets.others };
        ticks = subst (λ (r : PortRun). TicksJob (code_at parts job.task) job (run_at (state parts runs vs ch) job.task) vs ch r ws new) (sym after_here) t;
      }

-- what is read of handlers as a job has a tick
module _ (parts : Parts) (accepted : IsAccepted parts) (runs : List PortRun) (vs : List ℤ) (ch : ChannelState) (sound : IsSound (state parts runs vs ch)) (job : Job) (some : 0 < left_at (state parts runs vs ch) job)
    (code : Program) (code_same : code ≡ code_at parts job.task) (r : PortRun) (r_same : r ≡ run_at (state parts runs vs ch) job.task) (xs : List ℤ) (xs_same : xs ≡ vs) where
  its : IsBegun parts ch vs job.task (run_at (state parts runs vs ch) job.task)
  its = was_begun parts accepted runs vs ch sound job some

  pub needs_ready : IsReady code r.machine
  needs_ready = subst (λ (p : Program). IsReady p r.machine) (sym code_same) (subst (λ (x : PortRun). IsReady (code_at parts job.task) x.machine) (sym r_same) its.ready)

  pub needs_vars : length xs ≡ code.vars
  needs_vars =
      let is = code_is parts accepted job.task (step_inside parts accepted runs vs ch sound job some) in
      ap length xs_same ∙ sound.count ∙ sym (ap (λ (p : Program). p.vars) code_same ∙ is.vars)

  pub needs_takes : TakesAll TakesSend LeavesSend (sends_of (instruction_step code.instrs r.machine xs)) (record { channels = ch; port = job.task })
  needs_takes =
      let o : Outs = record { channels = ch; port = job.task } in
      let s = state parts runs vs ch in
      subst (λ (p : Program). TakesAll TakesSend LeavesSend (sends_of (instruction_step p.instrs r.machine xs)) o) (sym code_same)
      (subst (λ (x : PortRun). TakesAll TakesSend LeavesSend (sends_of (instruction_step (code_at parts job.task).instrs x.machine xs)) o) (sym r_same)
      (subst (λ (ys : List ℤ). TakesAll TakesSend LeavesSend (sends_of (instruction_step (code_at parts job.task).instrs (run_at s job.task).machine ys)) o) (sym xs_same)
      (takes parts accepted runs vs ch sound job some)))

  pub needs_begun : r.stage ≡ Begun
  needs_begun = ap (λ (x : PortRun). x.stage) r_same ∙ (was_active parts accepted runs vs ch sound job some).0

  pub needs_there : IsPort ch.widths job.task
  needs_there = subst (λ (ns : List ℕ). IsPort ns job.task) (sym sound.widths) (is_port (graph_tree parts.graph) job.task (step_inside parts accepted runs vs ch sound job some))

  pub needs_handled : (job_at ch job.task).in_handling ≡ true
  needs_handled = its.held.handled

  pub needs_next : job.number ≡ (job_at ch job.task).number + 1
  needs_next = sym (was_active parts accepted runs vs ch sound job some).1 ∙ its.held.number

  pub needs_early : r.arrival ≤ most_arrival
  needs_early = subst (λ (x : PortRun). x.arrival ≤ most_arrival) (sym r_same) its.held.early

  pub needs_apart : IsApart ch job.task r.arrival
  needs_apart = subst (λ (x : PortRun). IsApart ch job.task x.arrival) (sym r_same) its.held.apart

  pub ticks_read : (run : PortRun) (ws : List ℤ) (new : ChannelState) → TicksJob code job r xs ch run ws new → TicksJob (code_at parts job.task) job (run_at (state parts runs vs ch) job.task) vs ch run ws new
  ticks_read run ws new t =
      subst (λ (ys : List ℤ). TicksJob (code_at parts job.task) job (run_at (state parts runs vs ch) job.task) ys ch run ws new) xs_same
      (subst (λ (x : PortRun). TicksJob (code_at parts job.task) job x xs ch run ws new) r_same
      (subst (λ (p : Program). TicksJob p job r xs ch run ws new) code_same t))

  pub ready_read : (run : PortRun) → (run.stage ≡ Begun → IsReady code run.machine) → run.stage ≡ Begun → IsReady (code_at parts job.task) run.machine
  ready_read run ready stage = subst (λ (p : Program). IsReady p run.machine) code_same (ready stage)
