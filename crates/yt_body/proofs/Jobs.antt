-- What beginning a job and giving it a tick leave.
use Rattle.std.proofs.Common.{◌≡◌, ◌↔◌, ℕ, suc, ◌+◌, ◌<◌, ◌≤◌, ◌⊎◌, true, false, eqb, List, [], length, get_or, set, Some, refl, sym, ap, ap₂, subst, ◌∙◌, inl, inr, ⊎_elim, arith, eq-eqb}
use Rattle.std.specs.Prelude.{ℤ}
use Rattle.std.specs.List.{Contains}
use Rattle.std.proofs.lemmas.Bool.{cases_eq, cases_lt, cond-true}
use Rattle.yt_graph.specs.Cost.{greatest_cost}
use Rattle.yt_graph.specs.Picture.{GraphTree, graph_tree}
use Rattle.yt_code.specs.declared.stepped.Stepped.{Stepped}
use Rattle.yt_code.specs.declared.stepped.Stepped.TheVariants.{Going, Ended}
use Rattle.yt_code.specs.Outbox.{TakesAll}
use Rattle.yt_code.specs.Ready.{IsReady, begun}
use Rattle.yt_code.specs.Step.{State, Tick, instruction_step, sends_of}
use Rattle.yt_code.specs.Valid.{Program}
use Rattle.yt_log.specs.declared.job.Job.{Job}
use Rattle.yt_rates.specs.Acceptance.{IsAccepted, Parts}
use Rattle.yt_rates.specs.Tables.{tasks_of}
use Rattle.yt_set.specs.declared.task.Task.{Task}
use Rattle.yt_chan.specs.declared.port.PortJob.{PortJob}
use Rattle.yt_chan.specs.declared.wire.Wire.{Wire}
use Rattle.yt_chan.specs.declared.target.Arrived.{Arrived}
use Rattle.yt_chan.specs.declared.target.Arrived.TheVariants.{Port}
use Rattle.yt_chan.specs.Changes.{KeepsWires}
use Rattle.yt_chan.specs.Pending.{Pending}
use Rattle.yt_chan.specs.State.{ChannelState, job_at, open_at, open_on, placed_at, waits_at}
use Rattle.yt_chan.specs.Wires.{wire_at, wire_of_out}
use Rattle.yt_chan.proofs.Lemmas.{line_is}
use Rattle.yt_exec.specs.Bodies.{Begins, IsFree, KeepsOthers, MayStillBegin, Steps, task_in}
use Rattle.yt_interleave.specs.Interleaved.{group_at, port_at}
use Rattle.yt_interleave.specs.MidHandling.{IsMidHandling, with_sends}
use Rattle.yt_body.specs.declared.outs.Outs.{Outs}
use Rattle.yt_body.specs.declared.port_run.PortRun.{PortRun}
use Rattle.yt_body.specs.declared.port_run.PortStage.{PortStage}
use Rattle.yt_body.specs.declared.port_run.PortStage.TheVariants.{Idle, Placed, Begun}
use Rattle.yt_body.specs.Sends.{AreOpenWide, Closes, SendsAll}
use Rattle.yt_body.specs.Sound.{AreWaitingWide, IsAsStage, IsBegun, IsHeld, IsIdle, IsPlaced, IsPortOf, IsSound}
use Rattle.yt_body.specs.State.{HandlersState, MayBegin, code_at, left_at, machine_left, run_at}
use Rattle.yt_body.specs.Steps.{BeginsJob, GoesOn, SetsRun, TicksJob}
use Rattle.yt_body.specs.Inside.Takes.{LeavesSend, TakesSend}
use Rattle.yt_body.proofs.Facts.{has_wires, task_at, tree_at}
use Rattle.yt_body.proofs.Frames.{framed, sets_run, state, there}
use Rattle.yt_body.proofs.Kept.{KeepsPort, closes_keep, held_kept, keeps_both, mid_open, sends_keep, stage_kept}
use Rattle.yt_body.proofs.Lefts.{MidTick, left_begun, left_none, left_some, left_same, mid_begins, mid_tick, other_vars, some_left, tick_facts}
use Rattle.yt_body.proofs.Opens.{none_in}
use Rattle.yt_body.proofs.Sending.{clear_kept, takes_all}
use Rattle.yt_body.proofs.Ticked.{apart_kept}
use Rattle.yt_body.proofs.Widths.{opens_closed, waits_closed, waits_kept}

pub same_job : (a b : Job) → a.task ≡ b.task → a.number ≡ b.number → a ≡ b
same_job a b task number = let f : ℕ → ℕ → Job = λ t n. record { task = t; number = n } in ap₂ f task number

pub not_idle : (st : PortStage) → st ≡ Begun → st ≡ Idle → ⊥
not_idle st a b = cc

pub not_placed : (st : PortStage) → st ≡ Begun → st ≡ Placed → ⊥
not_placed st a b = cc

idle_not_placed : (st : PortStage) → st ≡ Placed → st ≡ Idle → ⊥
idle_not_placed st a b = cc

-- a run that begins is the port's
pub begins_as : (at old new : PortRun) (code read : Program) (message : List ℤ) → old ≡ at → read ≡ code → new ≡ record old { stage = Begun; machine = begun read message } → new ≡ record at { stage = Begun; machine = begun code message }
begins_as at old new code read message run is e =
    e ∙ ap (λ (r : PortRun). record r { stage = Begun; machine = begun read message }) run ∙ ap (λ (p : Program). record at { stage = Begun; machine = begun p message }) is

module _ (parts : Parts) (accepted : IsAccepted parts) (runs : List PortRun) (vs : List ℤ) (ch : ChannelState) (sound : IsSound (state parts runs vs ch)) (job : Job) where
  -- a job that begins
  module _ (may : MayBegin (state parts runs vs ch) job) where
    pub place_inside : IsPortOf (graph_tree parts.graph) job.task
    place_inside = sound.inside job.task (λ idle. idle_not_placed (run_at (state parts runs vs ch) job.task).stage may.stage idle)

    pub was_placed : IsPlaced parts ch job.task (run_at (state parts runs vs ch) job.task)
    was_placed = subst (λ (st : PortStage). IsAsStage parts ch vs job.task (run_at (state parts runs vs ch) job.task) st) may.stage (sound.each job.task place_inside)

    module _ (message : List ℤ) (run : PortRun) (is : run ≡ record (run_at (state parts runs vs ch) job.task) { stage = Begun; machine = begun (code_at parts job.task) message })
        (ready : IsReady (code_at parts job.task) run.machine) (free : IsFree (tasks_of (graph_tree parts.graph)) (left_at (state parts runs vs ch)) job) where
      begins_mid : IsMidHandling (graph_tree parts.graph) (code_at parts job.task) (port_at (graph_tree parts.graph) job.task) run.machine (open_on ch job.task) vs
      begins_mid =
          let g = graph_tree parts.graph in
          subst (λ (r : PortRun). IsMidHandling g (code_at parts job.task) (port_at g job.task) r.machine (open_on ch job.task) vs) (sym is)
          (mid_begins parts accepted job.task place_inside message vs (open_on ch job.task) was_placed.none)

      begins_own : IsBegun parts ch vs job.task run
      begins_own =
          let held = was_placed.held in
          record {
            held = subst (λ (r : PortRun). IsHeld ch job.task r) (sym is) (record { handled = held.handled; number = held.number; early = held.early; apart = held.apart; clear = held.clear });
            ready = ready;
            mid = begins_mid;
          }

      begins_stage : run.stage ≡ Begun
      begins_stage = ap (λ (r : PortRun). r.stage) is

      begins_alone : (q : ℕ) → (q ≡ job.task → ⊥) → (run_at (state parts runs vs ch) q).stage ≡ Begun → 0 < group_at (graph_tree parts.graph) job.task →
          group_at (graph_tree parts.graph) job.task ≡ group_at (graph_tree parts.graph) q → ⊥
      begins_alone q ne other some same =
          let g = graph_tree parts.graph in
          let s = state parts runs vs ch in
          let at : IsPortOf g q = sound.inside q (λ idle. not_idle (run_at s q).stage other idle) in
          let its : IsBegun parts ch vs q (run_at s q) = subst (λ (st : PortStage). IsAsStage parts ch vs q (run_at s q) st) other (sound.each q at) in
          let x : Job = record { task = q; number = (run_at s q).number } in
          let l = left_begun s x other refl in
          let n = (some_left parts accepted q at (run_at s q).machine (open_on ch q) vs its.mid).0 in
          let a = ap (λ (t : Task). t.resource) (task_at parts accepted job place_inside) in
          let b = ap (λ (t : Task). t.resource) (task_at parts accepted x at) in
          free (omega arith) x (omega arith) (b ∙ sym same ∙ sym a)

      pub begin_sound : IsSound (state parts (set runs job.task run) vs ch)
      begin_sound =
          framed parts runs vs vs ch ch job.task run sound place_inside refl (refl, refl)
          (subst (λ (st : PortStage). IsAsStage parts ch vs job.task run st) (sym begins_stage) begins_own)
          (λ q at ne r here st. st)
          (λ b q ne other some same. begins_alone q ne other some same)
          sound.open_wide sound.waiting_wide

      pub begin_left : Begins (tasks_of (graph_tree parts.graph)) (left_at (state parts runs vs ch)) (left_at (state parts (set runs job.task run) vs ch)) job
      begin_left =
          let g = graph_tree parts.graph in
          let s = state parts runs vs ch in
          let after = state parts (set runs job.task run) vs ch in
          let sets = sets_run parts runs vs vs ch ch job.task run (there parts runs vs vs ch ch job.task run sound place_inside) in
          let number : (run_at after job.task).number ≡ job.number = ap (λ (r : PortRun). r.number) (sets.here ∙ is) ∙ may.number in
          let l = left_begun after job (ap (λ (r : PortRun). r.stage) sets.here ∙ begins_stage) number in
          let m : machine_left (code_at parts job.task) (run_at after job.task).machine vs ≡ machine_left (code_at parts job.task) run.machine vs =
          ap (λ (r : PortRun). machine_left (code_at parts job.task) r.machine vs) sets.here in
          let n = some_left parts accepted job.task place_inside run.machine (open_on ch job.task) vs begins_mid in
          let least = n.0 in
          let greatest = n.1 in
          let cost = ap (λ (t : Task). t.cost) (task_at parts accepted job place_inside) in
          record {
            some = omega arith;
            most = omega arith;
            others = λ other ne. ⊎_elim
                (λ (e : other.task ≡ job.task).
                left_none after other (λ st num. ne (same_job other job e (sym num ∙ ap (λ (i : ℕ). (run_at after i).number) e ∙ number)))
                ∙ sym (left_none s other (λ st num. not_placed (run_at s job.task).stage (subst (λ (i : ℕ). (run_at s i).stage ≡ Begun) e st) may.stage)))
                (λ (apart : other.task ≡ job.task → ⊥). left_same s after other (sets.others other.task apart) refl (λ st. refl))
                (cases_eq other.task job.task);
          }

      pub begin_may : MayStillBegin (MayBegin (state parts runs vs ch)) (MayBegin (state parts (set runs job.task run) vs ch)) job
      begin_may other ne m =
          let s = state parts runs vs ch in
          let sets = sets_run parts runs vs vs ch ch job.task run (there parts runs vs vs ch ch job.task run sound place_inside) in
          let apart : other.task ≡ job.task → ⊥ = λ e. ne (same_job other job e (sym m.number ∙ ap (λ (i : ℕ). (run_at s i).number) e ∙ may.number)) in
          record { stage = ap (λ (r : PortRun). r.stage) (sets.others other.task apart) ∙ m.stage; number = ap (λ (r : PortRun). r.number) (sets.others other.task apart) ∙ m.number }

      pub begin_leaves : placed_at ch (Port job.task) ≡ Some message → BeginsJob (state parts runs vs ch) job (state parts (set runs job.task run) vs ch)
      begin_leaves placed =
          let sets = sets_run parts runs vs vs ch ch job.task run (there parts runs vs vs ch ch job.task run sound place_inside) in
          record {
            message = message;
            placed = placed;
            parts = refl;
            vars = refl;
            channels = refl;
            run = record { long = sets.long; here = sets.here ∙ is; others = sets.others };
            free = free;
          }

  -- a job that has a tick
  module _ (some : 0 < left_at (state parts runs vs ch) job) where
    pub was_active : ((run_at (state parts runs vs ch) job.task).stage ≡ Begun) × ((run_at (state parts runs vs ch) job.task).number ≡ job.number)
    was_active = left_some (state parts runs vs ch) job some

    pub step_inside : IsPortOf (graph_tree parts.graph) job.task
    step_inside = sound.inside job.task (λ idle. not_idle (run_at (state parts runs vs ch) job.task).stage was_active.0 idle)

    pub was_begun : IsBegun parts ch vs job.task (run_at (state parts runs vs ch) job.task)
    was_begun = subst (λ (st : PortStage). IsAsStage parts ch vs job.task (run_at (state parts runs vs ch) job.task) st) was_active.0 (sound.each job.task step_inside)

    pub takes : TakesAll TakesSend LeavesSend (sends_of (instruction_step (code_at parts job.task).instrs (run_at (state parts runs vs ch) job.task).machine vs)) (record { channels = ch; port = job.task })
    takes =
        let g = graph_tree parts.graph in
        let b = was_begun in
        let o : Outs = record { channels = ch; port = job.task } in
        let m = mid_tick parts accepted job.task step_inside (run_at (state parts runs vs ch) job.task).machine (open_on ch job.task) vs b.mid in
        subst (λ t. TakesAll TakesSend LeavesSend (sends_of t) o) (sym m.1)
        (takes_all g job.task (port_at g job.task) (has_wires parts accepted) (tree_at g job.task step_inside) m.0.sends o refl sound.wires b.held.handled b.held.clear m.2.room m.2.wide)
