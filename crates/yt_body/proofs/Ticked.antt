-- A tick of a job in its code.
use Rattle.std.proofs.Common.{◌≡◌, ℕ, ◌+◌, ◌<◌, ◌≤◌, List, length, Option, None, Some, refl, sym, ap, subst, ◌∙◌, arith}
use Rattle.std.specs.Prelude.{ℤ}
use Rattle.std.specs.List.{Contains}
use Rattle.yt_code.specs.declared.stepped.Stepped.{Stepped}
use Rattle.yt_code.specs.declared.stepped.Stepped.TheVariants.{Going, Ended}
use Rattle.yt_code.specs.Outbox.{LeavesAll}
use Rattle.yt_code.specs.Step.{IsTick, State, Tick, instruction_step, sends_of}
use Rattle.yt_code.specs.Valid.{Program}
use Rattle.yt_log.specs.declared.job.Job.{Job}
use Rattle.yt_chan.specs.declared.wire.Wire.{Wire}
use Rattle.yt_chan.specs.declared.port.PortJob.{PortJob}
use Rattle.yt_chan.specs.State.{ChannelState, IsApart, job_at}
use Rattle.yt_body.specs.declared.outs.Outs.{Outs}
use Rattle.yt_body.specs.declared.port_run.PortRun.{PortRun}
use Rattle.yt_body.specs.declared.port_run.PortStage.TheVariants.{Idle}
use Rattle.yt_body.specs.Sends.{Closes, SendsAll}
use Rattle.yt_body.specs.Steps.{GoesOn, TicksJob}
use Rattle.yt_body.specs.Inside.Takes.{LeavesSend, TakesSend}
use Rattle.yt_body.proofs.Sending.{sends_all}

pub apart_kept : (old new : ChannelState) (port arrival : ℕ) → job_at new port ≡ job_at old port → new.wires ≡ old.wires → IsApart old port arrival → IsApart new port arrival
apart_kept old new port arrival job wires apart some wire has is =
    subst (λ (j : PortJob). j.arrival + wire.period ≤ arrival) (sym job)
    (apart (subst (λ (j : PortJob). 0 < j.number) job some) wire (subst (λ (ws : List Wire). Contains ws wire) wires has) is)

module _ (code : Program) (job : Job) (run : PortRun) (vs : List ℤ) (old : Outs) (machine : State) (ws : List ℤ) (stepped : Stepped) (mid : Outs) (port : old.port ≡ job.task) where
  by_tick : (t : Option Tick) → instruction_step code.instrs run.machine vs ≡ t → IsTick t machine ws stepped → LeavesAll LeavesSend (sends_of t) old mid → (new_run : PortRun) (new : ChannelState) →
      GoesOn stepped job machine run mid.channels new_run new → TicksJob code job run vs old.channels new_run ws new
  by_tick None e is leaves new_run new goes = absurd is
  by_tick (Some t) e is leaves new_run new goes = record {
    tick = t;
    defined = e;
    written = is.1;
    mid = mid.channels;
    sends = (sends_all job.task t.sends old mid port leaves).0;
    goes = subst (λ (st : Stepped). GoesOn st job t.machine run mid.channels new_run new) is.2 (subst (λ (m : State). GoesOn stepped job m run mid.channels new_run new) is.0 goes);
  }

  pub ticks : IsTick (instruction_step code.instrs run.machine vs) machine ws stepped → LeavesAll LeavesSend (sends_of (instruction_step code.instrs run.machine vs)) old mid → (new_run : PortRun) (new : ChannelState) →
      GoesOn stepped job machine run mid.channels new_run new → TicksJob code job run vs old.channels new_run ws new
  ticks is leaves new_run new goes = by_tick (instruction_step code.instrs run.machine vs) refl is leaves new_run new goes

  sent : (t : Option Tick) → LeavesAll LeavesSend (sends_of t) old mid → SendsAll old.channels job.task (sends_of t) mid.channels
  sent t leaves = (sends_all job.task (sends_of t) old mid port leaves).0

  pub still_apart : LeavesAll LeavesSend (sends_of (instruction_step code.instrs run.machine vs)) old mid → (arrival : ℕ) → IsApart old.channels job.task arrival → IsApart mid.channels job.task arrival
  still_apart leaves arrival apart =
      let s = sent (instruction_step code.instrs run.machine vs) leaves in
      apart_kept old.channels mid.channels job.task arrival (s.jobs job.task) s.wires.1 apart

  pub still_held : LeavesAll LeavesSend (sends_of (instruction_step code.instrs run.machine vs)) old mid → job_at mid.channels job.task ≡ job_at old.channels job.task
  still_held leaves = (sent (instruction_step code.instrs run.machine vs) leaves).jobs job.task

  pub still_wide : LeavesAll LeavesSend (sends_of (instruction_step code.instrs run.machine vs)) old mid → mid.channels.widths ≡ old.channels.widths
  still_wide leaves = (sent (instruction_step code.instrs run.machine vs) leaves).wires.0
