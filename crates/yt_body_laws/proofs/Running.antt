-- An executive and handlers go through a run.
use Rattle.std.proofs.Common.{◌≡◌, List, [], ◌++◌, length, sym, subst, append-nil, refl, arith}
use Rattle.yt_log.specs.declared.plan.PlanItem.{PlanItem}
use Rattle.yt_exec.specs.Moments.{Moment}
use Rattle.yt_exec.specs.StandsFor.{StandsFor}
use Rattle.yt_rates.specs.Acceptance.{IsAccepted, Parts}
use Rattle.yt_rates.specs.Tables.{tasks_of}
use Rattle.yt_trace.specs.declared.message.Message.{Message}
use Rattle.yt_serial.specs.declared.shown.OutLine.{OutLine}
use Rattle.yt_serial.specs.Premises.{IsSchedulable}
use Rattle.yt_serial.specs.SerialHandling.{Serial, start}
use Rattle.yt_interleave.specs.Executives.{Executes}
use Rattle.yt_interleave.specs.Interleaved.{RunState, first_state}
use Rattle.yt_interleave.specs.Timing.{IsRuleLog}
use Rattle.yt_interleave.proofs.Lemmas.{runs_are_on_time, runs_go_on}
use Rattle.yt_body.specs.Sound.{IsSound}
use Rattle.yt_body.specs.State.{HandlersState, IsStart, left_at}
use Rattle.yt_body_laws.specs.Placing.{IsPlacing}
use Rattle.yt_body_laws.specs.Running.{BodiesRun, IsInStep, IsTelling}
use Rattle.yt_body_laws.proofs.Bodied.{body}
use Rattle.yt_body_laws.proofs.Codes.{graph_in}
use Rattle.yt_body_laws.proofs.Ended.{comes_early, ends, idles_on, read_comes, runs_early, waiting_comes}
use Rattle.yt_body_laws.proofs.Released.{may_release, places, releases, tells}
use Rattle.yt_body_laws.proofs.Schedulable.{schedulable}
use Rattle.yt_body_laws.proofs.Start.{bodies_start}
use Rattle.yt_body_laws.proofs.Telling.{bodies_tell}
use Rattle.yt_body_laws.proofs.Ticked.{tick}

starts : (parts : Parts) (trace : List Message) → IsAccepted parts → IsSchedulable (graph_in parts) trace → (b : HandlersState) → IsStart parts b → IsSound b →
    (moment : Moment) → moment.tasks ≡ tasks_of (graph_in parts) → StandsFor moment (left_at b) [] [] →
    IsInStep parts trace (start (graph_in parts) trace) (first_state (graph_in parts) trace) [] [] 0 b moment
starts parts trace accepted can b fresh sound moment tasks stands = record {
  accepted = accepted;
  can = can;
  running = runs_go_on.starts (graph_in parts) trace can;
  executes = record { tasks = tasks; stands = stands };
  carries = bodies_start parts trace b fresh sound;
  from = omega arith;
  to = omega arith;
}

placing : (parts : Parts) (trace : List Message) (s : Serial) (r : RunState) (plan : List PlanItem) (lines : List OutLine) (b : HandlersState) (moment : Moment) →
    IsInStep parts trace s r plan lines (length r.log) b moment → IsTelling parts trace s r plan lines (λ target. length r.log) b moment [] []
placing parts trace s r plan lines b moment is =
    let g = graph_in parts in
    let same : plan ≡ plan ++ [] = sym (append-nil plan) in
    let placed : IsPlacing parts trace s r (λ target. length r.log) b = record {
      accepted = is.accepted;
      can = is.can;
      interleaves = is.running.interleaves;
      on_time = runs_are_on_time.on_time g trace is.can s r (length r.log) plan lines is.running (omega arith);
      carries = is.carries;
      from = λ target. omega arith;
      to = λ target. omega arith;
    } in
    record {
      placing = placed;
      running = is.running;
      told = bodies_tell.starts parts trace s r (λ target. length r.log) b placed (λ target. refl);
      executes = subst (λ (items : List PlanItem). Executes g r items moment (left_at b)) same is.executes;
      by = subst (λ (items : List PlanItem). IsRuleLog g items r.log) same is.running.by;
    }

pub bodies_run : BodiesRun
bodies_run = record {
  schedulable = λ parts trace accepted keeps. schedulable parts accepted trace keeps;
  starts = starts;
  placing = placing;
  may_release = λ parts trace s r plan lines due b moment new more is port after placed. may_release parts trace s r plan lines due b moment new more is port after placed;
  releases = λ parts trace s r plan lines due b moment new more is port after placed next kept goes. releases parts trace s r plan lines due b moment new more is port after placed next kept goes;
  tells = λ parts trace s r plan lines due b moment new more is output after comes placed values at. tells parts trace s r plan lines due b moment new more is output after comes placed values at;
  places = λ parts trace s r plan lines due b moment new more is put none. places parts trace s r plan lines due b moment new more is put none;
  body = λ parts trace s r plan lines b moment is. body parts trace s r plan lines b moment is;
  ticks = λ parts trace s r plan lines b moment is after sound next kept ticked what goes. tick parts trace s r plan lines b moment is after sound next kept ticked what goes;
  idles_on = λ parts trace s r plan lines due b moment is taken read t le none from next same idles.
      idles_on parts trace s r plan lines due b moment is taken read t le none from next same idles;
  waiting_comes = λ parts trace s r plan lines due b moment is m waits. waiting_comes parts trace s r plan lines due b moment is m waits;
  read_comes = λ parts trace s r plan lines due b moment is k x at fed. read_comes parts trace s r plan lines due b moment is k x at fed;
  comes_early = λ parts trace s r plan lines due b moment is m waits. comes_early parts trace s r plan lines due b moment is m waits;
  runs_early = λ parts trace s r plan lines due b moment is entry has. runs_early parts trace s r plan lines due b moment is entry has;
  ends = λ parts trace s r plan lines due b moment is idle none taken read all cause. ends parts trace s r plan lines due b moment is idle none taken read all cause;
}
