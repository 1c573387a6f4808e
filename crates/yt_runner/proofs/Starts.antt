-- A run before its first tick.
use Rattle.std.proofs.Common.{◌≡◌, ℕ, ◌+◌, List, [], refl, sym, ap, subst, ◌∙◌, inl, arith}
use Rattle.yt_graph.specs.Picture.{graph_tree}
use Rattle.yt_log.specs.declared.job.Job.{Job}
use Rattle.yt_log.specs.Ticks.{Ticks}
use Rattle.yt_exec.specs.Moments.{Moment}
use Rattle.yt_exec.specs.Moments as moments
use Rattle.yt_exec.specs.StandsFor.{StandsFor}
use Rattle.yt_body.specs.Sound.{IsSound}
use Rattle.yt_body.specs.State.{HandlersState, IsStart}
use Rattle.yt_rates.specs.Acceptance.{IsAccepted, Parts}
use Rattle.yt_trace.specs.declared.message.Message.{Message}
use Rattle.yt_trace.specs.Traces.{KeepsPeriods}
use Rattle.yt_serial.specs.declared.shown.OutLine.{OutLine}
use Rattle.yt_serial.specs.SerialHandling.{start}
use Rattle.yt_interleave.specs.Interleaved.{first_state}
use Rattle.yt_bound.specs.Bounds.{most_jobs}
use Rattle.yt_body_laws.specs.Running.{IsInStep}
use Rattle.yt_runner.specs.Inside.Going.{IsGoing}
use Rattle.yt_runner.specs.Inside.Laws.{HandlersGoOn}
use Rattle.yt_runner.specs.Inside.Room.{HasRoom}
use Rattle.yt_runner.proofs.Room.{room_starts}

pub starts_going :
    HandlersGoOn → (parts : Parts) (trace : List Message) → IsAccepted parts → KeepsPeriods (graph_tree parts.graph) trace → (b : HandlersState) → IsStart parts b → IsSound b →
    (moment : Moment) → moment ≡ moments.start parts.set (most_jobs (graph_tree parts.graph) trace + 1) → ((left : Job → ℕ) → StandsFor moment left [] []) →
    (log : Ticks) → log ≡ [] → (lines : List OutLine) → lines ≡ [] → (upto : ℕ) →
    IsGoing upto (record { parts = parts; trace = trace; moment = moment; body = b; log = log; lines = lines; taken = 0 })
starts_going go parts trace accepted keeps b is_start sound moment is stands log no_log lines no_lines upto =
    let g = graph_tree parts.graph in
    let tasks = ap (λ (m : Moment). m.tasks) is ∙ accepted.fitting.set in
    let begins = go.run.starts parts trace accepted (go.run.schedulable parts trace accepted keeps) b is_start sound moment tasks (stands _) in
    record {
      serial = start g trace;
      run = first_state g trace;
      plan = [];
      in_step = subst (λ (ls : List OutLine). IsInStep parts trace (start g trace) (first_state g trace) [] ls 0 b moment) (sym no_lines) begins;
      read = go.read.first g trace;
      log = no_log;
      clock = ap (λ (m : Moment). m.clock) is;
      room = subst (HasRoom (most_jobs g trace)) (sym is) (room_starts (most_jobs g trace) parts.set);
      early = omega arith;
      to = omega arith;
      cause = inl (inl refl);
    }
