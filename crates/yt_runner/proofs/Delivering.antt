-- What has come to a target is released or told.
use Rattle.std.proofs.Common.{◌≡◌, ℕ, suc, ◌+◌, ◌<◌, ◌≤◌, List, [], ◌∷◌, ◌++◌, length, Some, sym, ap₂, subst, ◌∙◌, append_assoc, arith}
use Rattle.yt_graph.specs.Picture.{graph_tree}
use Rattle.yt_log.specs.declared.job.Job.{Job}
use Rattle.yt_exec.specs.Moments.{Moment}
use Rattle.yt_exec.specs.StandsFor.{GoesOnWith, item_at}
use Rattle.yt_chan.specs.declared.target.Arrived.{Arrived}
use Rattle.yt_chan.specs.declared.target.Arrived.TheVariants.{Port, Output}
use Rattle.yt_chan.specs.State.{IsArriving, IsNext, NoneIsLate, placed_at}
use Rattle.yt_rates.specs.Acceptance.{Parts}
use Rattle.yt_serial.specs.Beginnings.{nth_job}
use Rattle.yt_serial.specs.declared.shown.OutLine.{OutLine}
use Rattle.yt_bound.specs.Bounds.{most_jobs}
use Rattle.yt_body.specs.Sound.{MayCome}
use Rattle.yt_body.specs.State.{HandlersState, run_at}
use Rattle.yt_body.specs.Steps.{Comes}
use Rattle.yt_body_laws.specs.Placing.{HasPlaced, with_tick_at}
use Rattle.yt_body_laws.specs.Running.{IsInStep, MayRelease}
use Rattle.yt_runner.specs.Inside.Going.{HasCome, IsDelivering, IsMidTick, IsPlacedNow, waiting_below, waiting_in}
use Rattle.yt_runner.specs.Inside.Laws.{HandlersGoOn}
use Rattle.yt_runner.specs.Inside.Room.{HasRoom}
use Rattle.yt_runner.specs.Inside.State.{RunnerState}
use Rattle.yt_runner.proofs.Room.{room_free}
use Rattle.yt_runner.proofs.Waiting.{below_less, waits_within}

-- while messages come, the next one that waits may
module _ (go : HandlersGoOn) (state : RunnerState) (is : IsDelivering state) where
  may_deliver : NoneIsLate state.body.channels (length is.mid.run.log) × ((port : ℕ) → IsNext state.body.channels (length is.mid.run.log) (Port port) → MayCome state.body port (length is.mid.run.log))
  may_deliver = go.place.may_deliver state.parts state.trace is.mid.serial is.mid.run is.mid.due state.body is.mid.telling.placing

  pub none_late : NoneIsLate state.body.channels state.moment.clock
  none_late = subst (NoneIsLate state.body.channels) (sym is.mid.clock) may_deliver.0

  pub may_come : (port : ℕ) → IsNext state.body.channels state.moment.clock (Port port) → MayCome state.body port state.moment.clock
  may_come = subst (λ (now : ℕ). (port : ℕ) → IsNext state.body.channels now (Port port) → MayCome state.body port now) (sym is.mid.clock) may_deliver.1

  -- where none is left, all has come
  pub all_placed : (after : HandlersState) → after ≡ state.body → ((target : Arrived) → IsArriving state.body.channels state.moment.clock target → ⊥) → IsPlacedNow (record state { body = after })
  all_placed after same none = subst (λ (b : HandlersState). IsPlacedNow (record state { body = b })) (sym same) now_placed
    where
      now_placed : IsPlacedNow state
      now_placed =
          let mid = is.mid in
          record {
            serial = mid.serial;
            run = mid.run;
            plan = mid.plan ++ mid.new;
            in_step =
                subst (λ (lines : List OutLine). IsInStep state.parts state.trace mid.serial mid.run (mid.plan ++ mid.new) lines (suc (length mid.run.log)) state.body state.moment) (sym mid.told)
                (go.run.places state.parts state.trace mid.serial mid.run mid.plan mid.lines mid.due state.body state.moment mid.new mid.more mid.telling is.all
                (subst (λ (now : ℕ). (target : Arrived) → IsArriving state.body.channels now target → ⊥) mid.clock none));
            read = is.read;
            log = mid.log;
            clock = mid.clock;
            room = mid.room;
            early = mid.early;
            cause = mid.cause;
          }

  module _ (target : Arrived) (after : HandlersState) (comes : Comes state.body state.moment.clock target after) where
    -- after one has come fewer wait
    pub fewer_wait : (next : RunnerState) → next.parts ≡ state.parts → next.body ≡ after → waiting_in next < waiting_in state
    fewer_wait next parts body =
        let d = comes.delivers in
        let bound = suc (length (graph_tree state.parts.graph).ports + length (graph_tree state.parts.graph).outputs) in
        let at = waits_within state.parts state.trace is.mid.serial is.mid.run is.mid.due state.body is.mid.telling.placing target d.message _ d.taken in
        let less = below_less state.body.channels after.channels state.moment.clock target d bound (omega arith) in
        let same : waiting_in next ≡ waiting_below after.channels bound =
        ap₂ (λ (p : Parts) (b : HandlersState). waiting_below b.channels (suc (length (graph_tree p.graph).ports + length (graph_tree p.graph).outputs))) parts body in
        omega arith

-- what has come is placed
module _ (go : HandlersGoOn) (state : RunnerState) (target : Arrived) (come : HasCome state target) where
  abbrev mid : IsMidTick (record state { body = come.before })
  mid = come.delivering.mid

  comes : Comes come.before (length mid.run.log) target state.body
  comes = subst (λ (now : ℕ). Comes come.before now target state.body) mid.clock come.comes

  placed : HasPlaced state.parts state.trace mid.serial mid.run mid.due target state.body
  placed = go.place.comes state.parts state.trace mid.serial mid.run mid.due come.before mid.telling.placing target state.body comes come.sound

-- the job of what has come to a port may be released
module _ (go : HandlersGoOn) (state : RunnerState) (port : ℕ) (come : HasCome state (Port port)) where
  abbrev job : Job
  job = nth_job port (run_at state.body port).number

  pub has_room : 1 ≤ state.moment.spare
  has_room = let m = mid go state (Port port) come in room_free m.telling m.room

  pub may_release : MayRelease state.moment job
  may_release =
      let m = mid go state (Port port) come in
      go.run.may_release state.parts state.trace m.serial m.run m.plan m.lines m.due come.before state.moment m.new m.more m.telling port state.body (placed go state (Port port) come)

  -- and then is
  pub port_told : (next : Moment) → next.tasks ≡ state.moment.tasks → next.clock ≡ state.moment.clock → HasRoom (most_jobs (graph_tree state.parts.graph) state.trace) next →
      GoesOnWith state.moment next job → IsDelivering (record state { moment = next })
  port_told next tasks clock room goes =
      let m = mid go state (Port port) come in
      record {
        mid = record {
          serial = m.serial;
          run = m.run;
          plan = m.plan;
          lines = m.lines;
          due = with_tick_at (Port port) (suc (length m.run.log)) m.due;
          new = m.new ++ item_at (length m.run.log) job 1 ∷ [];
          more = m.more;
          telling = go.run.releases state.parts state.trace m.serial m.run m.plan m.lines m.due come.before state.moment m.new m.more m.telling port state.body (placed go state (Port port) come) next tasks goes;
          told = m.told;
          log = m.log;
          clock = clock ∙ m.clock;
          room = room;
          early = m.early;
          cause = m.cause;
        };
        all = go.read.stays state.parts m.run m.due come.delivering.all (Port port);
        read = come.delivering.read;
      }

-- the line of what has come to an output is told
pub output_told : (go : HandlersGoOn) (state : RunnerState) (output : ℕ) → HasCome state (Output output) → (line : OutLine) → line.time ≡ state.moment.clock → line.output ≡ output →
    placed_at state.body.channels (Output output) ≡ Some line.values → (lines : List OutLine) → lines ≡ state.lines ++ line ∷ [] → IsDelivering (record state { lines = lines })
output_told go state output come line time own values lines grown =
    let m = mid go state (Output output) come in
    let here : OutLine = record { time = length m.run.log; output = output; values = line.values } in
    let same : line ≡ here = ap₂ (λ (t o : ℕ). record { time = t; output = o; values = line.values }) (time ∙ m.clock) own in
    record {
      mid = record {
        serial = m.serial;
        run = m.run;
        plan = m.plan;
        lines = m.lines;
        due = with_tick_at (Output output) (suc (length m.run.log)) m.due;
        new = m.new;
        more = m.more ++ here ∷ [];
        telling =
            go.run.tells state.parts state.trace m.serial m.run m.plan m.lines m.due come.before state.moment m.new m.more m.telling output state.body (comes go state (Output output) come)
            (placed go state (Output output) come) line.values values;
        told = grown ∙ ap₂ (λ (xs : List OutLine) (l : OutLine). xs ++ l ∷ []) m.told same ∙ append_assoc m.lines m.more (here ∷ []);
        log = m.log;
        clock = m.clock;
        room = m.room;
        early = m.early;
        cause = m.cause;
      };
      all = go.read.stays state.parts m.run m.due come.delivering.all (Output output);
      read = come.delivering.read;
    }
