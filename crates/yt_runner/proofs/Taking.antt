-- The messages of the trace that come now are put, one after another, each at the ports that its input feeds.
use Rattle.std.proofs.Common.{◌≡◌, ℕ, suc, ◌-◌, ◌<◌, ◌≤◌, [], ◌∷◌, ◌++◌, length, slice_get, Some, sym, subst, ◌∙◌, ⊎_elim, append-nil, arith}
use Rattle.std.specs.Prelude.{false}
use Rattle.std.proofs.lemmas.Bool.{cases_eq}
use Rattle.yt_chan.specs.declared.target.Arrived.TheVariants.{Port}
use Rattle.yt_exec.specs.Moments.{Moment}
use Rattle.yt_exec.specs.StandsFor.{GoesOnWith, item_at}
use Rattle.yt_trace.specs.declared.message.Message.{Message}
use Rattle.yt_serial.specs.Beginnings.{nth_job}
use Rattle.yt_serial.proofs.Lemmas.{numbered_within}
use Rattle.yt_bound.specs.Bounds.{most_jobs}
use Rattle.yt_body.specs.Sound.{IsSound}
use Rattle.yt_body.specs.State.{HandlersState, run_at}
use Rattle.yt_body.specs.Steps.{Puts}
use Rattle.yt_body_laws.specs.Placing.{FeedsSome, HasPlaced, IsFedBy, with_tick_at}
use Rattle.yt_body_laws.specs.Reading.{BodiesRead, HasPut, IsNextPut, IsReadTo, IsServed, MayPut, NextIsFrom, NoneIsFed}
use Rattle.yt_body_laws.specs.Running.{BodiesRun, HasCause, MayRelease}
use Rattle.yt_runner.specs.Inside.Going.{IsDelivering, IsGoing, IsNow, IsPlacedNow, IsServing, IsTaking}
use Rattle.yt_runner.specs.Inside.Room.{HasRoom}
use Rattle.yt_runner.specs.Inside.State.{RunnerState, graph_of}

-- at the start of a tick for which there is a cause nothing has been put
pub starts_taking : (run : BodiesRun) (read : BodiesRead) (s : RunnerState) (upto : ℕ) → IsGoing upto s → s.moment.clock < upto → IsTaking s
starts_taking run read s upto going lt =
    let r = going.run in
    let cause : HasCause r = ⊎_elim (λ (it : HasCause r). it) (λ (le : upto ≤ length r.log). let e = going.clock in absurd (omega arith)) going.cause in
    record {
      mid = record {
        serial = going.serial;
        run = r;
        plan = going.plan;
        lines = s.lines;
        due = λ target. length r.log;
        new = [];
        more = [];
        telling = run.placing s.parts s.trace going.serial r going.plan s.lines s.body s.moment going.in_step;
        told = sym (append-nil s.lines);
        log = going.log;
        clock = going.clock;
        room = going.room;
        early = going.early;
        cause = cause;
      };
      put = read.starts s.parts s.trace r s.taken going.read;
    }

-- where the next message comes later, all that come now are put
pub ends_taking : (read : BodiesRead) (s : RunnerState) → IsTaking s → IsNow s false → IsDelivering s
ends_taking read s taking next =
    let mid = taking.mid in
    let later : NextIsFrom s.trace s.taken (suc (length mid.run.log)) = subst (λ (t : ℕ). NextIsFrom s.trace s.taken (suc t)) mid.clock next in
    let all = read.ends s.parts s.trace mid.serial mid.run mid.due s.body mid.telling.placing s.taken taking.put later in
    record { mid = mid; all = all.0; read = all.1 }

-- before the first port no port is served with the next message
pub starts_serving : (s : RunnerState) (x : Message) → IsTaking s → slice_get s.trace s.taken ≡ Some x → x.time ≤ s.moment.clock → IsServing s x 0
starts_serving s x taking there past = record {
  mid = taking.mid;
  last = 0;
  put = taking.put;
  within = omega arith;
  none = λ other lt le fed. absurd (omega arith);
  there = there;
  past = past;
}

-- after the last port the message is done
pub ends_serving : (read : BodiesRead) (s : RunnerState) (x : Message) (n : ℕ) → length (graph_of s).ports ≤ n → IsServing s x n → (next : ℕ) → next ≡ suc s.taken → IsTaking (record s { taken = next })
ends_serving read s x n all serving next more =
    let none : NoneIsFed (graph_of s) x.input serving.last =
    λ port lt fed. let there : port ≤ length (graph_of s).ports = (numbered_within (graph_of s).ports port fed.0 fed.1).1 in serving.none port lt (omega arith) fed in
    record {
      mid = record {
        serial = serving.mid.serial;
        run = serving.mid.run;
        plan = serving.mid.plan;
        lines = serving.mid.lines;
        due = serving.mid.due;
        new = serving.mid.new;
        more = serving.mid.more;
        telling = serving.mid.telling;
        told = serving.mid.told;
        log = serving.mid.log;
        clock = serving.mid.clock;
        room = serving.mid.room;
        early = serving.mid.early;
        cause = serving.mid.cause;
      };
      put =
          subst (λ (k : ℕ). HasPut s.parts s.trace serving.mid.run serving.mid.due k 0) (sym more)
          (read.done s.parts s.trace serving.mid.run serving.mid.due s.taken serving.last serving.put x serving.there none);
    }

-- a port that the message's input doesn't feed is passed over
pub passes_port : (s : RunnerState) (x : Message) (place : ℕ) → IsServing s x place → (IsFedBy (graph_of s) (suc place) x.input → ⊥) → IsServing s x (suc place)
passes_port s x place serving unfed = record {
  mid = serving.mid;
  last = serving.last;
  put = serving.put;
  within = let le = serving.within in omega arith;
  none = λ other lt le fed.
      ⊎_elim (λ (own : other ≡ suc place). unfed (subst (λ (n : ℕ). IsFedBy (graph_of s) n x.input) own fed)) (λ (ne : other ≡ suc place → ⊥). serving.none other lt (omega arith) fed) (cases_eq other (suc place));
  there = serving.there;
  past = serving.past;
}

module _ (s : RunnerState) (x : Message) (port : ℕ) (some : 1 ≤ port) (serving : IsServing s x (port - 1)) (fed : IsFedBy (graph_of s) port x.input) where
  later : serving.last < port
  later = let le = serving.within in omega arith

  not_served : IsServed s.taken serving.last s.taken port → ⊥
  not_served served = ⊎_elim (λ (lt : s.taken < s.taken). absurd (omega arith)) (λ (own : (s.taken ≡ s.taken) × (port ≤ serving.last)). let le = own.1 in let lt = later in absurd (omega arith)) served

  now : x.time ≡ length serving.mid.run.log
  now =
      let ge = serving.put.rest s.taken port x serving.there fed not_served in
      let le = serving.past in
      let e = serving.mid.clock in
      omega arith

  next_put : IsNextPut s.parts s.trace serving.mid.serial serving.mid.run serving.mid.due s.body s.taken serving.last port x
  next_put = record {
    placing = serving.mid.telling.placing;
    put = serving.put;
    there = serving.there;
    now = now;
    next = record { fed = fed; later = later; first = λ other lt less it. serving.none other lt (omega arith) it };
  }

  -- the message may be put at a port that its input feeds
  pub may_put : (read : BodiesRead) → MayPut s.body port s.moment.clock x
  may_put read =
      subst (λ (t : ℕ). MayPut s.body port t x) (sym serving.mid.clock)
      (read.may_put s.parts s.trace serving.mid.serial serving.mid.run serving.mid.due s.body s.taken serving.last port x next_put)

  module _ (run : BodiesRun) (read : BodiesRead) (after : HandlersState) (puts : Puts s.body port x.values s.moment.clock after) (sound : IsSound after) where
    placed :
        HasPlaced s.parts s.trace serving.mid.serial serving.mid.run serving.mid.due (Port port) after
        × HasPut s.parts s.trace serving.mid.run (with_tick_at (Port port) (suc (length serving.mid.run.log)) serving.mid.due) s.taken port
    placed =
        read.puts s.parts s.trace serving.mid.serial serving.mid.run serving.mid.due s.body s.taken serving.last port x next_put after
        (subst (λ (t : ℕ). Puts s.body port x.values t after) serving.mid.clock puts) sound

    -- then the job may be released
    pub put_may_release : MayRelease s.moment (nth_job port (run_at after port).number)
    put_may_release =
        run.may_release s.parts s.trace serving.mid.serial serving.mid.run serving.mid.plan serving.mid.lines serving.mid.due s.body s.moment serving.mid.new serving.mid.more serving.mid.telling
        port after placed.0

    -- and the port is served
    pub put_serves : (next : Moment) → next.tasks ≡ s.moment.tasks → GoesOnWith s.moment next (nth_job port (run_at after port).number) → next.clock ≡ s.moment.clock →
        HasRoom (most_jobs (graph_of s) s.trace) next → IsServing (record s { body = after; moment = next }) x port
    put_serves next tasks goes clock room = record {
      mid = record {
        serial = serving.mid.serial;
        run = serving.mid.run;
        plan = serving.mid.plan;
        lines = serving.mid.lines;
        due = with_tick_at (Port port) (suc (length serving.mid.run.log)) serving.mid.due;
        new = serving.mid.new ++ item_at (length serving.mid.run.log) (nth_job port (run_at after port).number) 1 ∷ [];
        more = serving.mid.more;
        telling =
            run.releases s.parts s.trace serving.mid.serial serving.mid.run serving.mid.plan serving.mid.lines serving.mid.due s.body s.moment serving.mid.new serving.mid.more serving.mid.telling
            port after placed.0 next tasks goes;
        told = serving.mid.told;
        log = serving.mid.log;
        clock = clock ∙ serving.mid.clock;
        room = room;
        early = serving.mid.early;
        cause = serving.mid.cause;
      };
      last = port;
      put = placed.1;
      within = omega arith;
      none = λ other lt le it. absurd (omega arith);
      there = serving.there;
      past = subst (λ (t : ℕ). x.time ≤ t) (sym clock) serving.past;
    }

-- a message that feeds no port is passed over
pub passes_message : (read : BodiesRead) (s : RunnerState) (x : Message) → IsPlacedNow s → slice_get s.trace s.taken ≡ Some x → (FeedsSome (graph_of s) x.input → ⊥) →
    (next : ℕ) → next ≡ suc s.taken → IsPlacedNow (record s { taken = next })
passes_message read s x placed there unfed next more = record {
  serial = placed.serial;
  run = placed.run;
  plan = placed.plan;
  in_step = placed.in_step;
  read =
      subst (λ (k : ℕ). IsReadTo (graph_of s) s.trace (suc (length placed.run.log)) k) (sym more) (read.skips (graph_of s) s.trace (suc (length placed.run.log)) s.taken placed.read x there unfed);
  log = placed.log;
  clock = placed.clock;
  room = placed.room;
  early = placed.early;
  cause = placed.cause;
}
