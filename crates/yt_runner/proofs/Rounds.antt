-- How a run with no job waiting goes on to the next tick at which something comes, or is over.
use Rattle.std.proofs.Common.{◌≡◌, ℕ, suc, ◌-◌, ◌<◌, ◌≤◌, min, List, [], ◌++◌, length, get_or, replicate, slice_get, Option, None, Some, true, refl, sym, ap, subst, ◌∙◌, inl, inr, ⊎_elim, arith, MatchOption}
use Rattle.std.specs.Option.{option_map}
use Rattle.std.proofs.Math.Nat.{min-le_left, min-le_right, min-eq_left, min-eq_right, le-min}
use Rattle.std.proofs.lemmas.Bool.{cases_lt}
use Rattle.std.proofs.lemmas.List.Elements.{All-get_or}
use Rattle.std.proofs.lemmas.Option.{get_or_from_slice_get, none-some, same_Some, slice_get-get_or, slice_get-map, slice_get_cases, slice_get_within}
use Rattle.yt_graph.specs.Picture.{graph_tree}
use Rattle.yt_chan.specs.Changes.{IsLeastTime}
use Rattle.yt_chan.specs.Pending.{Pending}
use Rattle.yt_chan.specs.State.{NoneIsLate, Waits, waits_at}
use Rattle.yt_exec.specs.Moments.{Moment, at_tick}
use Rattle.yt_exec.specs.StandsFor.{IdlesTo}
use Rattle.yt_log.specs.Limits.{most_deadline}
use Rattle.yt_log.specs.Ticks.{Ticks}
use Rattle.yt_rates.specs.Acceptance.{Parts}
use Rattle.yt_trace.specs.declared.message.Message.{Message}
use Rattle.yt_trace.specs.Limits.{most_time}
use Rattle.yt_trace.specs.Traces.{IsMessageOf}
use Rattle.yt_serial.specs.PortMessages.{PortMessage}
use Rattle.yt_serial.specs.SerialHandling.{Serial}
use Rattle.yt_interleave.specs.Carrying.{as_message}
use Rattle.yt_interleave.specs.Interleaved.{RunState, with_idles}
use Rattle.yt_interleave.specs.Waits.{wait_from}
use Rattle.yt_interleave.proofs.Lemmas.{wait_there}
use Rattle.yt_bound.specs.Bounds.{most_jobs}
use Rattle.yt_body.specs.State.{HandlersState}
use Rattle.yt_body_laws.specs.Carrying.{Carries, known_for}
use Rattle.yt_body_laws.specs.Reading.{IsReadTo, NextIsFrom}
use Rattle.yt_body_laws.specs.Running.{ComesAt, HasIdled, IsInStep}
use Rattle.yt_runner.specs.Inside.Going.{GoesRound, IsNextTick, IsOver, IsPlacedNow, NextFeeds, NoneIsLeft}
use Rattle.yt_runner.specs.Inside.Laws.{HandlersGoOn}
use Rattle.yt_runner.specs.Inside.Next.{least_of, next_read}
use Rattle.yt_runner.specs.Inside.Room.{HasRoom}
use Rattle.yt_runner.specs.Inside.State.{RunnerState, graph_of}
use Rattle.yt_runner.proofs.Room.{room_idled}

-- the least tick of what waits and of what comes next is the next tick at which something comes
next_is : (s : RunnerState) (due : Option ℕ) (o : Option Message) → slice_get s.trace s.taken ≡ o →
    MatchOption due ((m : Pending) → Waits s.body.channels m → ⊥) (λ time. IsLeastTime s.body.channels time) →
    MatchOption (least_of due (option_map (λ (x : Message). x.time) o)) (NoneIsLeft s) (λ time. IsNextTick s time)
next_is s None None at none = record {
  read = ⊎_elim
      (λ (lt : s.taken < length s.trace). ⊎_elim
      (λ (i : (x : Message) × (s.taken < length s.trace) × (slice_get s.trace s.taken ≡ Some x) × (get_or s.trace s.taken x ≡ x)). absurd (none-some i.0 (sym at ∙ i.2)))
      (λ (i : (length s.trace ≤ s.taken) × (slice_get s.trace s.taken ≡ None)). i.0)
      (slice_get_cases s.trace s.taken).1)
      (λ (ge : length s.trace ≤ s.taken). ge)
      (cases_lt s.taken (length s.trace));
  waits = none;
}
next_is s None (Some x) at none = record {
  trace = λ y there. let same = ap (λ (z : Message). z.time) (same_Some x y (sym at ∙ there)) in omega arith;
  waits = λ m w. absurd (none m w);
  comes = inr (x, at, refl);
}
next_is s (Some due) None at least = record {
  trace = λ y there. absurd (none-some y (sym at ∙ there));
  waits = λ m w. least.least m w;
  comes = inl (least.message, least.waits, least.due);
}
next_is s (Some due) (Some x) at least = record {
  trace = λ y there. let same = ap (λ (z : Message). z.time) (same_Some x y (sym at ∙ there)) in let le = min-le_right due x.time in omega arith;
  waits = λ m w. let late = least.least m w in let le = min-le_left due x.time in omega arith;
  comes = ⊎_elim
      (λ (lt : due < x.time). inl (least.message, least.waits, least.due ∙ (omega arith)))
      (λ (ge : x.time ≤ due). inr (x, at, omega arith))
      (cases_lt due x.time);
}

pub next_tick : (s : RunnerState) (due answer : Option ℕ) →
    MatchOption due ((m : Pending) → Waits s.body.channels m → ⊥) (λ time. IsLeastTime s.body.channels time) → answer ≡ least_of due (next_read s) →
    MatchOption answer (NoneIsLeft s) (λ time. IsNextTick s time)
next_tick s due answer waits is = subst (λ (o : Option ℕ). MatchOption o (NoneIsLeft s) (λ time. IsNextTick s time)) (sym is) (next_is s due (slice_get s.trace s.taken) refl waits)

-- what waits comes from the tick on before which all has come
pub waits_late : (parts : Parts) (s : Serial) (r : RunState) (due : ℕ) (b : HandlersState) → Carries parts s r (λ target. due) b → NoneIsLate b.channels due
waits_late parts s r due b c m (t, (k, lt, e)) =
    let there : slice_get (waits_at b.channels t) k ≡ Some m = slice_get-get_or (waits_at b.channels t) k m lt ∙ ap (λ (y : Pending). Some y) e in
    let at : slice_get (wait_from due (known_for (graph_tree parts.graph) r t)) k ≡ Some (as_message m) =
    ap (λ (ms : List PortMessage). slice_get ms k) (sym (c.waits t)) ∙ slice_get-map as_message (waits_at b.channels t) k ∙ ap (option_map as_message) there in
    (wait_there due (known_for (graph_tree parts.graph) r t) k (as_message m) at).2

module _ (laws : HandlersGoOn) (s : RunnerState) (p : IsPlacedNow s) where
  -- no message of the trace comes far off
  read_early : (k : ℕ) (x : Message) → slice_get s.trace k ≡ Some x → x.time ≤ most_deadline
  read_early k x there =
      let inputs = (graph_of s).inputs in
      let in_time : x.time ≤ most_time = (subst (IsMessageOf inputs) (get_or_from_slice_get s.trace k x x there)
      (All-get_or (IsMessageOf inputs) s.trace k x (slice_get_within s.trace k x there) p.in_step.can.can.keeps.messages)).in_time in
      omega arith

  module _ (time : ℕ) (next : IsNextTick s time) where
    pub next_early : time ≤ most_deadline
    next_early =
        ⊎_elim
        (λ (w : (m : Pending) × Waits s.body.channels m × (m.time ≡ time)).
        let early = laws.run.comes_early s.parts s.trace p.serial p.run p.plan s.lines (suc (length p.run.log)) s.body s.moment p.in_step w.0 w.1 in
        let is = w.2 in
        omega arith)
        (λ (x : (x : Message) × (slice_get s.trace s.taken ≡ Some x) × (x.time ≡ time)). let early = read_early s.taken x.0 x.1 in let is = x.2 in omega arith)
        next.comes

    module _ (feeds : NextFeeds s) where
      pub next_later : suc (length p.run.log) ≤ time
      next_later =
          ⊎_elim
          (λ (w : (m : Pending) × Waits s.body.channels m × (m.time ≡ time)).
          let late = waits_late s.parts p.serial p.run (suc (length p.run.log)) s.body p.in_step.carries w.0 w.1 in
          let is = w.2 in
          omega arith)
          (λ (x : (x : Message) × (slice_get s.trace s.taken ≡ Some x) × (x.time ≡ time)).
          let late = p.read.from s.taken x.0 x.1 (feeds x.0 x.1) (omega arith) in
          let is = x.2 in
          omega arith)
          next.comes

      module _ (upto : ℕ) (early : s.moment.clock < upto) (tick : ℕ) (least : tick ≡ min time upto) where
        pub tick_later : suc (length p.run.log) ≤ tick
        tick_later = let clock = p.clock in let most : suc (length p.run.log) ≤ upto = omega arith in let low = le-min next_later most in omega arith

        tick_before : (tick ≤ time) × (tick ≤ upto)
        tick_before = let a = min-le_left time upto in let b = min-le_right time upto in (omega arith, omega arith)

        pub tick_early : tick ≤ most_deadline
        tick_early = let a = tick_before.0 in let e = next_early in omega arith

        -- idling up to the tick, or up to `upto` where that comes first, the run goes on
        pub idles :
            (moment : Moment) → moment ≡ at_tick tick s.moment → IdlesTo s.moment moment → (log : Ticks) → log ≡ s.log ++ replicate (tick - length s.log) None →
            GoesRound upto s (record s { moment = moment; log = log }) true
        idles moment is on log told = (
          record {
            serial = p.serial;
            run = run;
            plan = p.plan;
            in_step = subst (λ (n : ℕ). IsInStep s.parts s.trace p.serial run p.plan s.lines n s.body moment) (sym idled.long) idled.in_step;
            read = subst (λ (n : ℕ). IsReadTo (graph_of s) s.trace n s.taken) (sym idled.long) idled.read;
            log = told ∙ ap (λ (l : Ticks). l ++ replicate (tick - length l) None) p.log;
            clock = at ∙ sym idled.long;
            room = subst (HasRoom (most_jobs (graph_of s) s.trace)) (sym is) (room_idled tick p.room);
            early = let long = idled.long in let e = tick_early in omega arith;
            to = let long = idled.long in let le = tick_before.1 in omega arith;
            cause = ⊎_elim
                (λ (lt : upto < time). inr (let long = idled.long in let same : min time upto ≡ upto = min-eq_right (omega arith) in omega arith))
                (λ (ge : time ≤ upto). inl (inr (inr (comes (least ∙ min-eq_left ge)))))
                (cases_lt upto time);
          },
          let clock = p.clock in let a = at in let d = tick_later in omega arith,
        )
          where
            late : NoneIsLate s.body.channels tick
            late m w = let l = next.waits m w in let le = tick_before.0 in omega arith

            from : NextIsFrom s.trace s.taken tick
            from x there = let l = next.trace x there in let le = tick_before.0 in omega arith

            run : RunState
            run = with_idles (tick - length p.run.log) p.run

            idled : HasIdled s.parts s.trace p.serial p.run p.plan s.lines s.taken tick s.body moment
            idled = laws.run.idles_on s.parts s.trace p.serial p.run p.plan s.lines (suc (length p.run.log)) s.body s.moment p.in_step s.taken p.read tick tick_later late from moment is on

            at : moment.clock ≡ tick
            at = ap (λ (x : Moment). x.clock) is

            comes : tick ≡ time → ComesAt run (length run.log)
            comes same =
                ⊎_elim
                (λ (w : (m : Pending) × Waits s.body.channels m × (m.time ≡ time)).
                subst (ComesAt run) (w.2 ∙ sym same ∙ sym idled.long) (laws.run.waiting_comes s.parts s.trace p.serial run p.plan s.lines tick s.body moment idled.in_step w.0 w.1))
                (λ (x : (x : Message) × (slice_get s.trace s.taken ≡ Some x) × (x.time ≡ time)).
                subst (ComesAt run) (x.2 ∙ sym same ∙ sym idled.long) (laws.run.read_comes s.parts s.trace p.serial run p.plan s.lines tick s.body moment idled.in_step s.taken x.0 x.1 (feeds x.0 x.1)))
                next.comes

  -- where nothing is left to come, the run is over
  pub is_over : (upto : ℕ) → s.moment.clock < upto → s.moment.entries ≡ [] → NoneIsLeft s → IsOver upto s
  is_over upto early none left = record {
    serial = p.serial;
    run = p.run;
    plan = p.plan;
    in_step = p.in_step;
    log = p.log;
    clock = p.clock;
    to = let clock = p.clock in omega arith;
    promised = laws.run.ends s.parts s.trace p.serial p.run p.plan s.lines (suc (length p.run.log)) s.body s.moment p.in_step none left.waits s.taken p.read left.read p.cause;
  }
