-- The kinds of ticks, from one moment between ticks to the next.
use Rattle.std.proofs.Common.{◌≡◌, ℕ, suc, ◌+◌, ◌<◌, eqb, List, [], ◌∷◌, ◌++◌, length, Option, None, Some, refl, sym, ap, subst, ◌∙◌, inl, ⊎_elim, arith, eq-eqb, ne_eqb}
use Rattle.std.proofs.lemmas.Bool.{cases_eq, cond-true, cond-false}
use Rattle.std.proofs.lemmas.List.{length-map}
use Rattle.std.proofs.lemmas.Option.{none-some, same_Some}
use Rattle.yt_graph.specs.Picture.{GraphTree, PortTree}
use Rattle.yt_log.specs.declared.job.Job.{Job}
use Rattle.yt_log.specs.Ticks.{Ticks, tick, done}
use Rattle.yt_log.proofs.Lemmas.{done-zero}
use Rattle.yt_log.proofs.Lemmas.{jobs_none}
use Rattle.yt_trace.specs.declared.message.Message.{Message}
use Rattle.yt_serial.specs.Beginnings.{begun_below, order_of}
use Rattle.yt_serial.specs.SerialHandling.{Serial, start, from_outside, handle_message}
use Rattle.yt_serial.proofs.Lemmas.{begun_fresh, begun_again, begun_idle, begun_below-append, length_push, tick_last, done_before, done_this, done_other, writes_below_zero}
use Rattle.yt_serial.specs.Variables.{after_writes}
use Rattle.yt_interleave.specs.Interleaved.{ActiveJob, RunState, port_at, whole_of, put, to_come, first_state, with_begun, with_tick, with_end, with_idle, MatchesSerial}
use Rattle.yt_serial.specs.Premises.{CanRun}
use Rattle.yt_interleave.specs.Laws.{StartsSerial, BeginsKeepSerial, TicksKeepSerial, IdlingKeepsSerial}
use Rattle.yt_interleave.specs.Lines.{KnowsLines}
use Rattle.yt_interleave.specs.Moves.{after_tick, active_job, Interleaves}
use Rattle.yt_interleave.proofs.Begin as begin
use Rattle.yt_interleave.proofs.End as end
use Rattle.yt_interleave.proofs.Tick as ticks
use Rattle.yt_interleave.proofs.HandlerWrites.{handling_written}
use Rattle.yt_interleave.proofs.Shown.{knows_begun, knows_ended, knows_tick, knows_first}
use Rattle.yt_interleave.proofs.Pieces.{put_same, put_cases, placed_none, to_come_none}

-- the order of beginning with one tick more
begun_push : (log : Ticks) (o : Option Job) → begun_below (log ++ o ∷ []) (length log) ≡ order_of log
begun_push log o = begun_below-append log (o ∷ []) (length log) (omega arith)

pub order_fresh : (log : Ticks) (j : Job) → done log j (length log) ≡ 0 → order_of (log ++ Some j ∷ []) ≡ order_of log ++ j ∷ []
order_fresh log j none =
    ap (begun_below (log ++ Some j ∷ [])) (length_push log (Some j))
    ∙ begun_fresh (log ++ Some j ∷ []) j (length log) (tick_last log (Some j)) (done_before log (Some j) j (length log) (omega arith) ∙ none)
    ∙ ap (λ (xs : List Job). xs ++ j ∷ []) (begun_push log (Some j))

pub order_again : (log : Ticks) (j : Job) → 0 < done log j (length log) → order_of (log ++ Some j ∷ []) ≡ order_of log
order_again log j some =
    ap (begun_below (log ++ Some j ∷ [])) (length_push log (Some j))
    ∙ begun_again (log ++ Some j ∷ []) j (length log) (tick_last log (Some j)) (let e = done_before log (Some j) j (length log) (omega arith) in omega arith)
    ∙ begun_push log (Some j)

pub order_idle : (log : Ticks) → order_of (log ++ None ∷ []) ≡ order_of log
order_idle log =
    ap (begun_below (log ++ None ∷ [])) (length_push log None)
    ∙ begun_idle (log ++ None ∷ []) (length log) (tick_last log None)
    ∙ begun_push log None

pub after_last : (g : GraphTree) (b : ActiveJob) (r : RunState) → done r.log b.job (length r.log) + 1 ≡ (whole_of g b).ticks → after_tick g b r ≡ with_end g b (with_tick g b r)
after_last g b r e =
    cond-true (eqb (done r.log b.job (length r.log) + 1) (whole_of g b).ticks) (with_end g b (with_tick g b r)) (with_tick g b r) (eq-eqb (done r.log b.job (length r.log) + 1) (whole_of g b).ticks e)

pub after_other : (g : GraphTree) (b : ActiveJob) (r : RunState) → (done r.log b.job (length r.log) + 1 ≡ (whole_of g b).ticks → ⊥) → after_tick g b r ≡ with_tick g b r
after_other g b r e =
    cond-false (eqb (done r.log b.job (length r.log) + 1) (whole_of g b).ticks) (with_end g b (with_tick g b r)) (with_tick g b r) (ne_eqb (done r.log b.job (length r.log) + 1) (whole_of g b).ticks e)

module _ (g : GraphTree) (trace : List Message) (can : CanRun g trace) where
  -- a tick of a job that is active, where all others have begun and not ended
  module _ (order : List Job) (s : Serial) (r : RunState) (stands : MatchesSerial g trace order s r) (port : ℕ) (b : ActiveJob) (at_port : r.active port ≡ Some b)
      (left : done r.log b.job (length r.log) < (whole_of g b).ticks)
      (begun : (p : ℕ) (c : ActiveJob) → (p ≡ port → ⊥) → r.active p ≡ Some c → 0 < done r.log c.job (length r.log))
      (unfinished : (p : ℕ) (c : ActiveJob) → (p ≡ port → ⊥) → r.active p ≡ Some c → done r.log c.job (length r.log) < (whole_of g c).ticks)
      (ordered : order_of (r.log ++ Some b.job ∷ []) ≡ order)
      (lines : KnowsLines g s r) where
    n : ℕ
    n = done r.log b.job (length r.log)

    r1 : RunState
    r1 = with_tick g b r

    task : b.job.task ≡ port
    task = (stands.under_way port b at_port).task

    this : done (with_tick g b r).log b.job (length (with_tick g b r).log) ≡ suc (done r.log b.job (length r.log))
    this = done_this r.log (Some b.job) b.job refl

    other : (p : ℕ) (c : ActiveJob) → (p ≡ port → ⊥) → r.active p ≡ Some c → done (with_tick g b r).log c.job (length (with_tick g b r).log) ≡ done r.log c.job (length r.log)
    other p c ne at_p =
        done_other r.log (Some b.job) c.job (λ e. ne (sym (stands.under_way p c at_p).task ∙ ap (λ (j : Job). j.task) (sym (same_Some b.job c.job e)) ∙ task))

    ticked : MatchesSerial g trace order s (with_tick g b r)
    ticked = ticks.ticked g can.well_formed can.rates trace can.keeps order s r stands port b at_port left

    same_begun : (p : ℕ) (c : ActiveJob) → p ≡ port → r.active p ≡ Some c → b ≡ c
    same_begun p c e at_p = same_Some b c (sym at_port ∙ ap r.active (sym e) ∙ at_p)

    -- the job goes on
    goes_on : (done r.log b.job (length r.log) + 1 ≡ (whole_of g b).ticks → ⊥) → Interleaves g trace s (with_tick g b r)
    goes_on more = record {
      stands = subst (λ (o : List Job). MatchesSerial g trace o s (with_tick g b r)) (sym ordered) ticked;
      begun = λ p c at_p. ⊎_elim
          (λ (e : p ≡ port). let P : ActiveJob → Type 0 = λ x. 0 < done (with_tick g b r).log x.job (length (with_tick g b r).log) in subst P (same_begun p c e at_p) (let t = this in omega arith))
          (λ (ne : p ≡ port → ⊥). let o = other p c ne at_p in let h = begun p c ne at_p in omega arith)
          (cases_eq p port);
      unfinished = λ p c at_p. ⊎_elim
          (λ (e : p ≡ port). let P : ActiveJob → Type 0 = λ x. done (with_tick g b r).log x.job (length (with_tick g b r).log) < (whole_of g x).ticks in subst P (same_begun p c e at_p) (let t = this in omega arith))
          (λ (ne : p ≡ port → ⊥). let o = other p c ne at_p in let h = unfinished p c ne at_p in omega arith)
          (cases_eq p port);
      lines = knows_tick g s r b lines;
    }

    -- the job has ended
    ends : done r.log b.job (length r.log) + 1 ≡ (whole_of g b).ticks → Interleaves g trace s (with_end g b (with_tick g b r))
    ends last =
        let t = this in
        let all : MatchesSerial g trace order s (with_end g b (with_tick g b r)) = end.ended g trace order s (with_tick g b r) ticked port b at_port (omega arith) in
        let out : (p : ℕ) (c : ActiveJob) → put b.job.task None r.active p ≡ Some c → (p ≡ port → ⊥) × (r.active p ≡ Some c) = λ p c at_p. ⊎_elim
        (λ (e : (p ≡ b.job.task) × (None ≡ Some c)). absurd (none-some c e.1))
        (λ (e : (p ≡ b.job.task → ⊥) × (r.active p ≡ Some c)). ((λ q. e.0 (q ∙ sym task)), e.1))
        (put_cases b.job.task None (Some c) r.active p at_p) in
        record {
          stands = subst (λ (o : List Job). MatchesSerial g trace o s (with_end g b (with_tick g b r))) (sym ordered) all;
          begun = λ p c at_p. let k = out p c at_p in let o = other p c k.0 k.1 in let h = begun p c k.0 k.1 in omega arith;
          unfinished = λ p c at_p. let k = out p c at_p in let o = other p c k.0 k.1 in let h = unfinished p c k.0 k.1 in omega arith;
          lines = knows_ended g s (with_tick g b r) b (ap r.active task ∙ at_port) (knows_tick g s r b lines);
        }

    pub either : Interleaves g trace s (after_tick g b r)
    either =
        ⊎_elim
        (λ (e : done r.log b.job (length r.log) + 1 ≡ (whole_of g b).ticks). subst (Interleaves g trace s) (sym (after_last g b r e)) (ends e))
        (λ (ne : done r.log b.job (length r.log) + 1 ≡ (whole_of g b).ticks → ⊥). subst (Interleaves g trace s) (sym (after_other g b r ne)) (goes_on ne))
        (cases_eq (done r.log b.job (length r.log) + 1) (whole_of g b).ticks)

pub ticks_keep_serial : TicksKeepSerial
ticks_keep_serial g trace can s r is port b at_port =
    either g trace can (order_of r.log) s r is.stands port b at_port (is.unfinished port b at_port)
    (λ p c ne at_p. is.begun p c at_p) (λ p c ne at_p. is.unfinished p c at_p)
    (order_again r.log b.job (is.begun port b at_port)) is.lines

pub begins_keep_serial : BeginsKeepSerial
begins_keep_serial g trace can s r is job m may =
    let b : ActiveJob = active_job job m s in
    let none = begin.not_done g can.well_formed can.rates trace can.keeps (order_of r.log) s r is.stands job m may in
    let some = (handling_written g (port_at g job.task) m.values s.vars).some in
    let out : (p : ℕ) (c : ActiveJob) → (p ≡ job.task → ⊥) → put job.task (Some b) r.active p ≡ Some c → r.active p ≡ Some c = λ p c ne at_p. ⊎_elim
    (λ (e : (p ≡ job.task) × (Some b ≡ Some c)). absurd (ne e.0))
    (λ (e : (p ≡ job.task → ⊥) × (r.active p ≡ Some c)). e.1)
    (put_cases job.task (Some b) (Some c) r.active p at_p) in
    either g trace can (order_of r.log ++ job ∷ []) (handle_message g job m s) (with_begun job m s.vars r)
    (begin.begun g can.well_formed can.rates trace can.keeps (order_of r.log) s r is.stands job m may)
    job.task b (put_same job.task (Some b) r.active job.task refl) (omega arith)
    (λ p c ne at_p. is.begun p c (out p c ne at_p)) (λ p c ne at_p. is.unfinished p c (out p c ne at_p))
    (order_fresh r.log job none) (knows_begun g s r job m may.idle is.lines)

pub idling_keeps_serial : IdlingKeepsSerial
idling_keeps_serial g trace can s r is =
    let same : (j : Job) → done (with_idle r).log j (length (with_idle r).log) ≡ done r.log j (length r.log) = λ j. done_other r.log None j (λ e. none-some j e) in
    record {
      stands = subst (λ (o : List Job). MatchesSerial g trace o s (with_idle r)) (sym (order_idle r.log)) (ticks.idled g can.well_formed can.rates trace can.keeps (order_of r.log) s r is.stands);
      begun = λ p c at_p. let o = same c.job in let h = is.begun p c at_p in omega arith;
      unfinished = λ p c at_p. let o = same c.job in let h = is.unfinished p c at_p in omega arith;
      lines = record { count = is.lines.count; lines = is.lines.lines };
    }

order_none : order_of [] ≡ []
unfolding begun_below
order_none = refl

none_at : (t : ℕ) → tick [] t ≡ None
unfolding tick
none_at t = refl

first_stands : (g : GraphTree) (trace : List Message) → MatchesSerial g trace [] (start g trace) (first_state g trace)
first_stands g trace = record {
  along = refl;
  under_way = λ p b at_p. absurd (none-some b at_p);
  exclusive = λ p q b c at_p at_q ne some same. absurd (none-some b at_p);
  known = λ p b at_p. absurd (none-some b at_p);
  long = length-map g.ports (λ (p : PortTree). from_outside trace p.feed);
  messages = sym (placed_none (to_come g (λ port. None)) (to_come_none g (λ port. None) (λ port. refl)) g.ports (start g trace).messages (length-map g.ports (λ (p : PortTree). from_outside trace p.feed)));
  count = refl;
  others = λ v. inl refl;
  written = sym (ap (λ ws. after_writes ws (start g trace).vars) (writes_below_zero [] []));
  lawful = λ t j is. absurd (none-some j (sym (none_at t) ∙ is));
  named = λ j lt. let z = done-zero [] j in absurd (omega arith);
  ended = λ z has. absurd has;
  one = λ a b has_a has_b e. absurd has_a;
  all = λ port k some le. let z = jobs_none port in absurd (omega arith);
  in_turn = λ t j is k some lt. absurd (none-some j (sym (none_at t) ∙ is));
}

pub starts_serial : StartsSerial
starts_serial g trace can = record {
  stands = subst (λ (o : List Job). MatchesSerial g trace o (start g trace) (first_state g trace)) (sym order_none) (first_stands g trace);
  begun = λ p b at_p. absurd (none-some b at_p);
  unfinished = λ p b at_p. absurd (none-some b at_p);
  lines = knows_first g trace;
}
