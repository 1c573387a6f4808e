-- What is released and shown of the messages that come.
use Rattle.std.proofs.Common.{◌≡◌, ◌⊎◌, ℕ, suc, ◌<◌, ◌≤◌, ◌&&◌, ltb, eqb, false, List, [], ◌∷◌, ◌++◌, length, slice_get, Some, refl, sym, ap, ap₂, subst, ◌∙◌, inl, inr, ⊎_elim, arith, append-nil, eq-eqb, ne_eqb}
use Rattle.std.specs.Prelude.{ℤ}
use Rattle.std.proofs.lemmas.Bool.{and_right, cases_eq, cases_lt, cond-true, cond-false, le-ltb, or_from}
use Rattle.std.proofs.lemmas.Option.{same_Some}
use Rattle.yt_list.specs.Numbered.{numbered}
use Rattle.yt_log.specs.declared.plan.PlanItem.{PlanItem}
use Rattle.yt_log.specs.Tasks.{Has}
use Rattle.yt_log.proofs.Lemmas.{has_append, has_last, has_left, has_push}
use Rattle.yt_exec.specs.StandsFor.{item_at}
use Rattle.yt_chan.specs.declared.target.Arrived.{Arrived}
use Rattle.yt_chan.specs.declared.target.Arrived.TheVariants.{Port, Output}
use Rattle.yt_chan.specs.State.{IsArriving, placed_at}
use Rattle.yt_chan.proofs.Lemmas.{target_cases}
use Rattle.yt_rates.specs.Acceptance.{Parts}
use Rattle.yt_trace.specs.declared.message.Message.{Message}
use Rattle.yt_serial.specs.Beginnings.{nth_job}
use Rattle.yt_serial.specs.declared.shown.OutLine.{OutLine}
use Rattle.yt_serial.specs.Lines.{AreInLineOrder, lines_of}
use Rattle.yt_serial.specs.PortMessages.{PortMessage}
use Rattle.yt_serial.specs.SerialHandling.{Serial, handled_of, shown}
use Rattle.yt_serial.specs.Told.{line_before}
use Rattle.yt_serial.proofs.Lemmas.{lines_append}
use Rattle.yt_interleave.specs.Interleaved.{RunState, known_at}
use Rattle.yt_interleave.specs.Lines.{come_at, come_before, messages_to}
use Rattle.yt_interleave.specs.Runs.{AreReleased, AreShownNow}
use Rattle.yt_interleave.specs.Waits.{wait_from}
use Rattle.yt_interleave.proofs.Lemmas.{before_all, before_late, wait_there}
use Rattle.yt_body.specs.State.{HandlersState, run_at}
use Rattle.yt_body.specs.Steps.{Comes}
use Rattle.yt_body_laws.specs.Placing.{AllPut, BodiesTell, HasPlaced, HasTold, IsPlacing, with_tick_at}
use Rattle.yt_body_laws.proofs.Comings.{come_none, come_time, come_waits, tick_here, tick_other}
use Rattle.yt_body_laws.proofs.Placing.{all_come, comes_later, still_waits}
use Rattle.yt_body_laws.proofs.Room.{free, waits_known}

-- a line of the same time and a later output goes behind
order_push : (more : List OutLine) (l : OutLine) → AreInLineOrder more → ((x : OutLine) → Has more x → line_before l x ≡ false) → AreInLineOrder (more ++ l ∷ [])
order_push [] l order later = ((λ x h. absurd h), tt)
order_push (y ∷ more) l order later = (
  (λ x h.
      ⊎_elim
      (λ (old : Has more x). order.0 x old)
      (λ (new : (x ≡ l) ⊎ ⊥). ⊎_elim (λ (e : x ≡ l). ap (λ (z : OutLine). line_before z y) e ∙ later y (inl refl)) (λ (none : ⊥). absurd none) new)
      (has_append more (l ∷ []) x h)),
  order_push more l order.1 (λ x h. later x (inr h)),
)

not_before : (l x : OutLine) → l.time ≡ x.time → x.output < l.output → line_before l x ≡ false
not_before l x time output =
    or_from (ltb l.time x.time) (eqb l.time x.time && ltb l.output x.output) (le-ltb l.time x.time (omega arith))
    (and_right (eqb l.time x.time) (ltb l.output x.output) (le-ltb l.output x.output (omega arith)))

-- what comes now, before a tick
before_none : (due now : ℕ) (ms : List PortMessage) → due ≡ now → come_before due (come_at now ms) ≡ []
before_none due now ms e = before_late due (come_at now ms) (λ k x h. let time = come_time now ms k x h in omega arith)

before_now : (due now : ℕ) (ms : List PortMessage) → now < due → come_before due (come_at now ms) ≡ come_at now ms
before_now due now ms lt = before_all due (come_at now ms) (λ k x h. let time = come_time now ms k x h in omega arith)

port_not_output : (a b : ℕ) → Output a ≡ Port b → ⊥
port_not_output a b e = cc

output_not_port : (a b : ℕ) → Port a ≡ Output b → ⊥
output_not_port a b e = cc

output_same : (a b : ℕ) → Output a ≡ Output b → a ≡ b
output_same a b e = cc

port_same : (a b : ℕ) → Port a ≡ Port b → a ≡ b
port_same a b e = cc

module _ (parts : Parts) (trace : List Message) (s : Serial) (r : RunState) (due : Arrived → ℕ) (b : HandlersState) (is : IsPlacing parts trace s r due b) where
  -- what has come is still so when one more comes
  raised : (t other : Arrived) → length r.log < due other → length r.log < with_tick_at t (suc (length r.log)) due other
  raised t other lt =
      ⊎_elim
      (λ (own : other ≡ t). let here : with_tick_at t (suc (length r.log)) due other ≡ suc (length r.log) = ap (with_tick_at t (suc (length r.log)) due) own ∙ tick_here t (suc (length r.log)) due in omega arith)
      (λ (ne : other ≡ t → ⊥). let same = tick_other t (suc (length r.log)) due other ne in omega arith)
      (target_cases other t)

  starts : ((t : Arrived) → due t ≡ length r.log) → HasTold r due b [] []
  starts now = record {
    known = λ z has. absurd has;
    now = λ z has. absurd has;
    come = λ z has. absurd has;
    all = λ port n m there time lt. absurd (let e = now (Port port) in omega arith);
    order = tt;
    times = λ l has. absurd has;
    each = λ n. sym (ap (shown n) (before_none (due (Output n)) (length r.log) (messages_to r.outputs n) (now (Output n))));
    ahead = λ l has n arrives. absurd has;
  }

  module _ (t : Arrived) (after : HandlersState) (placed : HasPlaced parts trace s r due t after) where
    -- what still arrives arrived before
    arrives_before : (other : Arrived) → (other ≡ t → ⊥) → IsArriving after.channels (length r.log) other → IsArriving b.channels (length r.log) other
    arrives_before other ne (q, has, time) =
        let w = waits_known parts s r (with_tick_at t (suc (length r.log)) due) after placed.placing.carries other q has in
        let same = tick_other t (suc (length r.log)) due other ne in
        let late = w.2 in
        let old = still_waits parts s r due b is.carries other w.0 _ w.1 (omega arith) in
        let same_time = ap (λ (x : PortMessage). x.time) old.2 in
        (old.0, old.1, omega arith)

    arrives_no_more : IsArriving after.channels (length r.log) t → ⊥
    arrives_no_more (q, has, time) =
        let late = (waits_known parts s r (with_tick_at t (suc (length r.log)) due) after placed.placing.carries t q has).2 in
        let now = tick_here t (suc (length r.log)) due in
        omega arith

  module _ (new : List PlanItem) (more : List OutLine) (told : HasTold r due b new more) where
    releases : (port : ℕ) (after : HandlersState) → HasPlaced parts trace s r due (Port port) after → (cost : ℕ) →
        HasTold r (with_tick_at (Port port) (suc (length r.log)) due) after (new ++ item_at (length r.log) (nth_job port (run_at after port).number) cost ∷ []) more
    releases port after placed cost =
        let later = with_tick_at (Port port) (suc (length r.log)) due in
        let item : PlanItem = item_at (length r.log) (nth_job port (run_at after port).number) cost in
        let come = placed.come in
        record {
          known = λ z has.
              ⊎_elim
              (λ (old : Has new z). told.known z old)
              (λ (e : z ≡ item).
              subst (λ (y : PlanItem). (m : PortMessage) × (numbered (known_at r y.job.task) y.job.number ≡ Some m) × (m.time ≡ y.arrival)) (sym e) come)
              (has_push new item z has);
          now = λ z has.
              ⊎_elim
              (λ (old : Has new z). told.now z old)
              (λ (e : z ≡ item). ap (λ (y : PlanItem). y.arrival) e)
              (has_push new item z has);
          come = λ z has.
              ⊎_elim
              (λ (old : Has new z). raised (Port port) (Port z.job.task) (told.come z old))
              (λ (e : z ≡ item).
              let task : z.job.task ≡ port = ap (λ (y : PlanItem). y.job.task) e in
              let here : later (Port z.job.task) ≡ suc (length r.log) = ap (λ (k : ℕ). later (Port k)) task ∙ tick_here (Port port) (suc (length r.log)) due in
              omega arith)
              (has_push new item z has);
          all = λ q n m there time lt.
              ⊎_elim
              (λ (own : q ≡ port).
              let one = free parts trace s r due b is q n m there time in
              let other = free parts trace s r due b is port (run_at after port).number come.0 come.1 come.2 in
              let count : (run_at after port).number ≡ n = other.0 ∙ ap (λ (x : ℕ). suc (handled_of s x)) (sym own) ∙ sym one.0 in
              (item, has_last new item, ap₂ nth_job (sym own) count))
              (λ (other : q ≡ port → ⊥).
              let same = tick_other (Port port) (suc (length r.log)) due (Port q) (λ e. other (port_same q port e)) in
              let z = told.all q n m there time (omega arith) in
              (z.0, has_left new (item ∷ []) z.0 z.1, z.2))
              (cases_eq q port);
          order = told.order;
          times = told.times;
          each = λ n.
              told.each n
              ∙ ap (λ (d : ℕ). shown n (come_before d (come_at (length r.log) (messages_to r.outputs n)))) (sym (tick_other (Port port) (suc (length r.log)) due (Output n) (port_not_output n port)));
          ahead = λ l has n arrives. told.ahead l has n (arrives_before (Port port) after placed (Output n) (port_not_output n port) arrives);
        }

    module _ (output : ℕ) (after : HandlersState) (comes : Comes b (length r.log) (Output output) after) (placed : HasPlaced parts trace s r due (Output output) after)
        (values : List ℤ) (at : placed_at after.channels (Output output) ≡ Some values) where
      abbrev line : OutLine
      line = record { time = length r.log; output = output; values = values }

      line_is : shown output (come_at (length r.log) (messages_to r.outputs output)) ≡ line ∷ []
      line_is =
          let come = placed.come in
          let time = come_time (length r.log) (messages_to r.outputs output) 0 come.0 (ap (λ (ms : List PortMessage). slice_get ms 0) come.1) in
          ap (shown output) come.1
          ∙ ap₂ (λ (t : ℕ) (v : List ℤ). (record { time = t; output = output; values = v }) ∷ []) time (same_Some come.0.values values (sym come.2 ∙ at))

      in_or_line : (l : OutLine) → Has (more ++ line ∷ []) l → Has more l ⊎ (l ≡ line)
      in_or_line l h =
          ⊎_elim (λ (old : Has more l). inl old) (λ (new : (l ≡ line) ⊎ ⊥). ⊎_elim (λ (e : l ≡ line). inr e) (λ (none : ⊥). absurd none) new) (has_append more (line ∷ []) l h)

      each_own : lines_of output (more ++ line ∷ []) ≡ shown output (come_before (with_tick_at (Output output) (suc (length r.log)) due (Output output)) (come_at (length r.log) (messages_to r.outputs output)))
      each_own =
          let now = length r.log in
          let ms = messages_to r.outputs output in
          lines_append output more (line ∷ [])
          ∙ ap₂ (λ (xs ys : List OutLine). xs ++ ys) (told.each output ∙ ap (shown output) (before_none (due (Output output)) now ms placed.waited))
          (cond-true (eqb output output) (line ∷ []) [] (eq-eqb output output refl))
          ∙ sym line_is
          ∙ ap (shown output) (sym (before_now (with_tick_at (Output output) (suc now) due (Output output)) now ms (let e = tick_here (Output output) (suc now) due in omega arith)))

      each_other : (n : ℕ) → (n ≡ output → ⊥) →
          lines_of n (more ++ line ∷ []) ≡ shown n (come_before (with_tick_at (Output output) (suc (length r.log)) due (Output n)) (come_at (length r.log) (messages_to r.outputs n)))
      each_other n ne =
          lines_append n more (line ∷ [])
          ∙ ap (λ (ys : List OutLine). lines_of n more ++ ys) (cond-false (eqb output n) (line ∷ []) [] (ne_eqb output n (λ e. ne (sym e))))
          ∙ append-nil (lines_of n more)
          ∙ told.each n
          ∙ ap (λ (d : ℕ). shown n (come_before d (come_at (length r.log) (messages_to r.outputs n)))) (sym (tick_other (Output output) (suc (length r.log)) due (Output n) (λ e. ne (output_same n output e))))

      shows : HasTold r (with_tick_at (Output output) (suc (length r.log)) due) after new (more ++ line ∷ [])
      shows =
          let here = comes.delivers.next in
          record {
            known = told.known;
            now = told.now;
            come = λ z has. raised (Output output) (Port z.job.task) (told.come z has);
            all = λ q n m there time lt.
                let same = tick_other (Output output) (suc (length r.log)) due (Port q) (output_not_port q output) in
                told.all q n m there time (omega arith);
            order = order_push more line told.order (λ x h. not_before line x (sym (told.times x h)) (told.ahead x h output here.arrives));
            times = λ l has. ⊎_elim (λ (old : Has more l). told.times l old) (λ (e : l ≡ line). ap (λ (x : OutLine). x.time) e) (in_or_line l has);
            each = λ n.
                let E : ℕ → Type 0 = λ k. lines_of k (more ++ line ∷ []) ≡ shown k (come_before (with_tick_at (Output output) (suc (length r.log)) due (Output k)) (come_at (length r.log) (messages_to r.outputs k))) in
                ⊎_elim (λ (own : n ≡ output). subst E (sym own) each_own) (λ (ne : n ≡ output → ⊥). each_other n ne) (cases_eq n output);
            ahead = λ l has n arrives.
                ⊎_elim
                (λ (own : n ≡ output). absurd (arrives_no_more (Output output) after placed (subst (λ (k : ℕ). IsArriving after.channels (length r.log) (Output k)) own arrives)))
                (λ (ne : n ≡ output → ⊥).
                let old = arrives_before (Output output) after placed (Output n) (λ e. ne (output_same n output e)) arrives in
                ⊎_elim
                (λ (h : Has more l). told.ahead l h n old)
                (λ (e : l ≡ line).
                let number : l.output ≡ output = ap (λ (x : OutLine). x.output) e in
                ⊎_elim (λ (lt : n < output). absurd (here.first (Output n) lt old)) (λ (ge : output ≤ n). omega (arith, ne)) (cases_lt n output))
                (in_or_line l has))
                (cases_eq n output);
          }

    ends : AllPut parts r due → ((t : Arrived) → IsArriving b.channels (length r.log) t → ⊥) → AreReleased r new × AreShownNow r more
    ends put none =
        let now = length r.log in (
          record {
            known = told.known;
            now = told.now;
            all = λ port n m there time.
                let come = all_come parts trace s r due b is put none port n m there (omega arith) in
                told.all port n m there time (omega arith);
          },
          record {
            order = told.order;
            times = told.times;
            each = λ n.
                told.each n
                ∙ ap (shown n)
                (⊎_elim
                (λ (lt : now < due (Output n)). before_now (due (Output n)) now (messages_to r.outputs n) lt)
                (λ (ge : due (Output n) ≤ now).
                let from = is.from (Output n) in
                let nothing : come_at now (messages_to r.outputs n) ≡ [] =
                sym (come_waits now (messages_to r.outputs n))
                ∙ come_none now (wait_from now (messages_to r.outputs n)) (λ k x h.
                let w = wait_there now (messages_to r.outputs n) k x h in
                let late = w.2 in
                comes_later parts trace s r due b is put none (Output n) w.0 x w.1 (omega arith)) in
                ap (come_before (due (Output n))) nothing ∙ sym nothing)
                (cases_lt now (due (Output n))));
          },
        )

pub bodies_tell : BodiesTell
bodies_tell = record {
  starts = λ parts trace s r due b is now. starts parts trace s r due b is now;
  releases = λ parts trace s r due b is new more told port after placed cost. releases parts trace s r due b is new more told port after placed cost;
  shows = λ parts trace s r due b is new more told output after comes placed values at. shows parts trace s r due b is new more told output after comes placed values at;
  ends = λ parts trace s r due b is new more told put none. ends parts trace s r due b is new more told put none;
}
