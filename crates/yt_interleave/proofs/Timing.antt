-- Where deadlines are kept, a port's messages are handled in turn, and none is replaced before its handling ends.
use Rattle.std.proofs.Common.{◌≡◌, ◌⊎◌, ℕ, zero, suc, ◌+◌, ◌<◌, ◌≤◌, List, length, slice_get, get_or, Option, None, Some, refl, sym, ap, subst, ◌∙◌, inl, inr, ⊎_elim, arith}
use Rattle.std.proofs.lemmas.Bool.{cases_eq, cases_lt}
use Rattle.std.proofs.lemmas.Option.{none-some, same_Some, slice_get_within, slice_get-get_or}
use Rattle.yt_graph.specs.declared.port.Feed.{Feed}
use Rattle.yt_graph.specs.Picture.{GraphTree, PortTree}
use Rattle.yt_log.specs.declared.job.Job.{Job}
use Rattle.yt_log.specs.declared.plan.PlanItem.{PlanItem}
use Rattle.yt_log.specs.Plan.{IsLegal, its_task, deadline_of}
use Rattle.yt_log.specs.Tasks as numbers
use Rattle.yt_log.specs.Tasks.{Has, no_task}
use Rattle.yt_log.specs.Ticks.{done, first_tick, KeepsDeadlines}
use Rattle.yt_log.proofs.Lemmas.{deadline_is}
use Rattle.yt_log.proofs.Lemmas.{one_item, good_item}
use Rattle.yt_log.proofs.Lemmas.{done_grows, first_is}
use Rattle.yt_rates.specs.Rates.{period_of}
use Rattle.yt_rates.specs.Tables.{tasks_of}
use Rattle.yt_trace.specs.declared.message.Message.{Message}
use Rattle.yt_serial.specs.Beginnings.{order_of, nth_job}
use Rattle.yt_serial.specs.PortMessages.{PortMessage}
use Rattle.yt_list.specs.Numbered.{numbered}
use Rattle.yt_serial.specs.SerialHandling.{Serial, messages_at, items_of, handled_of, brought}
use Rattle.yt_serial.proofs.Lemmas.{Holds, port_there, numbered_apart, port_task, sent_late, numbered_within, period_some}
use Rattle.yt_interleave.specs.Interleaved.{ActiveJob, RunState, port_at, known_at, whole_of, item_of, passes_of, MatchesSerial}
use Rattle.yt_serial.specs.Premises.{CanRun}
use Rattle.yt_interleave.specs.Moves.{MayBegin, Interleaves, IsResourceFree}
use Rattle.yt_interleave.specs.Timing.{HasEnded, IsOnTime, WaitsToBegin, IsPlanOfRun}
use Rattle.yt_interleave.proofs.Begin as begin

-- earlier elements are there too
pub number_before : (ms : List PortMessage) (n k : ℕ) (m : PortMessage) → numbered ms n ≡ Some m → 1 ≤ k → k ≤ n → (x : PortMessage) × (numbered ms k ≡ Some x)
number_before ms n zero m h some le = absurd (omega arith)
number_before ms zero (suc k) m h some le = absurd (omega arith)
number_before ms (suc n) (suc k) m h some le = let w = slice_get_within ms n m h in (get_or ms k m, slice_get-get_or ms k m (omega arith))

none_or_some : {X : Type 0} (o : Option X) → (o ≡ None) ⊎ ((x : X) × (o ≡ Some x))
none_or_some None = inl refl
none_or_some (Some x) = inr (x, refl)

module _ (g : GraphTree) (trace : List Message) (can : CanRun g trace) (s : Serial) (r : RunState) (is : Interleaves g trace s r) where
  abbrev stands : MatchesSerial g trace (order_of r.log) s r
  stands = is.stands

  pub serial : Holds g s
  serial = begin.serial g can.well_formed can.rates trace can.keeps (order_of r.log) s r is.stands

  pub known_first : (port n : ℕ) (m : PortMessage) → numbered (known_at r port) n ≡ Some m → numbered (messages_at s port) n ≡ Some m
  known_first port n m h = begin.known_first g can.well_formed can.rates trace can.keeps (order_of r.log) s r is.stands port n m h

  -- a port with a known message
  pub known_port : (port n : ℕ) (m : PortMessage) → numbered (known_at r port) n ≡ Some m → (p : PortTree) × (numbered g.ports port ≡ Some p)
  known_port port n m h = port_there g.ports r.messages port n m stands.long h

  -- messages of a port are its period apart
  pub apart : (port k n : ℕ) (p : PortTree) (x m : PortMessage) → numbered g.ports port ≡ Some p → numbered (messages_at s port) k ≡ Some x → numbered (messages_at s port) n ≡ Some m → k < n → x.time + period_of g p ≤ m.time
  apart port k n p x m there a b lt = numbered_apart (period_of g p) (messages_at s port) (serial.spread port p there) k n x m a b lt

  -- a job that has begun has had a tick
  pub has_tick : (z : PlanItem) → Has (items_of s) z → 1 ≤ z.cost → 0 < done r.log z.job (length r.log)
  has_tick z has cost =
      ⊎_elim
      (λ (a : (b : ActiveJob) × (r.active z.job.task ≡ Some b) × (z ≡ item_of g b)).
      subst (λ (j : Job). 0 < done r.log j (length r.log)) (sym (ap (λ (x : PlanItem). x.job) a.2)) (is.begun z.job.task a.0 a.1))
      (λ (e : done r.log z.job (length r.log) ≡ z.cost). omega arith)
      (stands.ended z has)

  -- one that has had none has not begun
  pub not_begun : (port n : ℕ) → 1 ≤ n → done r.log (nth_job port n) (length r.log) ≡ 0 → handled_of s port < n
  not_begun port n some none =
      ⊎_elim
      (λ (lt : handled_of s port < n). lt)
      (λ (ge : n ≤ handled_of s port).
      let z = stands.all port n some ge in
      let t = has_tick z.0 z.1 z.3 in
      let same : done r.log z.0.job (length r.log) ≡ done r.log (nth_job port n) (length r.log) = ap (λ (j : Job). done r.log j (length r.log)) z.2 in
      absurd (omega arith))
      (cases_lt (handled_of s port) n)

  module _ (on_time : IsOnTime g s r) where
    -- where the handling of a port's message has not begun, all earlier ones have been handled, and none is active
    pub in_turn : (port n : ℕ) (m : PortMessage) → numbered (known_at r port) n ≡ Some m → m.time ≤ length r.log → done r.log (nth_job port n) (length r.log) ≡ 0
        → (n ≡ suc (handled_of s port)) × (r.active port ≡ None)
    in_turn port zero m there arrived none = absurd (none-some m there)
    in_turn port (suc k) m there arrived none =
        let p = known_port port (suc k) m there in
        let late = not_begun port (suc k) (omega arith) none in
        ⊎_elim
        (λ (e : k ≡ 0).
        let first : handled_of s port ≡ 0 = omega arith in
        (omega arith, none_at (r.active port) refl (λ b at. let u = stands.under_way port b at in let s1 = (numbered_within (messages_at s port) b.job.number b.message u.there).0 in let n1 = u.number in absurd (omega arith))))
        (λ (ne : k ≡ 0 → ⊥).
        let before = number_before (known_at r port) (suc k) k m there (omega arith) (omega arith) in
        let far = apart port k (suc k) p.0 before.0 m p.1 (known_first port k before.0 before.1) (known_first port (suc k) m there) (omega arith) in
        let ended = on_time port k p.0 before.0 p.1 before.1 (omega arith) in
        let h = ended.handled in
        (omega arith, none_at (r.active port) refl (λ b at. ended.not_active b at (let u = (stands.under_way port b at).number in omega arith))))
        (cases_eq k 0)
      where
        none_at : (o : Option ActiveJob) → r.active port ≡ o → ((b : ActiveJob) → r.active port ≡ Some b → ⊥) → r.active port ≡ None
        none_at None at never = at
        none_at (Some b) at never = absurd (never b at)

    pub may_begin : (job : Job) (m : PortMessage) → WaitsToBegin r job m → IsResourceFree g r job.task → MayBegin g s r job m
    may_begin job m pending free =
        let turn = in_turn job.task job.number m pending.there pending.arrived pending.fresh in
        record { number = turn.0; there = pending.there; arrived = pending.arrived; idle = turn.1; free = free }

    -- the message of a job that has not ended is the last one that has come to its port, also of those that are still to be passed on
    pub held : (port n k : ℕ) (m x : PortMessage) → numbered (known_at r port) n ≡ Some m → (HasEnded s r port n → ⊥)
        → numbered (messages_at s port) k ≡ Some x → x.time ≤ length r.log → k ≤ n
    held port n k m x there not_ended other come =
        let p = known_port port n m there in
        ⊎_elim
        (λ (lt : n < k).
        let far = apart port n k p.0 m x p.1 (known_first port n m there) other lt in
        absurd (not_ended (on_time port n p.0 m p.1 there (omega arith))))
        (λ (ge : k ≤ n). ge)
        (cases_lt n k)

  -- a job has no tick before its message comes
  pub fresh_before : (port n : ℕ) (m : PortMessage) → numbered (known_at r port) n ≡ Some m → length r.log ≤ m.time → done r.log (nth_job port n) (length r.log) ≡ 0
  fresh_before port n m there late =
      ⊎_elim
      (λ (lt : 0 < done r.log (nth_job port n) (length r.log)).
      let first = first_is r.log (nth_job port n) (length r.log) lt in
      let t = first_tick r.log (nth_job port n) (length r.log) in
      let l = stands.lawful t (nth_job port n) first.names in
      let z = l.0 in
      let arrived = l.3.arrived in
      let below = first.below in
      let of = serial.items z l.1 in
      let same : numbered (messages_at s port) n ≡ Some of.message =
      ap (λ (j : Job). numbered (messages_at s j.task) j.number) (sym l.2) ∙ of.there in
      let message : m ≡ of.message = same_Some m of.message (sym (known_first port n m there) ∙ same) in
      let time : m.time ≡ z.arrival = ap (λ (x : PortMessage). x.time) message ∙ of.arrival in
      absurd (omega arith))
      (λ (ge : done r.log (nth_job port n) (length r.log) ≤ 0). omega arith)
      (cases_lt 0 (done r.log (nth_job port n) (length r.log)))

  -- so where a port's message comes now, its earlier ones have been handled and none is active
  pub port_free : IsOnTime g s r → (port n : ℕ) (m : PortMessage) → numbered (known_at r port) n ≡ Some m → m.time ≡ length r.log → (n ≡ suc (handled_of s port)) × (r.active port ≡ None)
  port_free on_time port n m there now = in_turn on_time port n m there (omega arith) (fresh_before port n m there (omega arith))

  -- the deadlines of a legal plan that goes with the run are kept
  pub on_time_from : (plan : List PlanItem) (coming : ℕ) → IsPlanOfRun s r coming plan → length r.log ≤ coming → IsLegal (tasks_of g) plan → KeepsDeadlines (tasks_of g) plan r.log (length r.log) → IsOnTime g s r
  on_time_from plan coming goes low legal keeps port n p m is_port there due =
      let some = period_some g port p can.rates is_port in
      let z = goes.all port n m there (omega arith) in
      let item = z.0 in
      let good = good_item (tasks_of g) plan legal item z.1 in
      let cost = good.some in
      let at : (m2 : PortMessage) × (numbered (known_at r item.job.task) item.job.number ≡ Some m2) × (m2.time ≡ item.arrival) = goes.known item z.1 in
      let here : numbered (known_at r item.job.task) item.job.number ≡ numbered (known_at r port) n = ap (λ (j : Job). numbered (known_at r j.task) j.number) z.2 in
      let message : m ≡ at.0 = same_Some m at.0 (sym there ∙ sym here ∙ at.1) in
      let arrival : m.time ≡ item.arrival = ap (λ (x : PortMessage). x.time) message ∙ at.2 in
      let task = port_task g port p is_port in
      let period : (its_task (tasks_of g) item).period ≡ period_of g p =
      ap (λ (j : Job). (numbers.task_of (tasks_of g) j.task).period) z.2 ∙ ap (λ t. t.period) task.2 in
      let deadline = deadline_is (tasks_of g) item in
      let met = keeps item z.1 (omega arith) in
      let grows = done_grows r.log item.job (deadline_of (tasks_of g) item) (length r.log) (omega arith) in
      let begun = stands.named item.job (omega arith) in
      let same : begun.0 ≡ item = one_item (tasks_of g) plan legal begun.0 item (goes.begun begun.0 begun.1) z.1 begun.2 in
      let has : Has (items_of s) item = subst (λ (x : PlanItem). Has (items_of s) x) same begun.1 in
      let handled = (serial.items item has).handled in
      let number : item.job.number ≡ n = ap (λ (j : Job). j.number) z.2 in
      let count : handled_of s item.job.task ≡ handled_of s port = ap (λ (j : Job). handled_of s j.task) z.2 in
      record {
        handled = omega arith;
        not_active = λ b at_port same_number.
            let u = stands.under_way port b at_port in
            let left = is.unfinished port b at_port in
            let job : (item_of g b).job ≡ item.job = same_job_parts b.job port n u.task same_number ∙ sym z.2 in
            let one : item_of g b ≡ item = stands.one (item_of g b) item u.item has job in
            let c : (whole_of g b).ticks ≡ item.cost = ap (λ (x : PlanItem). x.cost) one in
            let d : done r.log b.job (length r.log) ≡ done r.log item.job (length r.log) = ap (λ (j : Job). done r.log j (length r.log)) job in
            absurd (omega arith);
      }
    where
      same_job_parts : (j : Job) (port k : ℕ) → j.task ≡ port → j.number ≡ k → j ≡ nth_job port k
      same_job_parts j port k e f = ap (λ (n : ℕ). nth_job n j.number) e ∙ ap (nth_job port) f

-- what a job passes on comes no earlier than its deadline
pub passes_late : (g : GraphTree) (b : ActiveJob) (f : Feed) (k : ℕ) (x : PortMessage)
    → slice_get (brought b.job.task (passes_of g b) f) k ≡ Some x → b.message.time + period_of g (port_at g b.job.task) ≤ x.time
passes_late g b f k x there = sent_late g (port_at g b.job.task) b.job b.message.time (whole_of g b).sends f k x there
