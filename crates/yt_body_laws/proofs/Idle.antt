-- Idle ticks change nothing.
use Rattle.std.proofs.Common.{◌≡◌, ℕ, zero, suc, ◌<◌, ◌≤◌, List, [], ◌∷◌, ◌++◌, length, replicate, None, Some, refl, sym, ap, subst, ◌∙◌, append-nil, append_assoc, ⊎_elim, arith}
use Rattle.std.proofs.lemmas.Bool.{cases_lt}
use Rattle.std.proofs.lemmas.Option.{none-some}
use Rattle.yt_list.specs.Numbered.{numbered}
use Rattle.yt_graph.specs.declared.port.Feed as feed
use Rattle.yt_graph.specs.declared.port.Feed.{Feed}
use Rattle.yt_graph.specs.Picture.{GraphTree, graph_tree}
use Rattle.yt_log.specs.declared.job.Job.{Job}
use Rattle.yt_log.specs.Ticks.{Ticks, done}
use Rattle.yt_chan.specs.declared.target.Arrived.{Arrived}
use Rattle.yt_chan.specs.declared.target.Arrived.TheVariants.{Port, Output}
use Rattle.yt_rates.specs.Acceptance.{Parts}
use Rattle.yt_serial.specs.PortMessages.{PortMessage}
use Rattle.yt_serial.specs.SerialHandling.{Serial}
use Rattle.yt_serial.proofs.Lemmas.{done_other}
use Rattle.yt_interleave.specs.Interleaved.{RunState, known_at, port_at, with_idle, with_idles}
use Rattle.yt_interleave.specs.Machines.{IsAloneAt}
use Rattle.yt_interleave.specs.Waits.{NoneComesBefore, wait_from}
use Rattle.yt_interleave.proofs.Lemmas.{messages_wait, none_between}
use Rattle.yt_body.specs.State.{HandlersState, code_at}
use Rattle.yt_body_laws.specs.Carrying.{Carries, known_for, over_wire}
use Rattle.yt_body_laws.specs.Laws.{BodiesIdle}

-- a log in which as much is done of each job
pub with_log : (parts : Parts) (s : Serial) (r : RunState) (due : Arrived → ℕ) (b : HandlersState) (log : Ticks) → ((job : Job) → done log job (length log) ≡ done r.log job (length r.log)) →
    Carries parts s r due b → Carries parts s (record r { log = log }) due b
with_log parts s r due b log same carries = record {
  graph = carries.graph;
  sound = carries.sound;
  vars = carries.vars;
  begun = λ port a at.
      let run = carries.begun port a at in
      record {
        stage = run.stage;
        number = run.number;
        arrival = run.arrival;
        progress = run.progress;
        alone = subst (λ (n : ℕ). IsAloneAt (code_at parts port) a.message.values a.vars n run.progress) (sym (same a.job)) run.alone;
        machine = run.machine;
        sent = run.sent;
      };
  only = carries.only;
  placed = λ port stage. let h = carries.placed port stage in record { message = h.message; there = h.there; arrival = h.arrival; values = h.values; early = h.early };
  came = carries.came;
  arrived = carries.arrived;
  closed = λ port some. let h = carries.closed port some in record { message = h.message; there = h.there; arrival = h.arrival };
  waits = carries.waits;
  rise = carries.rise;
  sent = λ target m has. let h = carries.sent target m has in record { closed = h.closed; passes = h.passes; sender = h.sender; there = h.there; place = h.place; few = h.few; time = h.time };
}

done_idles : (count : ℕ) (log : Ticks) (job : Job) → done (log ++ replicate count None) job (length (log ++ replicate count None)) ≡ done log job (length log)
done_idles zero log job = ap (λ (l : Ticks). done l job (length l)) (append-nil log)
done_idles (suc n) log job =
    ap (λ (l : Ticks). done l job (length l)) (sym (append_assoc log (None ∷ []) (replicate n None)))
    ∙ done_idles n (log ++ None ∷ []) job
    ∙ done_other log None job (λ e. none-some job e)

same_over : (due t : ℕ) (f : Feed) (ms : List PortMessage) → wait_from t ms ≡ wait_from due ms → wait_from t (over_wire f ms) ≡ wait_from due (over_wire f ms)
same_over due t (feed.TheVariants.Input input) ms same = refl
same_over due t (feed.TheVariants.Out port out) ms same = same

same_waits : (g : GraphTree) (r : RunState) (due t : ℕ) → due ≤ t → NoneComesBefore r due t → (target : Arrived) → wait_from t (known_for g r target) ≡ wait_from due (known_for g r target)
same_waits g r due t le none (Port port) = same_over due t (port_at g port).feed (known_at r port) ((messages_wait.later r due t le none).0 port)
same_waits g r due t le none (Output output) = (messages_wait.later r due t le none).1 output

-- the same waits at another tick, before which no other message comes to a port
pub with_due : (parts : Parts) (s : Serial) (r : RunState) (due later : Arrived → ℕ) (b : HandlersState) → ((target : Arrived) → due target ≤ later target) →
    ((port n : ℕ) (m : PortMessage) → numbered (known_at r port) n ≡ Some m → m.time < later (Port port) → m.time < due (Port port)) →
    ((target : Arrived) → wait_from (later target) (known_for (graph_tree parts.graph) r target) ≡ wait_from (due target) (known_for (graph_tree parts.graph) r target)) →
    Carries parts s r due b → Carries parts s r later b
with_due parts s r due later b le none same carries = record {
  graph = carries.graph;
  sound = carries.sound;
  vars = carries.vars;
  begun = carries.begun;
  only = carries.only;
  placed = λ port stage.
      let h = carries.placed port stage in
      let before = h.early in
      let more = le (Port port) in
      record { message = h.message; there = h.there; arrival = h.arrival; values = h.values; early = omega arith };
  came = carries.came;
  arrived = λ port n m there lt. carries.arrived port n m there (none port n m there lt);
  closed = carries.closed;
  waits = λ target. carries.waits target ∙ sym (same target);
  rise = carries.rise;
  sent = carries.sent;
}

-- no message comes between
none_comes : (r : RunState) (due t : ℕ) → NoneComesBefore r due t → (port n : ℕ) (m : PortMessage) → numbered (known_at r port) n ≡ Some m → m.time < t → m.time < due
none_comes r due t none port zero m there lt = absurd (none-some m there)
none_comes r due t none port (suc k) m there lt =
    ⊎_elim
    (λ (before : m.time < due). before)
    (λ (ge : due ≤ m.time). let late = none_between due t (known_at r port) (none.ports port) k m there ge in absurd (omega arith))
    (cases_lt m.time due)

pub bodies_idle : BodiesIdle
bodies_idle = record {
  idles = λ parts s r due b carries. with_log parts s r due b (with_idle r).log (λ job. done_other r.log None job (λ e. none-some job e)) carries;
  idles_on = λ parts s r due t count b carries le none.
      with_log parts s r (λ target. t) b (with_idles count r).log (λ job. done_idles count r.log job)
      (with_due parts s r (λ target. due) (λ target. t) b (λ target. le) (none_comes r due t none) (same_waits (graph_tree parts.graph) r due t le none) carries);
}
