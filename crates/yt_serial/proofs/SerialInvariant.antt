-- What holds of serial handling at each moment, for a well-formed graph whose rates are within their limits.
use Rattle.std.proofs.Common.{◌≡◌, ℕ, zero, suc, ◌+◌, ◌-◌, ◌*◌, ◌%◌, ◌≤◌, List, [], ◌∷◌, ◌++◌, length, slice_get, Some, All, refl, sym, ap, subst, ◌∙◌, ⊎_elim, arith, append-nil}
use Rattle.std.specs.Option.{option_map}
use Rattle.std.proofs.lemmas.Bool.{cases_eq}
use Rattle.std.proofs.lemmas.List.{length-map, map_push}
use Rattle.std.proofs.lemmas.Nat.{mul-le}
use Rattle.std.proofs.lemmas.Option.{none-some, same_Some, slice_get_within, get_or_from_slice_get, slice_get-map}
use Rattle.std.proofs.Math.Nat.{mod-add-div}
use Rattle.yt_graph.specs.declared.port.Feed.{Feed}
use Rattle.yt_graph.specs.declared.port.Feed.TheVariants.{Out}
use Rattle.yt_graph.specs.Cost.{greatest_cost, greatest_sends, sent_on}
use Rattle.yt_graph.specs.Meaning.{Handling, handling}
use Rattle.yt_graph.specs.Picture.{GraphTree, PortTree}
use Rattle.yt_graph.specs.WellFormed.{IsWellFormed}
use Rattle.yt_graph.proofs.Lemmas.{ticks_within, sends_within}
use Rattle.yt_log.specs.declared.job.Job.{Job}
use Rattle.yt_log.specs.declared.plan.PlanItem.{PlanItem}
use Rattle.yt_log.specs.Plan.{its_task, jobs_of}
use Rattle.yt_log.specs.Tasks as numbers
use Rattle.yt_log.specs.Tasks.{Has, no_task}
use Rattle.yt_log.proofs.Lemmas.{has_push, jobs_push_same, jobs_push_other}
use Rattle.yt_log.proofs.Lemmas.{task_of-suc}
use Rattle.yt_rates.specs.Faults.{IsWithinRates}
use Rattle.yt_rates.specs.Rates.{every_of, period_of, gap_of}
use Rattle.yt_rates.specs.Tables.{task_of, tasks_of}
use Rattle.yt_rates.proofs.Lemmas.{source}
use Rattle.yt_serial.specs.PortMessages.{spaced, passed}
use Rattle.yt_trace.specs.Traces.{PortMessage}
use Rattle.yt_list.specs.Numbered.{numbered}
use Rattle.yt_serial.specs.SerialHandling.{Handled, Serial, messages_at, items_of, handled_of, brought, placed, all_shown}
use Rattle.yt_serial.proofs.Orderly.{AreOrderly, none, orderly_push}
use Rattle.yt_log.proofs.Lemmas.{next_multiple}
use Rattle.yt_serial.proofs.Sends.{spaced_within, spaced_spread}
use Rattle.yt_serial.proofs.SerialStates.{placed_at, placed-length, port_there, BringsOf, brings}
use Rattle.yt_serial.proofs.Spread.{get_cases, numbered_left, IsSpread, spread_behind, numbered_far, numbered_apart}

-- a message of an out comes of a job that was handled, and leaves its gap before the out's next messages may come
pub record ComesOf (g : GraphTree) (s : Serial) (q : PortTree) (source out : ℕ) (x : PortMessage) : Type 0 where
  pub number : ℕ
  pub message : PortMessage
  pub handled : number ≤ handled_of s source
  pub there : numbered (messages_at s source) number ≡ Some message
  pub multiple : number % every_of q out ≡ 0
  pub ends : x.time + gap_of g q out ≤ message.time + period_of g q + every_of q out * period_of g q

-- a job that was handled arrived with its message
pub record IsOfMessage (s : Serial) (z : PlanItem) : Type 0 where
  pub message : PortMessage
  pub handled : z.job.number ≤ handled_of s z.job.task
  pub there : numbered (messages_at s z.job.task) z.job.number ≡ Some message
  pub arrival : message.time ≡ z.arrival

pub record Holds (g : GraphTree) (s : Serial) : Type 0 where
  pub long : length s.messages ≡ length g.ports
  pub spread : (port : ℕ) (p : PortTree) → numbered g.ports port ≡ Some p → IsSpread (period_of g p) (messages_at s port)
  pub comes : (port : ℕ) (p : PortTree) (source out : ℕ) (q : PortTree) → numbered g.ports port ≡ Some p → p.feed ≡ Out source out → numbered g.ports source ≡ Some q
      → (i : ℕ) (x : PortMessage) → slice_get (messages_at s port) i ≡ Some x → ComesOf g s q source out x
  pub items : (z : PlanItem) → Has (items_of s) z → IsOfMessage s z
  pub orderly : AreOrderly none (tasks_of g) (items_of s)

-- a port that an out feeds has the out's gap for its period
fed_period : (g : GraphTree) → IsWellFormed g → (port : ℕ) (p : PortTree) (from out : ℕ) (q : PortTree)
    → numbered g.ports port ≡ Some p → p.feed ≡ Out from out → numbered g.ports from ≡ Some q → period_of g p ≡ gap_of g q out
fed_period g well zero p from out q there fed at = absurd (none-some p there)
fed_period g well (suc k) p zero out q there fed at = absurd (none-some q at)
fed_period g well (suc k) p (suc from) out q there fed at =
    let is = source g k p (suc from) out well there fed in
    let same : is.0 ≡ q = same_Some is.0 q (sym is.1.there ∙ ap (slice_get g.ports) (omega arith) ∙ at) in
    ap (λ s. s.period) is.1.stream ∙ ap (λ q. gap_of g q out) same

-- the task of a port
pub port_task : (g : GraphTree) (port : ℕ) (q : PortTree) → numbered g.ports port ≡ Some q
    → (1 ≤ port) × (port ≤ length (tasks_of g)) × (numbers.task_of (tasks_of g) port ≡ task_of g q)
port_task g zero q there = absurd (none-some q there)
port_task g (suc k) q there =
    let within = slice_get_within g.ports k q there in
    let long = length-map g.ports (task_of g) in
    let at : slice_get (tasks_of g) k ≡ Some (task_of g q) = slice_get-map (task_of g) g.ports k ∙ ap (λ o. option_map (task_of g) o) there in
    (omega arith, omega arith, task_of-suc (tasks_of g) k ∙ get_or_from_slice_get (tasks_of g) k (task_of g q) no_task at)

pub period_some : (g : GraphTree) (port : ℕ) (q : PortTree) → All (IsWithinRates g) g.ports → numbered g.ports port ≡ Some q → 1 ≤ period_of g q
period_some g zero q rates there = absurd (none-some q there)
period_some g (suc k) q rates there =
    subst (λ (p : PortTree). 1 ≤ period_of g p) (get_or_from_slice_get g.ports k q q there) (rates k q (slice_get_within g.ports k q there)).some_period

-- the state after a port's job has handled a message
abbrev pub after : GraphTree → PortTree → Job → PortMessage → Serial → Serial
after g q job m s =
    let h = handling g q m.values s.vars in
    let passes = passed g q job.number m.time h.sends in
    record {
      vars = h.vars;
      messages = placed (brought job.task passes) g.ports s.messages;
      handled = s.handled ++ (record { item = record { job = job; arrival = m.time; cost = h.ticks }; writes = h.writes }) ∷ [];
      lines = s.lines ++ all_shown job.task passes 1 g.outputs;
    }

module _ (g : GraphTree) (well : IsWellFormed g) (rates : All (IsWithinRates g) g.ports) (s : Serial) (holds : Holds g s)
    (job : Job) (q : PortTree) (is_port : numbered g.ports job.task ≡ Some q)
    (m : PortMessage) (next : job.number ≡ suc (handled_of s job.task)) (at : numbered (messages_at s job.task) job.number ≡ Some m) where
  abbrev h : Handling
  h = handling g q m.values s.vars

  abbrev item : PlanItem
  item = record { job = job; arrival = m.time; cost = h.ticks }

  abbrev s' : Serial
  s' = after g q job m s

  abbrev new_at : Feed → List PortMessage
  new_at f = brought job.task (passed g q job.number m.time h.sends) f

  pub items_after : items_of s' ≡ items_of s ++ item ∷ []
  items_after = map_push (λ (h : Handled). h.item) s.handled (record { item = item; writes = h.writes })

  pub handled_same : handled_of s' job.task ≡ suc (handled_of s job.task)
  handled_same = ap (jobs_of job.task) items_after ∙ jobs_push_same job.task (items_of s) item refl

  pub handled_grows : (port : ℕ) → handled_of s port ≤ handled_of s' port
  handled_grows port =
      let e = ap (jobs_of port) items_after in
      ⊎_elim
      (λ (same : job.task ≡ port). let a = jobs_push_same port (items_of s) item same in omega arith)
      (λ (other : job.task ≡ port → ⊥). let a = jobs_push_other port (items_of s) item other in omega arith)
      (cases_eq job.task port)

  pub messages_after : (port : ℕ) (p : PortTree) → numbered g.ports port ≡ Some p → messages_at s' port ≡ messages_at s port ++ new_at p.feed
  messages_after zero p there = absurd (none-some p there)
  messages_after (suc k) p there = placed_at new_at g.ports s.messages k p holds.long there

  pub message_stays : (port n : ℕ) (x : PortMessage) → numbered (messages_at s port) n ≡ Some x → numbered (messages_at s' port) n ≡ Some x
  message_stays port n x here =
      let p = port_there g.ports s.messages port n x holds.long here in
      subst (λ (ms : List PortMessage). numbered ms n ≡ Some x) (sym (messages_after port p.0 p.1)) (numbered_left (messages_at s port) (new_at p.0.feed) n x here)

  -- the gaps of all sends of a job fit into the periods until the next job that passes
  pub gaps_fit : (out : ℕ) → greatest_sends q out * gap_of g q out ≤ every_of q out * period_of g q
  gaps_fit out = let e = mod-add-div (every_of q out * period_of g q) (greatest_sends q out) in omega arith

  pub new_within : (out i : ℕ) (x : PortMessage) → slice_get (spaced out (m.time + period_of g q) (gap_of g q out) h.sends) i ≡ Some x
      → (m.time + period_of g q ≤ x.time) × (x.time + gap_of g q out ≤ m.time + period_of g q + every_of q out * period_of g q)
  new_within out i x there =
      let c = spaced_within out (m.time + period_of g q) (gap_of g q out) h.sends i x there in
      let a = c.starts in
      let b = c.ends in
      let most : sent_on out h.sends * gap_of g q out ≤ greatest_sends q out * gap_of g q out =
      mul-le (sent_on out h.sends) (gap_of g q out) (greatest_sends q out) (gap_of g q out) (sends_within g q out m.values s.vars) (omega arith) in
      let fit = gaps_fit out in
      (a, omega arith)

  -- what an earlier job passed on ends before this job's first message comes
  pub old_ends : (out : ℕ) (x : PortMessage) → job.number % every_of q out ≡ 0 → ComesOf g s q job.task out x → x.time + gap_of g q out ≤ m.time + period_of g q
  old_ends out x multiple of =
      let le = of.handled in
      let apart = next_multiple (every_of q out) of.number job.number of.multiple multiple (omega arith) in
      let behind = numbered_far (period_of g q) (messages_at s job.task) (holds.spread job.task q is_port) of.number job.number of.message m of.there at (omega arith) in
      let periods : every_of q out * period_of g q ≤ (job.number - of.number) * period_of g q =
      mul-le (every_of q out) (period_of g q) (job.number - of.number) (period_of g q) (omega arith) (omega arith) in
      let ends = of.ends in
      omega arith

  spread_after : (port : ℕ) (p : PortTree) → numbered g.ports port ≡ Some p → IsSpread (period_of g p) (messages_at s' port)
  spread_after port p there =
      let old = holds.spread port p there in
      let whole : IsSpread (period_of g p) (messages_at s port ++ new_at p.feed) =
      ⊎_elim
      (λ (e : new_at p.feed ≡ []). subst (λ (ms : List PortMessage). IsSpread (period_of g p) (messages_at s port ++ ms)) (sym e)
      (subst (IsSpread (period_of g p)) (sym (append-nil (messages_at s port))) old))
      (λ (b : BringsOf g q job.task job.number m.time h.sends p.feed (new_at p.feed)).
      let per = fed_period g well port p job.task b.out q there b.fed is_port in
      let new : IsSpread (period_of g p) (spaced b.out (m.time + period_of g q) (gap_of g q b.out) h.sends) =
      subst (λ (n : ℕ). IsSpread n (spaced b.out (m.time + period_of g q) (gap_of g q b.out) h.sends)) (sym per) (spaced_spread b.out (m.time + period_of g q) (gap_of g q b.out) h.sends) in
      subst (λ (ms : List PortMessage). IsSpread (period_of g p) (messages_at s port ++ ms)) (sym b.spaced)
      (spread_behind (period_of g p) (messages_at s port) (spaced b.out (m.time + period_of g q) (gap_of g q b.out) h.sends) old new
      (λ i j x y first last.
      let before = old_ends b.out x b.multiple (holds.comes port p job.task b.out q there b.fed is_port i x first) in
      let behind = (new_within b.out j y last).0 in
      omega arith)))
      (brings g q job.task job.number m.time h.sends p.feed) in
      subst (IsSpread (period_of g p)) (sym (messages_after port p there)) whole

  comes_after : (port : ℕ) (p : PortTree) (from out : ℕ) (r : PortTree) → numbered g.ports port ≡ Some p → p.feed ≡ Out from out → numbered g.ports from ≡ Some r
      → (i : ℕ) (x : PortMessage) → slice_get (messages_at s' port) i ≡ Some x → ComesOf g s' r from out x
  comes_after port p from out r there fed source_there i x is =
      ⊎_elim
      (λ (old : slice_get (messages_at s port) i ≡ Some x).
      let of = holds.comes port p from out r there fed source_there i x old in
      let le = of.handled in
      let more = handled_grows from in
      record {
        number = of.number;
        message = of.message;
        handled = omega arith;
        there = message_stays from of.number of.message of.there;
        multiple = of.multiple;
        ends = of.ends;
      })
      (λ (k : (k : ℕ) × (i ≡ length (messages_at s port) + k) × (slice_get (new_at p.feed) k ≡ Some x)). ⊎_elim
      (λ (e : new_at p.feed ≡ []). absurd (none-some x (ap (λ (ms : List PortMessage). slice_get ms k.0) (sym e) ∙ k.2)))
      (λ (b : BringsOf g q job.task job.number m.time h.sends p.feed (new_at p.feed)). of_job b (sym b.fed ∙ fed) k.0 (ap (λ (ms : List PortMessage). slice_get ms k.0) (sym b.spaced) ∙ k.2))
      (brings g q job.task job.number m.time h.sends p.feed))
      (get_cases (messages_at s port) (new_at p.feed) i x (ap (λ (ms : List PortMessage). slice_get ms i) (sym (messages_after port p there)) ∙ is))
    where
      of_job : (b : BringsOf g q job.task job.number m.time h.sends p.feed (new_at p.feed)) → Out job.task b.out ≡ Out from out → (k : ℕ)
          → slice_get (spaced b.out (m.time + period_of g q) (gap_of g q b.out) h.sends) k ≡ Some x → ComesOf g s' r from out x
      of_job b same k is =
          let task : job.task ≡ from = cc in
          let outs : b.out ≡ out = cc in
          let ports : q ≡ r = same_Some q r (sym is_port ∙ ap (numbered g.ports) task ∙ source_there) in
          let le = handled_same in
          let here : ComesOf g s' q job.task b.out x = record {
            number = job.number;
            message = m;
            handled = omega arith;
            there = message_stays job.task job.number m at;
            multiple = b.multiple;
            ends = (new_within b.out k x is).1;
          } in
          subst (λ (r : PortTree). ComesOf g s' r from out x) ports
          (subst (λ (t : ℕ). ComesOf g s' q t out x) task (subst (λ (o : ℕ). ComesOf g s' q job.task o x) outs here))

  items_hold : (z : PlanItem) → Has (items_of s') z → IsOfMessage s' z
  items_hold z has =
      ⊎_elim
      (λ (old : Has (items_of s) z).
      let of = holds.items z old in
      let le = of.handled in
      let more = handled_grows z.job.task in
      record { message = of.message; handled = omega arith; there = message_stays z.job.task z.job.number of.message of.there; arrival = of.arrival })
      (λ (e : z ≡ item).
      let le = handled_same in
      let here : IsOfMessage s' item = record { message = m; handled = omega arith; there = message_stays job.task job.number m at; arrival = refl } in
      subst (IsOfMessage s') (sym e) here)
      (has_push (items_of s) item z (subst (λ (is : List PlanItem). Has is z) items_after has))

  orderly_after : AreOrderly none (tasks_of g) (items_of s')
  orderly_after =
      let task = port_task g job.task q is_port in
      let cost : (its_task (tasks_of g) item).cost ≡ greatest_cost q = ap (λ t. t.cost) task.2 in
      let period : (its_task (tasks_of g) item).period ≡ period_of g q = ap (λ t. t.period) task.2 in
      let ticks = ticks_within g q m.values s.vars in
      let some = period_some g job.task q rates is_port in
      subst (AreOrderly none (tasks_of g)) (sym items_after)
      (orderly_push none (tasks_of g) (items_of s) item
      (record { from_one = task.0; in_set = task.1; some = omega arith; most = omega arith })
      (omega arith) (omega arith)
      (λ z is same.
      let of = holds.items z is in
      let le = of.handled in
      let count : handled_of s z.job.task ≡ handled_of s job.task = ap (handled_of s) same in
      let there : numbered (messages_at s job.task) z.job.number ≡ Some of.message = ap (λ (t : ℕ). numbered (messages_at s t) z.job.number) (sym same) ∙ of.there in
      let apart = numbered_apart (period_of g q) (messages_at s job.task) (holds.spread job.task q is_port) z.job.number job.number of.message m there at (omega arith) in
      let arrival = of.arrival in
      omega arith)
      holds.orderly)

  pub holds_after : Holds g s'
  holds_after = record {
    long = placed-length new_at g.ports s.messages holds.long;
    spread = spread_after;
    comes = comes_after;
    items = items_hold;
    orderly = orderly_after;
  }
