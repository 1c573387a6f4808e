-- A run as far as it has come is the start of each promised run.
use Rattle.std.proofs.Common.{◌≡◌, ℕ, zero, suc, ◌+◌, ◌-◌, ◌<◌, ◌≤◌, eqb, List, [], ◌∷◌, ◌++◌, length, drop, replicate, slice_get, Option, None, Some, refl, sym, ap, ap₂, subst, ◌∙◌, ⊎_elim, arith, eq-eqb}
use Rattle.std.specs.Option.{unwrap_or}
use Rattle.std.proofs.lemmas.List.{get_or-drop, length-append}
use Rattle.std.proofs.lemmas.Bool.{cases_lt, cond-true}
use Rattle.std.proofs.lemmas.Option.{none-some, same_Some}
use Rattle.yt_graph.specs.declared.port.Feed.{Feed}
use Rattle.yt_graph.specs.declared.port.Feed.TheVariants.{Input, Out}
use Rattle.yt_graph.specs.Picture.{GraphTree, PortTree}
use Rattle.yt_log.specs.declared.job.Job.{Job}
use Rattle.yt_log.specs.declared.plan.PlanItem.{PlanItem}
use Rattle.yt_graph.specs.declared.handled.Write.{Write}
use Rattle.yt_log.specs.Tasks.{Has}
use Rattle.yt_log.specs.Ticks.{Ticks, tick, done}
use Rattle.yt_log.proofs.Lemmas.{done_grows}
use Rattle.yt_serial.specs.declared.shown.OutLine.{OutLine}
use Rattle.yt_trace.specs.declared.message.Message.{Message}
use Rattle.yt_serial.specs.Premises.{IsSchedulable}
use Rattle.yt_serial.specs.PortMessages.{PortMessage}
use Rattle.yt_list.specs.Numbered.{numbered}
use Rattle.yt_serial.specs.Beginnings.{order_of}
use Rattle.yt_serial.specs.SerialHandling.{Serial, messages_at, items_of, brought, start, serial_run, plan_of_log, handled_along}
use Rattle.yt_serial.specs.Told.{IsPromisedRun}
use Rattle.yt_serial.specs.Variables.{after_writes, variables_at, writes_below}
use Rattle.yt_log.proofs.Lemmas.{Agree, done_same}
use Rattle.yt_serial.proofs.Lemmas.{IsRuleRun, agree_to, feed_cases, get_cases, placed_at, port_there, promised_is, at_tick, begun_same, in_plan, no_more, serial_holds, variables_stay, writes_below_same, writes_idle}
use Rattle.yt_interleave.specs.Interleaved as own
use Rattle.yt_interleave.specs.Interleaved.{ActiveJob, passes_of}
use Rattle.yt_interleave.specs.Runs.{IsRunning, AgreesWith, RunsAgree}
use Rattle.yt_interleave.proofs.Over.{variables_are_written}
use Rattle.yt_interleave.proofs.Whole as whole
use Rattle.yt_interleave.proofs.Timing as timing
use Rattle.yt_interleave.proofs.Timing.{passes_late}

-- a log that has another's ticks goes on from it
prefix_is : (xs ys : Ticks) → length xs ≤ length ys → Agree xs ys (length xs) → ys ≡ xs ++ drop (length xs) ys
unfolding tick
prefix_is [] ys le agree = refl
prefix_is (x ∷ xs) [] le agree = absurd (omega arith)
prefix_is (x ∷ xs) (y ∷ ys) le agree =
    ap (λ (o : Option Job). o ∷ ys) (sym (agree 0 (omega arith)))
    ∙ ap (λ (os : Ticks). x ∷ os) (prefix_is xs ys (omega arith) (λ u lt. agree (suc u) (omega arith)))

-- a log with another's ticks and idle ones behind them
idle_tail : (xs ys : Ticks) → length xs ≤ length ys → Agree xs ys (length xs) → ((u : ℕ) → length xs ≤ u → tick ys u ≡ None) → ys ≡ xs ++ replicate (length ys - length xs) None
unfolding tick
idle_tail xs ys le agree idle =
    let e = prefix_is xs ys le agree in
    let rest = drop (length xs) ys in
    let long : length ys ≡ length xs + length rest = ap length e ∙ length-append xs rest in
    let all : rest ≡ replicate (length rest) None = all_idle rest (λ k. get_or-drop (length xs) ys k None ∙ idle (length xs + k) (omega arith)) in
    e ∙ ap (λ (os : Ticks). xs ++ os) (all ∙ ap (λ (n : ℕ). replicate n None) (omega arith))
  where
    all_idle : (os : Ticks) → ((k : ℕ) → tick os k ≡ None) → os ≡ replicate (length os) None
    all_idle [] idle = refl
    all_idle (o ∷ os) idle = ap₂ (λ (x : Option Job) (xs : Ticks). x ∷ xs) (idle 0) (all_idle os (λ k. idle (suc k)))

module _ (g : GraphTree) (trace : List Message) (able : IsSchedulable g trace) (s : Serial) (r : own.RunState) (due : ℕ) (plan : List PlanItem) (shown : List OutLine)
    (is : IsRunning g trace s r due plan shown) (low : length r.log ≤ due) where
  -- a message that comes before now is a known one
  known_now : (port n : ℕ) (m : PortMessage) → numbered (messages_at s port) n ≡ Some m → m.time < length r.log → numbered (own.known_at r port) n ≡ Some m
  known_now port zero m there lt = absurd (none-some m there)
  known_now port (suc i) m there lt =
      let holds = timing.serial g trace able.can s r is.interleaves in
      let p = port_there g.ports s.messages port (suc i) m holds.long there in
      at port p.0 p.1 there
    where
      at : (port : ℕ) (p : PortTree) → numbered g.ports port ≡ Some p → slice_get (messages_at s port) i ≡ Some m → slice_get (own.known_at r port) i ≡ Some m
      at zero p is_port there = absurd (none-some p is_port)
      at (suc k) p is_port there =
          let st = is.interleaves.stands in
          let here : messages_at s (suc k) ≡ own.known_at r (suc k) ++ own.to_come g r.active p.feed =
          ap (λ (ms : List (List PortMessage)). unwrap_or (numbered ms (suc k)) []) st.messages ∙ placed_at (own.to_come g r.active) g.ports r.messages k p st.long is_port in
          ⊎_elim
          (λ (old : slice_get (own.known_at r (suc k)) i ≡ Some m). old)
          (λ (new : (j : ℕ) × (i ≡ length (own.known_at r (suc k)) + j) × (slice_get (own.to_come g r.active p.feed) j ≡ Some m)).
          absurd (not_on_way p.feed new.0 new.2))
          (get_cases (own.known_at r (suc k)) (own.to_come g r.active p.feed) i m (ap (λ (ms : List PortMessage). slice_get ms i) (sym here) ∙ there))
        where
          by_port : (source out : ℕ) (o : Option ActiveJob) → r.active source ≡ o → (j : ℕ) → slice_get (own.passed_by g o out) j ≡ Some m → ⊥
          by_port source out None at_source j got = none-some m got
          by_port source out (Some b) at_source j got =
              let timely = whole.on_time g trace able s r due plan shown is low in
              let before = whole.active_before g trace able s r is.interleaves timely source b at_source in
              let task = (is.interleaves.stands.under_way source b at_source).task in
              let same : brought b.job.task (passes_of g b) (Out b.job.task out) ≡ passes_of g b out = cond-true (eqb b.job.task b.job.task) (passes_of g b out) [] (eq-eqb b.job.task b.job.task refl) in
              let late = passes_late g b (Out b.job.task out) j m (ap (λ (ms : List PortMessage). slice_get ms j) same ∙ got) in
              absurd (omega arith)

          not_on_way : (f : Feed) (j : ℕ) → slice_get (own.to_come g r.active f) j ≡ Some m → ⊥
          not_on_way f j got =
              ⊎_elim
              (λ (i : (input : ℕ) × (f ≡ Input input)). none-some m (ap (λ (x : Feed). slice_get (own.to_come g r.active x) j) (sym i.1) ∙ got))
              (λ (o : (source out : ℕ) × (f ≡ Out source out)). by_port o.0 o.1 (r.active o.0) refl j (ap (λ (x : Feed). slice_get (own.to_come g r.active x) j) (sym o.2) ∙ got))
              (feed_cases f)

  running_is : IsRuleRun g trace able.can r.log s plan
  running_is = record {
    along = is.interleaves.stands.along;
    legal = is.by.legal;
    rule = is.by.rule;
    deadlines = able.keeps plan is.by.legal r.log is.by.rule;
    begun = is.goes.begun;
    known = λ z has. let k = is.goes.known z has in (k.0, timing.known_first g trace able.can s r is.interleaves z.job.task z.job.number k.0 k.1, k.2);
    all = λ port n m there lt. is.goes.all port n m (known_now port n m there lt) (omega arith);
  }

  -- where the promised run is no shorter, the log goes on in it
  longer : (log : Ticks) (lines : List OutLine) → IsPromisedRun g trace log lines → length r.log ≤ length log → (rest : Ticks) × (log ≡ r.log ++ rest)
  longer log lines p le =
      let agree = agree_to g trace able.can r.log log s p.tells.serial plan (plan_of_log g trace log) running_is (promised_is g trace able.can log lines p) (length r.log) (omega arith) le in
      (drop (length r.log) log, prefix_is r.log log le agree)

  -- where it is shorter, no job had a tick after its end
  module _ (log : Ticks) (lines : List OutLine) (p : IsPromisedRun g trace log lines) (lt : length log ≤ length r.log) where
    agree : Agree r.log log (length log)
    agree = agree_to g trace able.can r.log log s p.tells.serial plan (plan_of_log g trace log) running_is (promised_is g trace able.can log lines p) (length log) (omega arith) (omega arith)

    same_serial : p.tells.serial ≡ s
    same_serial =
        let x = at_tick g trace able.can r.log s is.interleaves.stands.along (length log) (omega arith) in
        let now : x.now ≡ p.tells.serial =
        same_Some x.now p.tells.serial (sym x.along ∙ ap (λ (o : List Job). serial_run g o (start g trace)) (begun_same r.log log (length log) agree) ∙ p.tells.along) in
        let holds = serial_holds g able.can.well_formed able.can.rates trace able.can.keeps (order_of log) p.tells.serial p.tells.along in
        no_more g trace able.can p.tells.serial holds p.tells.all x.later s (subst (λ (u : Serial). serial_run g x.later u ≡ Some s) now x.rest)

    idle_after : (u : ℕ) → length log ≤ u → tick r.log u ≡ None
    idle_after u past = by (tick r.log u) refl
      where
        by : (o : Option Job) → tick r.log u ≡ o → tick r.log u ≡ None
        by None e = e
        by (Some j) e =
            let l = is.interleaves.stands.lawful u j e in
            let z = l.0 in
            let inside : Has (items_of p.tells.serial) z = subst (λ (t : Serial). Has (items_of t) z) (sym same_serial) l.1 in
            let fin = p.tells.finished z (in_plan g trace able.can log p.tells.serial p.tells.along z inside) in
            let d = done_same r.log log z.job (length log) agree in
            let grows = done_grows r.log z.job (length log) u past in
            let same : done r.log z.job u ≡ done r.log j u = ap (λ (k : Job). done r.log k u) l.2 in
            let un = l.3.unfinished in
            absurd (omega arith)

    same_writes : writes_below s.handled r.log (length r.log) ≡ writes_below s.handled log (length log)
    same_writes =
        let e : length r.log ≡ length log + (length r.log - length log) = omega arith in
        ap (writes_below s.handled r.log) e
        ∙ writes_idle s.handled r.log (length log) (length r.log - length log) idle_after
        ∙ writes_below_same s.handled r.log log (length log) agree

    past_end : (w : Serial) → handled_along g trace log ≡ Some w → variables_at (start g trace).vars w.handled log (length r.log) ≡ r.vars
    past_end w along =
        let same : w ≡ s = same_Some w p.tells.serial (sym along ∙ p.tells.along) ∙ same_serial in
        variables_stay (start g trace).vars w.handled log (length r.log) (omega arith)
        ∙ ap (λ (t : Serial). variables_at (start g trace).vars t.handled log (length log)) same
        ∙ ap (λ (ws : List Write). after_writes ws (start g trace).vars) (sym same_writes)
        ∙ sym is.interleaves.stands.written

  -- so it goes on with idle ticks alone
  idles_on : (log : Ticks) (lines : List OutLine) → IsPromisedRun g trace log lines → length log ≤ length r.log → r.log ≡ log ++ replicate (length r.log - length log) None
  idles_on log lines p le =
      let here = agree log lines p le in
      let idle = idle_after log lines p le in
      idle_tail log r.log le (λ u lt. sym (here u lt)) idle

  agrees_with : (log : Ticks) (lines : List OutLine) → IsPromisedRun g trace log lines → AgreesWith g trace r log
  agrees_with log lines p = record {
    goes_on = longer log lines p;
    idles_on = idles_on log lines p;
    variables = λ w along. ⊎_elim
        (λ (lt : length log < length r.log). past_end log lines p (omega arith) w along)
        (λ (ge : length r.log ≤ length log).
        let more = longer log lines p ge in
        subst (λ (l : Ticks). variables_at (start g trace).vars w.handled l (length r.log) ≡ r.vars) (sym more.1)
        (variables_are_written g trace able.can s r is.interleaves more.0 w (ap (λ (l : Ticks). handled_along g trace l) (sym more.1) ∙ along)))
        (cases_lt (length log) (length r.log));
  }

pub runs_agree : RunsAgree
runs_agree g trace able s r due plan shown is low log lines p = agrees_with g trace able s r due plan shown is low log lines p
