-- When all is over the log tells the run of serial handling; and at each moment the variables are what the ticks so far have written.
use Rattle.std.proofs.Common.{◌≡◌, ℕ, suc, ◌+◌, ◌<◌, ◌≤◌, List, [], ◌∷◌, ◌++◌, length, Option, Some, refl, sym, ap, subst, ◌∙◌, inl, inr, ⊎_elim, arith}
use Rattle.std.specs.Prelude.{ℤ}
use Rattle.std.specs.Option.{option_map_or, unwrap_or}
use Rattle.std.proofs.lemmas.List.{length-append}
use Rattle.std.proofs.lemmas.Option.{none-some, same_Some, option_and_then_some}
use Rattle.yt_graph.specs.declared.handled.Write.{Write}
use Rattle.yt_graph.specs.Meaning.{handling}
use Rattle.yt_graph.specs.Picture.{GraphTree}
use Rattle.yt_log.specs.declared.job.Job.{Job}
use Rattle.yt_log.specs.declared.plan.PlanItem.{PlanItem}
use Rattle.yt_log.specs.Patterns.{item_before}
use Rattle.yt_log.specs.Tasks.{Has}
use Rattle.yt_log.specs.Ticks.{Ticks, done, first_tick}
use Rattle.yt_log.proofs.Lemmas.{has_sorted, sorted_has}
use Rattle.yt_log.proofs.Lemmas.{good_item}
use Rattle.yt_log.proofs.Lemmas.{first_is, first_stays}
use Rattle.yt_trace.specs.declared.message.Message.{Message}
use Rattle.yt_serial.specs.Beginnings.{begun_below, order_of, nth_job}
use Rattle.yt_serial.specs.PortMessages.{PortMessage}
use Rattle.yt_list.specs.Numbered.{numbered}
use Rattle.yt_serial.specs.SerialHandling.{Handled, Serial, messages_at, items_of, start, port_of, serial_step, serial_run, plan_of, plan_of_log}
use Rattle.yt_serial.specs.Told.{AllHandled, BeginsInOrder}
use Rattle.yt_serial.proofs.Lemmas.{begun_below-append, plans_are_legal, port_there, numbered_apart, stepped, writes_below_more, writes_below_prefix, goes_on, run_rest, numbered_within}
use Rattle.yt_rates.specs.Rates.{period_of}
use Rattle.yt_rates.specs.Tables.{tasks_of}
use Rattle.yt_serial.specs.Variables.{after_writes, writes_below}
use Rattle.yt_interleave.specs.Interleaved.{ActiveJob, RunState, value_at, to_come, item_of, IsInUse, MatchesSerial}
use Rattle.yt_serial.specs.Premises.{CanRun}
use Rattle.yt_interleave.specs.Laws.{HasHandledAll, EndsAreSerial, VariablesAreWritten}
use Rattle.yt_interleave.specs.Moves.{Interleaves, AllKnownHandled}
use Rattle.yt_interleave.proofs.Begin.{serial}
use Rattle.yt_interleave.proofs.Pieces.{placed_none, to_come_none}

-- lists of one length with the same values
pub same_values : (vs us : List ℤ) → length vs ≡ length us → ((v : ℕ) → value_at vs v ≡ value_at us v) → vs ≡ us
same_values [] [] long same = refl
same_values [] (u ∷ us) long same = absurd (omega arith)
same_values (v ∷ vs) [] long same = absurd (omega arith)
same_values (v ∷ vs) (u ∷ us) long same =
    ap (λ (x : ℤ). x ∷ vs) (same 0) ∙ ap (λ (xs : List ℤ). u ∷ xs) (same_values vs us (omega arith) (λ n. same (suc n)))

module _ (g : GraphTree) (trace : List Message) (can : CanRun g trace) (s : Serial) (r : RunState) (is : Interleaves g trace s r) where
  abbrev stands : MatchesSerial g trace (order_of r.log) s r
  stands = is.stands

  plan_is : plan_of_log g trace r.log ≡ plan_of s
  plan_is = ap (λ (o : Option Serial). option_map_or plan_of o []) stands.along

  in_plan : (z : PlanItem) → Has (plan_of_log g trace r.log) z → Has (items_of s) z
  in_plan z has = has_sorted item_before (items_of s) z (subst (λ (is : List PlanItem). Has is z) plan_is has)

  plan_has : (z : PlanItem) → Has (items_of s) z → Has (plan_of_log g trace r.log) z
  plan_has z has = subst (λ (is : List PlanItem). Has is z) (sym plan_is) (sorted_has item_before (items_of s) z has)

  module _ (over : AllKnownHandled g s r) where
    not_active : (z : PlanItem) → (b : ActiveJob) × (r.active z.job.task ≡ Some b) × (z ≡ item_of g b) → ⊥
    not_active z (b, at, e) = none-some b (sym (over.none z.job.task) ∙ at)

    finished : (z : PlanItem) → Has (items_of s) z → done r.log z.job (length r.log) ≡ z.cost
    finished z has =
        ⊎_elim
        (λ (a : (b : ActiveJob) × (r.active z.job.task ≡ Some b) × (z ≡ item_of g b)). absurd (not_active z a))
        (λ (e : done r.log z.job (length r.log) ≡ z.cost). e)
        (stands.ended z has)

    messages_same : s.messages ≡ r.messages
    messages_same = stands.messages ∙ placed_none (to_come g r.active) (to_come_none g r.active over.none) g.ports r.messages stands.long

    all_handled : AllHandled g s
    all_handled port some most = over.all port some most ∙ ap (λ (ms : List (List PortMessage)). length (unwrap_or (numbered ms port) [])) (sym messages_same)

    -- a later job of a port begins after an earlier one
    in_turn : (x y : PlanItem) → Has (items_of s) x → Has (items_of s) y → 1 ≤ x.job.number → 0 < y.cost → x.job.task ≡ y.job.task → x.job.number < y.job.number
        → first_tick r.log x.job (length r.log) < first_tick r.log y.job (length r.log)
    in_turn x y has_x has_y some cost task lt =
        let fin = finished y has_y in
        let first = first_is r.log y.job (length r.log) (omega arith) in
        let t = first_tick r.log y.job (length r.log) in
        let turn : 0 < done r.log (nth_job y.job.task x.job.number) t = stands.in_turn t y.job first.names x.job.number some lt in
        let same : nth_job y.job.task x.job.number ≡ x.job = ap (λ (n : ℕ). nth_job n x.job.number) (sym task) in
        let begun : 0 < done r.log x.job t = subst (λ (j : Job). 0 < done r.log j t) same turn in
        let early = first_is r.log x.job t begun in
        let below = first.below in
        let stays = first_stays r.log x.job t (length r.log) begun (omega arith) in
        let b = early.below in
        omega arith

    cost_some : (z : PlanItem) → Has (items_of s) z → 1 ≤ z.cost
    cost_some z has =
        let legal = plans_are_legal g trace (order_of r.log) s (record { can = can; along = stands.along }) in
        (good_item (tasks_of g) (plan_of s) legal z (sorted_has item_before (items_of s) z has)).some

    arrive_in_turn : (x y : PlanItem) → Has (items_of s) x → Has (items_of s) y → x.job.task ≡ y.job.task → x.job.number < y.job.number → x.arrival ≤ y.arrival
    arrive_in_turn x y has_x has_y task lt =
        let holds = serial g can.well_formed can.rates trace can.keeps (order_of r.log) s r stands in
        let a = holds.items x has_x in
        let b = holds.items y has_y in
        let p = port_there g.ports s.messages y.job.task y.job.number b.message holds.long b.there in
        let there : numbered (messages_at s y.job.task) x.job.number ≡ Some a.message = ap (λ (t : ℕ). numbered (messages_at s t) x.job.number) (sym task) ∙ a.there in
        let apart = numbered_apart (period_of g p.0) (messages_at s y.job.task) (holds.spread y.job.task p.0 p.1) x.job.number y.job.number a.message b.message there b.there lt in
        let e = a.arrival in
        let f = b.arrival in
        omega arith

    in_order : BeginsInOrder (plan_of_log g trace r.log) r.log
    in_order x y has_x has_y task lt =
        let hx = in_plan x has_x in
        let hy = in_plan y has_y in
        let holds = serial g can.well_formed can.rates trace can.keeps (order_of r.log) s r stands in
        let a = holds.items x hx in
        (arrive_in_turn x y hx hy task lt, in_turn x y hx hy (numbered_within (messages_at s x.job.task) x.job.number a.message a.there).0 (cost_some y hy) task lt)

    same_at : (v : ℕ) → value_at r.vars v ≡ value_at s.vars v
    same_at v =
        ⊎_elim
        (λ (e : value_at r.vars v ≡ value_at s.vars v). e)
        (λ (k : IsInUse g r.active v). absurd (not_used k))
        (stands.others v)
      where
        not_used : IsInUse g r.active v → ⊥
        not_used (p, b, at, uses) = none-some b (sym (over.none p) ∙ at)

    pub told : HasHandledAll g trace s r
    told = record {
      along = stands.along;
      all = all_handled;
      lawful = λ t j at. let l = stands.lawful t j at in (l.0, plan_has l.0 l.1, l.2, l.3);
      finished = λ z has. finished z (in_plan z has);
      in_order = in_order;
      vars = same_values r.vars s.vars stands.count same_at;
    }

pub ends_are_serial : EndsAreSerial
ends_are_serial g trace can s r is over = told g trace can s r is over

-- the writes below a tick are those of the jobs that have begun there
writes_stay : (g : GraphTree) (log : Ticks) (n : ℕ) (xs : List Job) (s t : Serial) → serial_run g xs s ≡ Some t → ((j : Job) → Has xs j → done log j n ≡ 0)
    → writes_below t.handled log n ≡ writes_below s.handled log n
writes_stay g log n [] s t h none = ap (λ (x : Serial). writes_below x.handled log n) (sym (same_Some s t h))
writes_stay g log n (j ∷ xs) s t h none =
    option_and_then_some {P = writes_below t.handled log n ≡ writes_below s.handled log n} (serial_run g xs) (serial_step g j s) t h
    (λ x step rest.
    let m = stepped g j s x step in
    let new : Handled = record { item = record { job = j; arrival = m.0.time; cost = (handling g (port_of g j) m.0.values s.vars).ticks }; writes = (handling g (port_of g j) m.0.values s.vars).writes } in
    writes_stay g log n xs x t rest (λ k has. none k (inr has))
    ∙ ap (λ (y : Serial). writes_below y.handled log n) (sym m.2)
    ∙ writes_below_more s.handled new log n (none j (inl refl)))

pub variables_are_written : VariablesAreWritten
variables_are_written g trace can s r is more whole along =
    let log = r.log ++ more in
    let n = length r.log in
    let long : length log ≡ n + length more = length-append r.log more in
    let go = goes_on log n (length more) in
    let order : order_of log ≡ order_of r.log ++ go.later = ap (begun_below log) long ∙ go.order ∙ ap (λ (xs : List Job). xs ++ go.later) (begun_below-append r.log more n (omega arith)) in
    let rest = run_rest g (order_of r.log) go.later (start g trace) s whole is.stands.along (ap (λ (o : List Job). serial_run g o (start g trace)) (sym order) ∙ along) in
    ap (λ (ws : List Write). after_writes ws (start g trace).vars)
    (writes_stay g log n go.later s whole rest go.none ∙ writes_below_prefix s.handled r.log more n (omega arith))
    ∙ sym is.stands.written
