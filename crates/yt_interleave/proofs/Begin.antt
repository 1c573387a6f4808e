-- A job begins: what the interleaved run stands for goes on by one step of serial handling.
use Rattle.std.proofs.Common.{◌≡◌, ℕ, zero, suc, ◌<◌, ◌≤◌, ◌⊎◌, List, [], ◌∷◌, ◌++◌, length, map, Option, Some, All, refl, sym, ap, subst, ◌∙◌, inl, inr, ⊎_elim, arith}
use Rattle.std.specs.Prelude.{ℤ}
use Rattle.std.specs.Option.{unwrap_or}
use Rattle.std.proofs.lemmas.Bool.{cases_eq, cases_lt}
use Rattle.std.proofs.lemmas.List.{map_push}
use Rattle.std.proofs.lemmas.Option.{none-some, same_Some}
use Rattle.yt_graph.specs.declared.handled.Write.{Write}
use Rattle.yt_graph.specs.Meaning.{Handling, handling}
use Rattle.yt_graph.specs.Picture.{GraphTree, PortTree}
use Rattle.yt_graph.specs.WellFormed.{IsWellFormed}
use Rattle.yt_log.specs.declared.job.Job.{Job}
use Rattle.yt_log.specs.declared.plan.PlanItem.{PlanItem}
use Rattle.yt_log.specs.Plan.{jobs_of}
use Rattle.yt_log.specs.Tasks.{Has}
use Rattle.yt_log.specs.Ticks.{done}
use Rattle.yt_log.proofs.Lemmas.{has_push, jobs_push_same, jobs_push_other}
use Rattle.yt_rates.specs.Faults.{IsWithinRates}
use Rattle.yt_cost.specs.CodeAlone.{written_before}
use Rattle.yt_trace.specs.declared.message.Message.{Message}
use Rattle.yt_serial.specs.PortMessages.{PortMessage}
use Rattle.yt_list.specs.Numbered.{numbered}
use Rattle.yt_serial.specs.SerialHandling.{Handled, Serial, messages_at, items_of, handled_of, brought, placed, start, handle_message, serial_step}
use Rattle.yt_trace.specs.Traces.{KeepsPeriods}
use Rattle.yt_serial.proofs.Lemmas.{Holds, placed_at, port_there, numbered_left, serial_holds, run_push, step_of, writes_of_push_other, writes_of_push_same, writes_below_more}
use Rattle.yt_interleave.specs.Interleaved.{ActiveJob, RunState, port_at, group_at, Uses, value_at, item_of, passes_of, known_at, put, to_come, with_begun, IsActiveJob, IsInUse, IsEndedOrActive, MatchesSerial}
use Rattle.yt_serial.specs.Beginnings.{nth_job}
use Rattle.yt_serial.specs.Variables.{after_writes}
use Rattle.yt_interleave.specs.Moves.{MayBegin}
use Rattle.yt_interleave.proofs.HandlerWrites.{IsWritten, handling_written, written_none, after_writes-length, kept_after, kept_or_written}
use Rattle.yt_interleave.proofs.Pieces.{put_same, put_other, put_cases, placed_twice, to_come_begun}
use Rattle.yt_log.proofs.Lemmas.{has_left, has_last}
use Rattle.yt_interleave.proofs.Sharing.{shared}

has_item : (hs : List Handled) (z : Handled) → Has hs z → Has (map (λ (h : Handled). h.item) hs) z.item
has_item [] z h = absurd h
has_item (x ∷ hs) z h =
    ⊎_elim (λ (e : z ≡ x). inl (ap (λ (y : Handled). y.item) e)) (λ (k : Has hs z). inr (has_item hs z k)) h

same_job_parts : (j : Job) (port k : ℕ) → j.task ≡ port → j.number ≡ k → j ≡ nth_job port k
same_job_parts j port k e f = ap (λ (n : ℕ). nth_job n j.number) e ∙ ap (nth_job port) f

module _ (g : GraphTree) (well : IsWellFormed g) (rates : All (IsWithinRates g) g.ports) (trace : List Message) (keeps : KeepsPeriods g trace)
    (order : List Job) (s : Serial) (r : RunState) (stands : MatchesSerial g trace order s r) where
  pub serial : Holds g s
  serial = serial_holds g well rates trace keeps order s stands.along

  -- the known messages of a port are the first that serial handling has there
  pub known_first : (port n : ℕ) (m : PortMessage) → numbered (known_at r port) n ≡ Some m → numbered (messages_at s port) n ≡ Some m
  known_first port n m there = let p = port_there g.ports r.messages port n m stands.long there in at_port port p.0 p.1 there
    where
      at_port : (port : ℕ) (p : PortTree) → numbered g.ports port ≡ Some p → numbered (known_at r port) n ≡ Some m → numbered (messages_at s port) n ≡ Some m
      at_port zero p is there = absurd (none-some p is)
      at_port (suc k) p is there =
          let here : messages_at s (suc k) ≡ known_at r (suc k) ++ to_come g r.active p.feed =
          ap (λ (ms : List (List PortMessage)). unwrap_or (numbered ms (suc k)) []) stands.messages ∙ placed_at (to_come g r.active) g.ports r.messages k p stands.long is in
          subst (λ (ms : List PortMessage). numbered ms n ≡ Some m) (sym here) (numbered_left (known_at r (suc k)) (to_come g r.active p.feed) n m there)

  -- no two jobs that are active use one variable
  pub not_both : (p q : ℕ) (b c : ActiveJob) → r.active p ≡ Some b → r.active q ≡ Some c → (p ≡ q → ⊥) → (v : ℕ) → Uses g p v → Uses g q v → ⊥
  not_both p q b c at_p at_q ne v h k = let both = shared g well p q v h k in stands.exclusive p q b c at_p at_q ne both.0 both.1

  module _ (job : Job) (m : PortMessage) (may : MayBegin g s r job m) where
    abbrev h : Handling
    h = handling g (port_at g job.task) m.values s.vars

    abbrev b : ActiveJob
    b = record { job = job; message = m; vars = s.vars }

    abbrev item : PlanItem
    item = record { job = job; arrival = m.time; cost = h.ticks }

    abbrev s' : Serial
    s' = handle_message g job m s

    abbrev r' : RunState
    r' = with_begun job m s.vars r

    abbrev new : Handled
    new = record { item = item; writes = h.writes }

    written : IsWritten g (port_at g job.task) s.vars h
    written = handling_written g (port_at g job.task) m.values s.vars

    at_serial : numbered (messages_at s job.task) job.number ≡ Some m
    at_serial = known_first job.task job.number m may.there

    pub step : serial_step g job s ≡ Some s'
    step = step_of g job s m may.number at_serial

    items_after : items_of s' ≡ items_of s ++ item ∷ []
    items_after = map_push (λ (h : Handled). h.item) s.handled new

    -- the job is new
    pub fresh : (z : PlanItem) → Has (items_of s) z → z.job ≡ job → ⊥
    fresh z has e =
        let of = (serial.items z has).handled in
        let count : handled_of s z.job.task ≡ handled_of s job.task = ap (λ (j : Job). handled_of s j.task) e in
        let same : z.job.number ≡ job.number = ap (λ (j : Job). j.number) e in
        let next = may.number in
        absurd (omega arith)

    pub not_done : done r.log job (length r.log) ≡ 0
    not_done =
        ⊎_elim
        (λ (lt : 0 < done r.log job (length r.log)). let z = stands.named job lt in absurd (fresh z.0 z.1 z.2))
        (λ (ge : done r.log job (length r.log) ≤ 0). omega arith)
        (cases_lt 0 (done r.log job (length r.log)))

    -- no active job uses a variable of this one
    none_uses : (v : ℕ) → Uses g job.task v → IsInUse g r.active v → ⊥
    none_uses v h (p, c, at_p, k) =
        let both = shared g well job.task p v h k in
        may.free p c at_p both.0 (sym both.1)

    pub same_here : (v : ℕ) → Uses g job.task v → value_at r.vars v ≡ value_at s.vars v
    same_here v h =
        ⊎_elim
        (λ (e : value_at r.vars v ≡ value_at s.vars v). e)
        (λ (k : IsInUse g r.active v). absurd (none_uses v h k))
        (stands.others v)

    handled_same : handled_of s' job.task ≡ suc (handled_of s job.task)
    handled_same = ap (jobs_of job.task) items_after ∙ jobs_push_same job.task (items_of s) item refl

    handled_other : (port : ℕ) → (job.task ≡ port → ⊥) → handled_of s' port ≡ handled_of s port
    handled_other port ne = ap (jobs_of port) items_after ∙ jobs_push_other port (items_of s) item ne

    message_stays : (port n : ℕ) (x : PortMessage) → numbered (messages_at s port) n ≡ Some x → numbered (messages_at s' port) n ≡ Some x
    message_stays port n x there = let p = port_there g.ports s.messages port n x serial.long there in at_port port p.0 p.1 there
      where
        at_port : (port : ℕ) (p : PortTree) → numbered g.ports port ≡ Some p → numbered (messages_at s port) n ≡ Some x → numbered (messages_at s' port) n ≡ Some x
        at_port zero p is there = absurd (none-some p is)
        at_port (suc k) p is there =
            let here : messages_at s' (suc k) ≡ messages_at s (suc k) ++ brought job.task (passes_of g b) p.feed = placed_at (brought job.task (passes_of g b)) g.ports s.messages k p serial.long is in
            subst (λ (ms : List PortMessage). numbered ms n ≡ Some x) (sym here) (numbered_left (messages_at s (suc k)) (brought job.task (passes_of g b) p.feed) n x there)

    has_before : (z : PlanItem) → Has (items_of s) z → Has (items_of s') z
    has_before z has = subst (λ (is : List PlanItem). Has is z) (sym items_after) (has_left (items_of s) (item ∷ []) z has)

    has_new : Has (items_of s') item
    has_new = subst (λ (is : List PlanItem). Has is item) (sym items_after) (has_last (items_of s) item)

    has_cases : (z : PlanItem) → Has (items_of s') z → Has (items_of s) z ⊎ (z ≡ item)
    has_cases z has = has_push (items_of s) item z (subst (λ (is : List PlanItem). Has is z) items_after has)

    fresh_handled : (z : Handled) → Has s.handled z → z.item.job ≡ job → ⊥
    fresh_handled z has e = fresh z.item (has_item s.handled z has) e

    under_way_new : IsActiveJob g s' r.log r.vars job.task b
    under_way_new = record {
      task = refl;
      number = may.number ∙ sym handled_same;
      there = message_stays job.task job.number m at_serial;
      arrived = may.arrived;
      item = has_new;
      writes = writes_of_push_same s.handled new fresh_handled;
      left = let z = not_done in omega arith;
      count = sym stands.count;
      now = λ v k.
          same_here v k
          ∙ ap (λ (xs : List ℤ). value_at xs v) (sym (ap (λ (n : ℕ). written_before n h.writes s.vars) not_done ∙ written_none 0 0 h.ticks h.writes s.vars (omega arith) written.within));
      later = λ v k. refl;
    }

    -- the variables of another active job stay in serial handling too
    kept_other : (port : ℕ) (c : ActiveJob) → r.active port ≡ Some c → (v : ℕ) → Uses g port v → value_at s'.vars v ≡ value_at s.vars v
    kept_other port c at_port v uses =
        ap (λ (xs : List ℤ). value_at xs v) written.vars_after
        ∙ kept_after h.writes s.vars v
        (λ w has e. none_uses v (subst (Uses g job.task) e (written.own w has)) (port, c, at_port, uses))

    under_way_other : (port : ℕ) (c : ActiveJob) → (port ≡ job.task → ⊥) → r.active port ≡ Some c → IsActiveJob g s' r.log r.vars port c
    under_way_other port c ne at_port =
        let u = stands.under_way port c at_port in
        record {
          task = u.task;
          number = u.number ∙ sym (handled_other port (λ e. ne (sym e)));
          there = message_stays port c.job.number c.message u.there;
          arrived = u.arrived;
          item = has_before (item_of g c) u.item;
          writes = writes_of_push_other s.handled new c.job (λ e. ne (sym u.task ∙ sym (ap (λ (j : Job). j.task) e))) ∙ u.writes;
          left = u.left;
          count = u.count;
          now = u.now;
          later = λ v k. kept_other port c at_port v k ∙ u.later v k;
        }

    abbrev active' : ℕ → Option ActiveJob
    active' = put job.task (Some b) r.active

    at_cases : (port : ℕ) (c : ActiveJob) → active' port ≡ Some c → ((port ≡ job.task) × (b ≡ c)) ⊎ ((port ≡ job.task → ⊥) × (r.active port ≡ Some c))
    at_cases port c h =
        ⊎_elim
        (λ (e : (port ≡ job.task) × (Some b ≡ Some c)). inl (e.0, same_Some b c e.1))
        (λ (e : (port ≡ job.task → ⊥) × (r.active port ≡ Some c)). inr e)
        (put_cases job.task (Some b) (Some c) r.active port h)

    under_way_after : (port : ℕ) (c : ActiveJob) → active' port ≡ Some c → IsActiveJob g s' r.log r.vars port c
    under_way_after port c h =
        ⊎_elim
        (λ (e : (port ≡ job.task) × (b ≡ c)).
        subst (λ (n : ℕ). IsActiveJob g s' r.log r.vars n c) (sym e.0) (subst (IsActiveJob g s' r.log r.vars job.task) e.1 under_way_new))
        (λ (e : (port ≡ job.task → ⊥) × (r.active port ≡ Some c)). under_way_other port c e.0 e.1)
        (at_cases port c h)

    exclusive_after : (p q : ℕ) (c d : ActiveJob) → active' p ≡ Some c → active' q ≡ Some d → (p ≡ q → ⊥) → 0 < group_at g p → group_at g p ≡ group_at g q → ⊥
    exclusive_after p q c d at_p at_q ne some same =
        ⊎_elim
        (λ (e : (p ≡ job.task) × (b ≡ c)).
        ⊎_elim
        (λ (f : (q ≡ job.task) × (b ≡ d)). ne (e.0 ∙ sym f.0))
        (λ (f : (q ≡ job.task → ⊥) × (r.active q ≡ Some d)).
        let here : group_at g p ≡ group_at g job.task = ap (group_at g) e.0 in
        may.free q d f.1 (omega arith) (sym same ∙ here))
        (at_cases q d at_q))
        (λ (e : (p ≡ job.task → ⊥) × (r.active p ≡ Some c)).
        ⊎_elim
        (λ (f : (q ≡ job.task) × (b ≡ d)).
        let here : group_at g q ≡ group_at g job.task = ap (group_at g) f.0 in
        may.free p c e.1 (omega arith) (same ∙ here))
        (λ (f : (q ≡ job.task → ⊥) × (r.active q ≡ Some d)). stands.exclusive p q c d e.1 f.1 ne some same)
        (at_cases q d at_q))
        (at_cases p c at_p)

    known_after : (port : ℕ) (c : ActiveJob) → active' port ≡ Some c → numbered (known_at r port) c.job.number ≡ Some c.message
    known_after port c h =
        ⊎_elim
        (λ (e : (port ≡ job.task) × (b ≡ c)).
        subst (λ (n : ℕ). numbered (known_at r n) c.job.number ≡ Some c.message) (sym e.0)
        (subst (λ (x : ActiveJob). numbered (known_at r job.task) x.job.number ≡ Some x.message) e.1 may.there))
        (λ (e : (port ≡ job.task → ⊥) × (r.active port ≡ Some c)). stands.known port c e.1)
        (at_cases port c h)

    -- a active job stays
    stays : (port : ℕ) (c : ActiveJob) → r.active port ≡ Some c → active' port ≡ Some c
    stays port c at_port =
        put_other job.task (Some b) r.active port (λ e. none-some c (sym may.idle ∙ ap r.active (sym e) ∙ at_port)) ∙ at_port

    in_use_stays : (v : ℕ) → IsInUse g r.active v → IsInUse g active' v
    in_use_stays v (port, c, at_port, uses) = (port, c, stays port c at_port, uses)

    others_after : (v : ℕ) → (value_at r.vars v ≡ value_at s'.vars v) ⊎ IsInUse g active' v
    others_after v =
        ⊎_elim
        (λ (e : value_at r.vars v ≡ value_at s.vars v).
        ⊎_elim
        (λ (k : value_at (after_writes h.writes s.vars) v ≡ value_at s.vars v). inl (e ∙ sym k ∙ ap (λ (xs : List ℤ). value_at xs v) (sym written.vars_after)))
        (λ (w : (w : Write) × (Has h.writes w) × (w.variable ≡ v)).
        inr (job.task, b, put_same job.task (Some b) r.active job.task refl, subst (Uses g job.task) w.2 (written.own w.0 w.1)))
        (kept_or_written h.writes s.vars v))
        (λ (k : IsInUse g r.active v). inr (in_use_stays v k))
        (stands.others v)

    ended_after : (z : PlanItem) → Has (items_of s') z → IsEndedOrActive g r.log active' z
    ended_after z has =
        ⊎_elim
        (λ (old : Has (items_of s) z).
        ⊎_elim
        (λ (a : (c : ActiveJob) × (r.active z.job.task ≡ Some c) × (z ≡ item_of g c)). inl (a.0, stays z.job.task a.0 a.1, a.2))
        (λ (e : done r.log z.job (length r.log) ≡ z.cost). inr e)
        (stands.ended z old))
        (λ (e : z ≡ item). inl (b, put_same job.task (Some b) r.active z.job.task (ap (λ (x : PlanItem). x.job.task) e), e))
        (has_cases z has)

    one_after : (x y : PlanItem) → Has (items_of s') x → Has (items_of s') y → x.job ≡ y.job → x ≡ y
    one_after x y has_x has_y e =
        ⊎_elim
        (λ (p : Has (items_of s) x).
        ⊎_elim
        (λ (q : Has (items_of s) y). stands.one x y p q e)
        (λ (q : y ≡ item). absurd (fresh x p (e ∙ ap (λ (z : PlanItem). z.job) q)))
        (has_cases y has_y))
        (λ (p : x ≡ item).
        ⊎_elim
        (λ (q : Has (items_of s) y). absurd (fresh y q (sym e ∙ ap (λ (z : PlanItem). z.job) p)))
        (λ (q : y ≡ item). p ∙ sym q)
        (has_cases y has_y))
        (has_cases x has_x)

    all_after : (port k : ℕ) → 1 ≤ k → k ≤ handled_of s' port → (z : PlanItem) × (Has (items_of s') z) × (z.job ≡ nth_job port k) × (1 ≤ z.cost)
    all_after port k some le =
        ⊎_elim
        (λ (e : job.task ≡ port).
        let count : handled_of s' port ≡ suc (handled_of s port) = ap (handled_of s') (sym e) ∙ handled_same ∙ ap (λ (n : ℕ). suc (handled_of s n)) e in
        ⊎_elim
        (λ (lt : k < suc (handled_of s port)). old (stands.all port k some (omega arith)))
        (λ (ge : suc (handled_of s port) ≤ k).
        let number : job.number ≡ k = let n = may.number in let f : handled_of s job.task ≡ handled_of s port = ap (handled_of s) e in omega arith in
        (item, has_new, same_job_parts job port k e number, written.some))
        (cases_lt k (suc (handled_of s port))))
        (λ (ne : job.task ≡ port → ⊥). let count = handled_other port ne in old (stands.all port k some (omega arith)))
        (cases_eq job.task port)
      where
        old : (z : PlanItem) × (Has (items_of s) z) × (z.job ≡ nth_job port k) × (1 ≤ z.cost) → (z : PlanItem) × (Has (items_of s') z) × (z.job ≡ nth_job port k) × (1 ≤ z.cost)
        old (z, has, is, cost) = (z, has_before z has, is, cost)

    pub begun : MatchesSerial g trace (order ++ job ∷ []) s' r'
    begun = record {
      along = run_push g order job (start g trace) s s' stands.along step;
      under_way = under_way_after;
      exclusive = exclusive_after;
      known = known_after;
      long = stands.long;
      messages =
          ap (placed (brought job.task (passes_of g b)) g.ports) stands.messages
          ∙ placed_twice (to_come g r.active) (brought job.task (passes_of g b)) (to_come g active') (to_come_begun g r.active job.task b may.idle) g.ports r.messages;
      count = stands.count ∙ sym (ap length written.vars_after ∙ after_writes-length h.writes s.vars);
      others = others_after;
      written = stands.written ∙ ap (λ (ws : List Write). after_writes ws (start g trace).vars) (sym (writes_below_more s.handled new r.log (length r.log) not_done));
      lawful = λ t j is. let l = stands.lawful t j is in (l.0, has_before l.0 l.1, l.2, l.3);
      named = λ j lt. let z = stands.named j lt in (z.0, has_before z.0 z.1, z.2);
      ended = ended_after;
      one = one_after;
      all = all_after;
      in_turn = stands.in_turn;
    }
