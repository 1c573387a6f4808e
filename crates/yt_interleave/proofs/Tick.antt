-- A tick: of a job that is active, or an idle one. Serial handling stays where it is.
use Rattle.std.proofs.Common.{◌≡◌, ℕ, suc, ◌<◌, ◌≤◌, ◌⊎◌, List, [], ◌∷◌, ◌++◌, length, Option, None, Some, All, refl, sym, ap, subst, ◌∙◌, inl, inr, ⊎_elim, arith, append-nil}
use Rattle.std.specs.Prelude.{ℤ}
use Rattle.std.proofs.lemmas.Bool.{cases_eq}
use Rattle.std.proofs.lemmas.Option.{none-some, same_Some}
use Rattle.yt_graph.specs.declared.handled.Write.{Write}
use Rattle.yt_graph.specs.Meaning.{Handling}
use Rattle.yt_graph.specs.Picture.{GraphTree}
use Rattle.yt_graph.specs.WellFormed.{IsWellFormed}
use Rattle.yt_log.specs.declared.job.Job.{Job}
use Rattle.yt_log.specs.declared.plan.PlanItem.{PlanItem}
use Rattle.yt_log.specs.Tasks.{Has}
use Rattle.yt_log.specs.Ticks.{Ticks, tick, done, IsWaiting, IsLawful}
use Rattle.yt_rates.specs.Faults.{IsWithinRates}
use Rattle.yt_cost.specs.CodeAlone.{written_before}
use Rattle.yt_trace.specs.declared.message.Message.{Message}
use Rattle.yt_serial.specs.SerialHandling.{Serial, items_of, start}
use Rattle.yt_trace.specs.Traces.{KeepsPeriods}
use Rattle.yt_serial.specs.Variables.{after_writes, writes_at, writes_below}
use Rattle.yt_interleave.specs.Interleaved.{ActiveJob, RunState, port_at, Uses, value_at, whole_of, item_of, with_tick, with_idle, IsActiveJob, IsInUse, IsEndedOrActive, BeginInTurn, MatchesSerial}
use Rattle.yt_serial.specs.Beginnings.{nth_job}
use Rattle.yt_interleave.proofs.Begin.{not_both}
use Rattle.yt_interleave.proofs.HandlerWrites.{IsWritten, handling_written, written_more, after_writes-append, after_writes-length, kept_after, kept_or_written, same_after, has_at, before_length}
use Rattle.yt_serial.proofs.Lemmas.{length_push, tick_cases, done_before, done_other, done_this, writes_below_push, writes_in_job, writes_in_idle}
use Rattle.yt_log.proofs.Lemmas.{cases_job}

-- a longer log keeps what is lawful and in turn, where its last tick is so
module _ (items : List PlanItem) (log : Ticks) (o : Option Job) where
  lawful_push : IsLawful items log
      → ((j : Job) → o ≡ Some j → (z : PlanItem) × (Has items z) × (z.job ≡ j) × IsWaiting log (length log) z)
      → IsLawful items (log ++ o ∷ [])
  lawful_push lawful last t j is =
      ⊎_elim
      (λ (e : (t < length log) × (tick log t ≡ Some j)).
      let l = lawful t j e.1 in
      let w = l.3 in
      let same = done_before log o l.0.job t (omega (arith, e.0)) in
      let u = w.unfinished in
      (l.0, l.1, l.2, waiting (log ++ o ∷ []) t l.0 w.arrived (omega arith)))
      (λ (e : (t ≡ length log) × (o ≡ Some j)).
      let l = last j e.1 in
      let w = l.3 in
      let same : done (log ++ o ∷ []) l.0.job t ≡ done log l.0.job (length log) = ap (done (log ++ o ∷ []) l.0.job) e.0 ∙ done_before log o l.0.job (length log) (omega arith) in
      let u = w.unfinished in
      let a = w.arrived in
      let at = e.0 in
      (l.0, l.1, l.2, waiting (log ++ o ∷ []) t l.0 (omega arith) (omega arith)))
      (tick_cases log o j t is)
    where
      waiting : (log : Ticks) (t : ℕ) (z : PlanItem) → z.arrival ≤ t → done log z.job t < z.cost → IsWaiting log t z
      waiting log t z a u = record { arrived = a; unfinished = u }

  turn_push : BeginInTurn log → ((j : Job) → o ≡ Some j → (k : ℕ) → 1 ≤ k → k < j.number → 0 < done log (nth_job j.task k) (length log)) → BeginInTurn (log ++ o ∷ [])
  turn_push turn last t j is k some lt =
      ⊎_elim
      (λ (e : (t < length log) × (tick log t ≡ Some j)).
      let same = done_before log o (nth_job j.task k) t (omega (arith, e.0)) in
      let h = turn t j e.1 k some lt in
      omega arith)
      (λ (e : (t ≡ length log) × (o ≡ Some j)).
      let same : done (log ++ o ∷ []) (nth_job j.task k) t ≡ done log (nth_job j.task k) (length log) = ap (done (log ++ o ∷ []) (nth_job j.task k)) e.0 ∙ done_before log o (nth_job j.task k) (length log) (omega arith) in
      let h = last j e.1 k some lt in
      omega arith)
      (tick_cases log o j t is)

module _ (g : GraphTree) (well : IsWellFormed g) (rates : All (IsWithinRates g) g.ports) (trace : List Message) (keeps : KeepsPeriods g trace)
    (order : List Job) (s : Serial) (r : RunState) (stands : MatchesSerial g trace order s r) where
  module _ (port : ℕ) (b : ActiveJob) (at_port : r.active port ≡ Some b) (left : done r.log b.job (length r.log) < (whole_of g b).ticks) where
    abbrev n : ℕ
    n = done r.log b.job (length r.log)

    abbrev h : Handling
    h = whole_of g b

    abbrev ws : List Write
    ws = writes_at n h.writes

    abbrev r' : RunState
    r' = with_tick g b r

    u : IsActiveJob g s r.log r.vars port b
    u = stands.under_way port b at_port

    written : IsWritten g (port_at g b.job.task) b.vars h
    written = handling_written g (port_at g b.job.task) b.message.values b.vars

    this : done r'.log b.job (length r'.log) ≡ suc n
    this = done_this r.log (Some b.job) b.job refl

    other : (j : Job) → (b.job ≡ j → ⊥) → done r'.log j (length r'.log) ≡ done r.log j (length r.log)
    other j ne = done_other r.log (Some b.job) j (λ e. ne (same_Some b.job j e))

    longer : length r'.log ≡ suc (length r.log)
    longer = length_push r.log (Some b.job)

    -- the writes of this tick are of the port's own variables
    own : (w : Write) → Has ws w → Uses g port w.variable
    own w has = subst (λ (p : ℕ). Uses g p w.variable) u.task (written.own w (has_at n h.writes w has))

    now_this : (v : ℕ) → Uses g port v → value_at r'.vars v ≡ value_at (written_before (done r'.log b.job (length r'.log)) h.writes b.vars) v
    now_this v uses =
        same_after ws r.vars (written_before n h.writes b.vars) v (sym (before_length n h.writes b.vars ∙ u.count)) (u.now v uses)
        ∙ ap (λ (xs : List ℤ). value_at xs v) (sym (ap (λ (k : ℕ). written_before k h.writes b.vars) this ∙ written_more n 0 h.ticks h.writes b.vars written.within))

    under_way_this : IsActiveJob g s r'.log r'.vars port b
    under_way_this = record {
      task = u.task;
      number = u.number;
      there = u.there;
      arrived = let a = u.arrived in let l = longer in omega arith;
      item = u.item;
      writes = u.writes;
      left = let t = this in omega arith;
      count = u.count ∙ sym (after_writes-length ws r.vars);
      now = now_this;
      later = u.later;
    }

    under_way_other : (p : ℕ) (c : ActiveJob) → (port ≡ p → ⊥) → r.active p ≡ Some c → IsActiveJob g s r'.log r'.vars p c
    under_way_other p c ne at_p =
        let k = stands.under_way p c at_p in
        let same : done r'.log c.job (length r'.log) ≡ done r.log c.job (length r.log) = other c.job (λ e. ne (sym u.task ∙ ap (λ (j : Job). j.task) e ∙ k.task)) in
        record {
          task = k.task;
          number = k.number;
          there = k.there;
          arrived = let a = k.arrived in let l = longer in omega arith;
          item = k.item;
          writes = k.writes;
          left = let a = k.left in omega arith;
          count = k.count ∙ sym (after_writes-length ws r.vars);
          now = λ v uses.
              kept_after ws r.vars v (λ w has e. not_both g well rates trace keeps order s r stands port p b c at_port at_p ne v (subst (Uses g port) e (own w has)) uses)
              ∙ k.now v uses ∙ ap (λ (m : ℕ). value_at (written_before m (whole_of g c).writes c.vars) v) (sym same);
          later = k.later;
        }

    under_way_after : (p : ℕ) (c : ActiveJob) → r.active p ≡ Some c → IsActiveJob g s r'.log r'.vars p c
    under_way_after p c at_p =
        ⊎_elim
        (λ (e : port ≡ p).
        let same : b ≡ c = same_Some b c (sym at_port ∙ ap r.active e ∙ at_p) in
        subst (λ (q : ℕ). IsActiveJob g s r'.log r'.vars q c) e (subst (IsActiveJob g s r'.log r'.vars port) same under_way_this))
        (λ (ne : port ≡ p → ⊥). under_way_other p c ne at_p)
        (cases_eq port p)

    others_after : (v : ℕ) → (value_at r'.vars v ≡ value_at s.vars v) ⊎ IsInUse g r.active v
    others_after v =
        ⊎_elim
        (λ (e : value_at r.vars v ≡ value_at s.vars v).
        ⊎_elim
        (λ (k : value_at (after_writes ws r.vars) v ≡ value_at r.vars v). inl (k ∙ e))
        (λ (w : (w : Write) × (Has ws w) × (w.variable ≡ v)). inr (port, b, at_port, subst (Uses g port) w.2 (own w.0 w.1)))
        (kept_or_written ws r.vars v))
        (λ (k : IsInUse g r.active v). inr k)
        (stands.others v)

    named_after : (j : Job) → 0 < done r'.log j (length r'.log) → (z : PlanItem) × (Has (items_of s) z) × (z.job ≡ j)
    named_after j lt =
        ⊎_elim
        (λ (e : b.job ≡ j). (item_of g b, u.item, e))
        (λ (ne : b.job ≡ j → ⊥). let same = other j ne in stands.named j (omega arith))
        (cases_job b.job j)

    ended_after : (z : PlanItem) → Has (items_of s) z → IsEndedOrActive g r'.log r.active z
    ended_after z has =
        ⊎_elim
        (λ (a : (c : ActiveJob) × (r.active z.job.task ≡ Some c) × (z ≡ item_of g c)). inl a)
        (λ (e : done r.log z.job (length r.log) ≡ z.cost).
        ⊎_elim
        (λ (q : b.job ≡ z.job).
        let same : item_of g b ≡ z = stands.one (item_of g b) z u.item has q in
        let cost : h.ticks ≡ z.cost = ap (λ (x : PlanItem). x.cost) same in
        let k : done r.log b.job (length r.log) ≡ done r.log z.job (length r.log) = ap (λ (j : Job). done r.log j (length r.log)) q in
        absurd (omega arith))
        (λ (ne : b.job ≡ z.job → ⊥). inr (other z.job ne ∙ e))
        (cases_job b.job z.job))
        (stands.ended z has)

    -- the port's earlier jobs have ended
    earlier_done : (j : Job) → Some b.job ≡ Some j → (k : ℕ) → 1 ≤ k → k < j.number → 0 < done r.log (nth_job j.task k) (length r.log)
    earlier_done j is k some lt =
        let same : b.job ≡ j = same_Some b.job j is in
        let task : port ≡ j.task = sym u.task ∙ ap (λ (x : Job). x.task) same in
        let number : b.job.number ≡ j.number = ap (λ (x : Job). x.number) same in
        let count = u.number in
        let z = stands.all port k some (omega arith) in
        let at : z.0.job ≡ nth_job j.task k = z.2 ∙ ap (λ (p : ℕ). nth_job p k) task in
        ⊎_elim
        (λ (a : (c : ActiveJob) × (r.active z.0.job.task ≡ Some c) × (z.0 ≡ item_of g c)).
        let here : r.active port ≡ r.active z.0.job.task = ap r.active (sym (ap (λ (x : Job). x.task) z.2)) in
        let c : b ≡ a.0 = same_Some b a.0 (sym at_port ∙ here ∙ a.1) in
        let n : b.job.number ≡ k = ap (λ (x : ActiveJob). x.job.number) c ∙ sym (ap (λ (x : PlanItem). x.job.number) a.2) ∙ ap (λ (x : Job). x.number) z.2 in
        absurd (omega arith))
        (λ (e : done r.log z.0.job (length r.log) ≡ z.0.cost).
        let move : done r.log z.0.job (length r.log) ≡ done r.log (nth_job j.task k) (length r.log) = ap (λ (x : Job). done r.log x (length r.log)) at in
        let cost = z.3 in
        omega arith)
        (stands.ended z.0 z.1)

    last_lawful : (j : Job) → Some b.job ≡ Some j → (z : PlanItem) × (Has (items_of s) z) × (z.job ≡ j) × IsWaiting r.log (length r.log) z
    last_lawful j is = (item_of g b, u.item, same_Some b.job j is, waits)
      where
        waits : IsWaiting r.log (length r.log) (item_of g b)
        waits = record { arrived = u.arrived; unfinished = left }

    pub ticked : MatchesSerial g trace order s r'
    ticked = record {
      along = stands.along;
      under_way = under_way_after;
      exclusive = stands.exclusive;
      known = stands.known;
      long = stands.long;
      messages = stands.messages;
      count = after_writes-length ws r.vars ∙ stands.count;
      others = others_after;
      written =
          ap (after_writes ws) stands.written
          ∙ sym (after_writes-append (writes_below s.handled r.log (length r.log)) ws (start g trace).vars)
          ∙ ap (λ (xs : List Write). after_writes xs (start g trace).vars)
          (sym (writes_below_push r.log (Some b.job) s.handled
          ∙ ap (λ (xs : List Write). writes_below s.handled r.log (length r.log) ++ xs) (writes_in_job s.handled r.log (length r.log) b.job ∙ ap (writes_at n) u.writes)));
      lawful = lawful_push (items_of s) r.log (Some b.job) stands.lawful last_lawful;
      named = named_after;
      ended = ended_after;
      one = stands.one;
      all = stands.all;
      in_turn = turn_push (items_of s) r.log (Some b.job) stands.in_turn earlier_done;
    }

  -- an idle tick
  still : (j : Job) → done (with_idle r).log j (length (with_idle r).log) ≡ done r.log j (length r.log)
  still j = done_other r.log None j (λ e. none-some j e)

  under_way_still : (p : ℕ) (c : ActiveJob) → r.active p ≡ Some c → IsActiveJob g s (with_idle r).log r.vars p c
  under_way_still p c at_p =
      let k = stands.under_way p c at_p in
      let same = still c.job in
      record {
        task = k.task;
        number = k.number;
        there = k.there;
        arrived = let a = k.arrived in let l = length_push r.log None in omega arith;
        item = k.item;
        writes = k.writes;
        left = let a = k.left in omega arith;
        count = k.count;
        now = λ v uses. k.now v uses ∙ ap (λ (m : ℕ). value_at (written_before m (whole_of g c).writes c.vars) v) (sym same);
        later = k.later;
      }

  ended_still : (z : PlanItem) → Has (items_of s) z → IsEndedOrActive g (with_idle r).log r.active z
  ended_still z has =
      ⊎_elim
      (λ (a : (c : ActiveJob) × (r.active z.job.task ≡ Some c) × (z ≡ item_of g c)). inl a)
      (λ (e : done r.log z.job (length r.log) ≡ z.cost). inr (still z.job ∙ e))
      (stands.ended z has)

  pub idled : MatchesSerial g trace order s (with_idle r)
  idled = record {
    along = stands.along;
    under_way = under_way_still;
    exclusive = stands.exclusive;
    known = stands.known;
    long = stands.long;
    messages = stands.messages;
    count = stands.count;
    others = stands.others;
    written =
        stands.written
        ∙ ap (λ (xs : List Write). after_writes xs (start g trace).vars)
        (sym (writes_below_push r.log None s.handled
        ∙ ap (λ (xs : List Write). writes_below s.handled r.log (length r.log) ++ xs) (writes_in_idle s.handled r.log (length r.log))
        ∙ append-nil (writes_below s.handled r.log (length r.log))));
    lawful = lawful_push (items_of s) r.log None stands.lawful (λ j e. absurd (none-some j e));
    named = λ j lt. let same = still j in stands.named j (omega arith);
    ended = ended_still;
    one = stands.one;
    all = stands.all;
    in_turn = turn_push (items_of s) r.log None stands.in_turn (λ j e. absurd (none-some j e));
  }
