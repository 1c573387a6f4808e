-- A machine among others makes the ticks that it would make alone.
use Rattle.std.proofs.Common.{◌≡◌, ◌⊎◌, ℕ, zero, suc, ◌+◌, ◌-◌, ◌<◌, ◌≤◌, List, [], ◌∷◌, ◌++◌, length, Option, None, Some, refl, sym, ap, subst, ◌∙◌, inl, inr, ⊎_elim, arith}
use Rattle.std.specs.Prelude.{ℤ, slice_get, slice_index_or}
use Rattle.std.specs.List.{Contains}
use Rattle.std.proofs.lemmas.Bool.{cases_eq, cases_lt}
use Rattle.std.proofs.lemmas.Option.{none-some, same_Some}
use Rattle.yt_graph.specs.declared.handled.Write.{Write}
use Rattle.yt_graph.specs.Picture.{GraphTree, PortTree}
use Rattle.yt_graph.specs.Meaning.{Handling, handling}
use Rattle.yt_code.specs.declared.stepped.Stepped.{Stepped}
use Rattle.yt_code.specs.declared.stepped.Stepped.TheVariants.{Going, Ended}
use Rattle.yt_code.specs.Step.{State, Tick, instruction_step}
use Rattle.yt_code.specs.Valid.{Program}
use Rattle.yt_cost.specs.CodeAlone.{Progress, Advance, with_tick, advance, tick_alone, going, ticks_alone, begin_alone, written, written_before, Does, MeansPort}
use Rattle.yt_cost.specs.CodeVars.{port_vars, instrs_vars, AgreeAt, ChangesOnlyAt, IsSameAt, AreSameAt, ChangesAtMost, UsesVarsOf}
use Rattle.yt_cost.proofs.Lemmas.{keeps}
use Rattle.yt_cost.proofs.Lemmas.{next_tick}
use Rattle.yt_log.specs.declared.job.Job.{Job}
use Rattle.yt_log.specs.Ticks.{done}
use Rattle.yt_trace.specs.declared.message.Message.{Message}
use Rattle.yt_serial.specs.Beginnings.{order_of}
use Rattle.yt_serial.specs.PortMessages.{PortMessage}
use Rattle.yt_serial.specs.SerialHandling.{Serial}
use Rattle.yt_serial.specs.Variables.{after_writes, writes_at}
use Rattle.yt_interleave.specs.Interleaved.{ActiveJob, RunState, port_at, value_at, whole_of}
use Rattle.yt_serial.specs.Premises.{CanRun}
use Rattle.yt_interleave.specs.Machines.{IsAloneAt, GoesOnAlone, EndsAlone, IsTickOf, left_more, left_by, ticks_left, MachinesGoOn}
use Rattle.yt_interleave.specs.Moves.{MayBegin, Interleaves}
use Rattle.yt_interleave.proofs.Begin as begin
use Rattle.yt_interleave.proofs.HandlerWrites.{IsWritten, handling_written, written_none, written_more, after_writes-length, before_length, same_after, kept_after, has_at}
use Rattle.yt_interleave.proofs.Over.{same_values}

contains_or_not : (xs : List ℕ) (v : ℕ) → Contains xs v ⊎ (Contains xs v → ⊥)
contains_or_not [] v = inr (λ h. let k = h.1 in absurd (omega arith))
contains_or_not (x ∷ xs) v =
    ⊎_elim
    (λ (e : x ≡ v). inl (0, omega arith, e))
    (λ (ne : x ≡ v → ⊥).
    ⊎_elim
    (λ (h : Contains xs v). inl (suc h.0, let k = h.1 in omega arith, h.2))
    (λ (never : Contains xs v → ⊥). inr (λ h. by ne never h.0 h.1 h.2))
    (contains_or_not xs v))
    (cases_eq x v)
  where
    by : (x ≡ v → ⊥) → (Contains xs v → ⊥) → (k : ℕ) → k < length (x ∷ xs) → slice_index_or (x ∷ xs) k v ≡ v → ⊥
    by ne never zero lt e = ne e
    by ne never (suc k) lt e = never (k, omega arith, e)

-- what an advance says of its tick
advance_is : (ws : List Write) (h : Handling) (o : Option Tick) (a : Advance) → advance ws h o ≡ Some a
    → (t : Tick) × (o ≡ Some t) × ((record { progress = record { machine = t.machine; so_far = with_tick ws h t }; stepped = t.stepped }) ≡ a)
advance_is ws h None a e = absurd (none-some a e)
advance_is ws h (Some t) a e = (t, refl, same_Some (record { progress = record { machine = t.machine; so_far = with_tick ws h t }; stepped = t.stepped }) a e)

-- a tick that goes on
advance_going : (ws : List Write) (h : Handling) (o : Option Tick) (p : Progress) → going (advance ws h o) ≡ Some p
    → (t : Tick) × (o ≡ Some t) × (t.stepped ≡ Going) × ((record { machine = t.machine; so_far = with_tick ws h t }) ≡ p)
advance_going ws h None p e = absurd (none-some p e)
advance_going ws h (Some t) p e = by t.stepped refl e
  where
    by : (st : Stepped) → t.stepped ≡ st → going (Some (record { progress = record { machine = t.machine; so_far = with_tick ws h t }; stepped = st })) ≡ Some p
        → (u : Tick) × (Some t ≡ Some u) × (u.stepped ≡ Going) × ((record { machine = u.machine; so_far = with_tick ws h u }) ≡ p)
    by Going is e = (t, refl, is, same_Some (record { machine = t.machine; so_far = with_tick ws h t }) p e)
    by Ended is e = absurd (none-some p e)

-- what is the same under both variables
same_tick : (places : List ℕ) (now : List ℤ) (o : Option Tick) (u : Tick) → AreSameAt places o (Some u) → ChangesAtMost places now o → (t : Tick) × (o ≡ Some t) × IsSameAt places t u × ChangesOnlyAt places now t.vars
same_tick places now None u h k = absurd h
same_tick places now (Some t) u h k = (t, refl, h, k)

module _ (g : GraphTree) (code : Program) (port : PortTree) (msg vars : List ℤ) (means : MeansPort g code port) (own : UsesVarsOf g code port) where
  abbrev whole : Handling
  whole = handling g port msg vars

  does : Does code msg vars (handling g port msg vars)
  does = means.each msg vars

  known : IsWritten g port vars (handling g port msg vars)
  known = handling_written g port msg vars

  -- after so many ticks the variables are what the writes so far make of those at the beginning
  vars_at : (n : ℕ) → n < (handling g port msg vars).ticks → (p : Progress) → IsAloneAt code msg vars n p → p.so_far.vars ≡ written_before n (handling g port msg vars).writes vars
  vars_at n lt p at =
      let way = does.on_the_way n lt in
      let same : way.0 ≡ p = same_Some way.0 p (sym way.1 ∙ at) in
      ap (λ (x : Progress). x.so_far.vars) (sym same) ∙ way.2.vars_now

  -- the variables after a tick alone and under the others' variables
  writes_now : (n : ℕ) → n < (handling g port msg vars).ticks → (p : Progress) → IsAloneAt code msg vars n p → (now : List ℤ) → AgreeAt (instrs_vars code.instrs) now p.so_far.vars
      → (t u : Tick) → IsSameAt (instrs_vars code.instrs) t u → ChangesOnlyAt (instrs_vars code.instrs) now t.vars
      → u.vars ≡ written_before (suc n) (handling g port msg vars).writes vars → t.vars ≡ after_writes (writes_at n (handling g port msg vars).writes) now
  writes_now n lt p at now agree t u same only after =
      let ws = writes_at n whole.writes in
      let here = vars_at n lt p at in
      let step : u.vars ≡ after_writes ws p.so_far.vars = after ∙ written_more n 0 whole.ticks whole.writes vars known.within ∙ ap (after_writes ws) (sym here) in
      same_values t.vars (after_writes ws now) (only.count ∙ sym (after_writes-length ws now))
      (λ v.
      ⊎_elim
      (λ (h : Contains (instrs_vars code.instrs) v).
      same.vars.values v h ∙ ap (λ (xs : List ℤ). value_at xs v) step ∙ sym (same_after ws now p.so_far.vars v agree.count (agree.values v h)))
      (λ (never : Contains (instrs_vars code.instrs) v → ⊥).
      only.others v never
      ∙ sym (kept_after ws now v (λ w has e.
      never (subst (λ (xs : List ℕ). Contains xs v) (sym own) (subst (Contains (port_vars g port)) e (known.own w (has_at n whole.writes w has)))))))
      (contains_or_not (instrs_vars code.instrs) v))

  -- not the last tick
  pub going_tick : (n : ℕ) → n + 1 < (handling g port msg vars).ticks → (p : Progress) → IsAloneAt code msg vars n p → (now : List ℤ) → AgreeAt (instrs_vars code.instrs) now p.so_far.vars
      → (t : Tick) × (instruction_step code.instrs p.machine now ≡ Some t) × (t.vars ≡ after_writes (writes_at n (handling g port msg vars).writes) now) × GoesOnAlone code msg vars n p t
  going_tick n lt p at now agree =
      let way = does.on_the_way (n + 1) lt in
      let q = way.0 in
      let step = next_tick code.instrs n (begin_alone code msg vars) p q at way.1 in
      let a = advance_going _ p.so_far (instruction_step code.instrs p.machine p.so_far.vars) q step in
      let u = a.0 in
      let both = keeps code.instrs p.machine now p.so_far.vars agree in
      let same = same_tick (instrs_vars code.instrs) now (instruction_step code.instrs p.machine now) u (subst (AreSameAt (instrs_vars code.instrs) (instruction_step code.instrs p.machine now)) a.1 both.0) both.1 in
      let t = same.0 in
      let next : n + 1 ≡ suc n = omega arith in
      let after : u.vars ≡ written_before (suc n) whole.writes vars =
      ap (λ (x : Progress). x.so_far.vars) a.3 ∙ way.2.vars_now ∙ ap (λ (k : ℕ). written_before k whole.writes vars) next in
      (t, same.1, writes_now n (omega arith) p at now agree t u same.2 same.3 after, goes (written (slice_get code.instrs p.machine.place) p.machine p.so_far.vars p.so_far.ticks) t u q a.2 a.3 way.1 same.2)
    where
      goes : (ws : List Write) (t u : Tick) (q : Progress) → u.stepped ≡ Going → (record { machine = u.machine; so_far = with_tick ws p.so_far u }) ≡ q → IsAloneAt code msg vars (n + 1) q → IsSameAt (instrs_vars code.instrs) t u → GoesOnAlone code msg vars n p t
      goes ws t u q stepped e alone same = record {
        going = same.stepped ∙ stepped;
        next = q;
        alone = alone;
        machine = sym (ap (λ (x : Progress). x.machine) e) ∙ sym same.machine;
        sends = sym (ap (λ (x : Progress). x.so_far.sends) e) ∙ ap (λ xs. p.so_far.sends ++ xs) (sym same.sends);
        agree = subst (AgreeAt (instrs_vars code.instrs) t.vars) (ap (λ (x : Progress). x.so_far.vars) e) same.vars;
      }

  -- the last tick
  pub last_tick : (n : ℕ) → n + 1 ≡ (handling g port msg vars).ticks → (p : Progress) → IsAloneAt code msg vars n p → (now : List ℤ) → AgreeAt (instrs_vars code.instrs) now p.so_far.vars
      → (t : Tick) × (instruction_step code.instrs p.machine now ≡ Some t) × (t.vars ≡ after_writes (writes_at n (handling g port msg vars).writes) now) × EndsAlone p (handling g port msg vars) t
  last_tick n end p at now agree =
      let before : whole.ticks - 1 ≡ n = omega arith in
      let is : does.last ≡ p = same_Some does.last p (sym does.comes ∙ ap (λ (k : ℕ). ticks_alone code.instrs k (begin_alone code msg vars)) before ∙ at) in
      let ends = subst (λ (x : Progress). tick_alone code.instrs x ≡ Some (record { progress = record { machine = x.machine; so_far = whole }; stepped = Ended })) is does.ends in
      let a = advance_is _ p.so_far (instruction_step code.instrs p.machine p.so_far.vars) _ ends in
      let u = a.0 in
      let both = keeps code.instrs p.machine now p.so_far.vars agree in
      let same = same_tick (instrs_vars code.instrs) now (instruction_step code.instrs p.machine now) u (subst (AreSameAt (instrs_vars code.instrs) (instruction_step code.instrs p.machine now)) a.1 both.0) both.1 in
      let t = same.0 in
      let after : u.vars ≡ written_before (suc n) whole.writes vars =
      ap (λ (x : Advance). x.progress.so_far.vars) a.2 ∙ does.at_end.vars_now ∙ ap (λ (k : ℕ). written_before k whole.writes vars) (omega arith) in (
        t,
        same.1,
        writes_now n (omega arith) p at now agree t u same.2 same.3 after,
        record {
          ended = same.2.stepped ∙ ap (λ (x : Advance). x.stepped) a.2;
          sends = sym (ap (λ (x : Advance). x.progress.so_far.sends) a.2) ∙ ap (λ xs. p.so_far.sends ++ xs) (sym same.2.sends);
        },
      )

  pub tick_of : (n : ℕ) → n < (handling g port msg vars).ticks → (p : Progress) → IsAloneAt code msg vars n p → (now : List ℤ) → AgreeAt (instrs_vars code.instrs) now p.so_far.vars → IsTickOf g code port msg vars n p now
  tick_of n lt p at now agree =
      ⊎_elim
      (λ (more : n + 1 < whole.ticks).
      let way = going_tick n more p at now agree in
      record { tick = way.0; defined = way.1; writes = way.2; goes_on = λ h. way.3; ends = λ e. absurd (omega arith) })
      (λ (ge : whole.ticks ≤ n + 1).
      let l = last_tick n (omega arith) p at now agree in
      record { tick = l.0; defined = l.1; writes = l.2; goes_on = λ h. absurd (omega arith); ends = λ e. l.3 })
      (cases_lt (n + 1) whole.ticks)

  -- as many ticks are left of the machine as of the handling
  pub left_of : (k n fuel : ℕ) → n + suc k ≡ (handling g port msg vars).ticks → suc k ≤ fuel → (p : Progress) → IsAloneAt code msg vars n p → (now : List ℤ) → AgreeAt (instrs_vars code.instrs) now p.so_far.vars
      → ticks_left code.instrs fuel p.machine now ≡ suc k
  left_of k n zero sum le p at now agree = absurd (omega arith)
  left_of zero n (suc fuel) sum le p at now agree =
      let l = last_tick n (omega arith) p at now agree in
      ap (λ (o : Option Tick). left_by o (ticks_left code.instrs fuel)) l.1 ∙ ap (λ (x : Stepped). left_more x (ticks_left code.instrs fuel l.0.machine l.0.vars)) l.3.ended
  left_of (suc k) n (suc fuel) sum le p at now agree =
      let way = going_tick n (omega arith) p at now agree in
      let t = way.0 in
      let on = way.3 in
      let rest = left_of k (n + 1) fuel (omega arith) (omega arith) on.next on.alone t.vars on.agree in
      ap (λ (o : Option Tick). left_by o (ticks_left code.instrs fuel)) way.1
      ∙ ap (λ (x : Stepped). left_more x (ticks_left code.instrs fuel t.machine t.vars)) on.going
      ∙ ap suc (ap (λ (m : State). ticks_left code.instrs fuel m t.vars) (sym on.machine) ∙ rest)

  -- the variables are the handling's where the code uses them
  pub agree_at : (n : ℕ) → n < (handling g port msg vars).ticks → (p : Progress) → IsAloneAt code msg vars n p → (now : List ℤ) → length vars ≡ length now
      → ((v : ℕ) → Contains (port_vars g port) v → value_at now v ≡ value_at (written_before n (handling g port msg vars).writes vars) v) → AgreeAt (instrs_vars code.instrs) now p.so_far.vars
  agree_at n lt p at now long same =
      let here = vars_at n lt p at in
      record {
        count = sym (ap length here ∙ before_length n whole.writes vars ∙ long);
        values = λ v h. same v (subst (λ (xs : List ℕ). Contains xs v) own h) ∙ ap (λ (xs : List ℤ). value_at xs v) (sym here);
      }

module _ (g : GraphTree) (trace : List Message) (can : CanRun g trace) (s : Serial) (r : RunState) (is : Interleaves g trace s r) where
  module _ (port : ℕ) (b : ActiveJob) (at_port : r.active port ≡ Some b) (code : Program) (means : MeansPort g code (port_at g port)) (own : UsesVarsOf g code (port_at g port))
      (p : Progress) (alone : IsAloneAt code b.message.values b.vars (done r.log b.job (length r.log)) p) where
    abbrev n : ℕ
    n = done r.log b.job (length r.log)

    same_whole : whole_of g b ≡ handling g (port_at g port) b.message.values b.vars
    same_whole = ap (λ (t : ℕ). handling g (port_at g t) b.message.values b.vars) (is.stands.under_way port b at_port).task

    left : done r.log b.job (length r.log) < (handling g (port_at g port) b.message.values b.vars).ticks
    left = let u = is.unfinished port b at_port in let e = ap (λ (h : Handling). h.ticks) same_whole in omega arith

    agree : AgreeAt (instrs_vars code.instrs) r.vars p.so_far.vars
    agree =
        let u = is.stands.under_way port b at_port in
        agree_at g code (port_at g port) b.message.values b.vars means own n left p alone r.vars u.count
        (λ v h. u.now v h ∙ ap (λ (x : Handling). value_at (written_before n x.writes b.vars) v) same_whole)

    pub tick_here : IsTickOf g code (port_at g port) b.message.values b.vars (done r.log b.job (length r.log)) p r.vars
    tick_here = tick_of g code (port_at g port) b.message.values b.vars means own n left p alone r.vars agree

    pub left_here : (fuel : ℕ) → (whole_of g b).ticks ≤ fuel → done r.log b.job (length r.log) + ticks_left code.instrs fuel p.machine r.vars ≡ (whole_of g b).ticks
    left_here fuel le =
        let e = ap (λ (h : Handling). h.ticks) same_whole in
        let l = left in
        let k = (whole_of g b).ticks - suc n in
        let more = left_of g code (port_at g port) b.message.values b.vars means own k n fuel (omega arith) (omega arith) p alone r.vars agree in
        omega arith

  first_here : (job : Job) (m : PortMessage) → MayBegin g s r job m → (code : Program) → MeansPort g code (port_at g job.task) → UsesVarsOf g code (port_at g job.task)
      → IsTickOf g code (port_at g job.task) m.values s.vars 0 (begin_alone code m.values s.vars) r.vars
  first_here job m may code means own =
      let port = port_at g job.task in
      let h = handling g port m.values s.vars in
      let w = handling_written g port m.values s.vars in
      let some = w.some in
      let agree = agree_at g code port m.values s.vars means own 0 (omega arith) (begin_alone code m.values s.vars) refl r.vars (sym is.stands.count)
      (λ v uses. begin.same_here g can.well_formed can.rates trace can.keeps (order_of r.log) s r is.stands job m may v uses
      ∙ ap (λ (xs : List ℤ). value_at xs v) (sym (written_none 0 0 h.ticks h.writes s.vars (omega arith) w.within))) in
      tick_of g code port m.values s.vars means own 0 (omega arith) (begin_alone code m.values s.vars) refl r.vars agree

pub machines_go_on : MachinesGoOn
machines_go_on = record {
  ticks = λ g trace can s r is port b at_port code means own p alone. tick_here g trace can s r is port b at_port code means own p alone;
  first = λ g trace can s r is job m may code means own. first_here g trace can s r is job m may code means own;
  left = λ g trace can s r is port b at_port code means own p alone fuel le. left_here g trace can s r is port b at_port code means own p alone fuel le;
}
