-- Valid code is never stuck, and each tick but the last leaves a machine that is ready for the next.
use Rattle.std.proofs.Common.{◌≡◌, ℕ, zero, suc, ◌+◌, ◌-◌, ◌<◌, ◌≤◌, Bool, true, false, List, [], ◌∷◌, ◌++◌, length, length-append, drop, replicate, Option, Some, None, refl, sym, ap, ◌∙◌, subst, arith}
use Rattle.std.specs.Prelude.{ℤ, pos, negsuc, nat_le, slice_get, cond}
use Rattle.std.proofs.Math.ListN.{length-set}
use Rattle.std.proofs.lemmas.List.{length-drop, length-replicate}
use Rattle.std.proofs.lemmas.Bool.Decides.{nat_tests}
use Rattle.std.proofs.lemmas.Option.{slice_get-get_or}
use Rattle.yt_graph.specs.Meaning.{is_not_zero, turns_of}
use Rattle.yt_code.specs.declared.instr.Instr.{Instr}
use Rattle.yt_code.specs.declared.instr.Instr.TheVariants.{Push, Local, Var, SetLocal, SetVar, Neg, Not, Two, Call, Send, JumpZero, Jump, Loop, Again, End}
use Rattle.yt_code.specs.declared.stepped.Stepped.{Stepped}
use Rattle.yt_code.specs.declared.stepped.Stepped.TheVariants.{Going, Ended}
use Rattle.yt_code.specs.Step.{State, Tick, at_place, enters, turns_back, effect, step_at, IsTick}
use Rattle.yt_code.specs.Valid.{Program, Shape, Leads, IsFine, IsValidCode}
use Rattle.yt_code.specs.Ready.{AreCounters, IsReady, OnGoing, StaysReady, NeverStuck}
use Rattle.yt_code.specs.Inside.Needs.{HasTurn, Finds}
use Rattle.yt_code.proofs.Shapes.{is_there, is_within, is_fine}

-- what a tick keeps
record Kept (shapes : List Shape) (locals vars : ℕ) (t : Tick) : Type 0 where
  here : t.stepped ≡ Going → Leads shapes t.machine.place (length t.machine.stack) (length t.machine.loops)
  fresh : t.machine.spent ≡ 0
  counters : AreCounters t.machine.loops
  all_locals : length t.machine.locals ≡ locals
  all_vars : length t.vars ≡ vars

-- a tick that isn't stuck, and keeps this
abbrev IsKept : List Shape → ℕ → ℕ → Option Tick → Type 0
IsKept shapes locals vars None = ⊥
IsKept shapes locals vars (Some t) = Kept shapes locals vars t

-- a machine's parts
abbrev state : ℕ → ℕ → List ℤ → List ℤ → List ℤ → State
state place spent stack loops locals = record { place = place; spent = spent; stack = stack; loops = loops; locals = locals }

at_depth : (shapes : List Shape) (p d e o : ℕ) → d ≡ e → Leads shapes p d o → Leads shapes p e o
at_depth shapes p d e o same h = subst (λ n. Leads shapes p n o) same h

at_loops : (shapes : List Shape) (p d o q : ℕ) → o ≡ q → Leads shapes p d o → Leads shapes p d q
at_loops shapes p d o q same h = subst (λ n. Leads shapes p d n) same h

at_either : (shapes : List Shape) (b : Bool) (p q d o : ℕ) → Leads shapes p d o → Leads shapes q d o → Leads shapes (cond b p q) d o
at_either shapes true p q d o h k = h
at_either shapes false p q d o h k = k

module _ (shapes : List Shape) (code : Program) where
  enter_keeps : (n to p s : ℕ) (was stack loops locals vars : List ℤ) → AreCounters loops → length locals ≡ code.locals → Leads shapes (p + 1) (length stack) (length loops + 1) → Leads shapes to (length stack) (length loops) → IsKept shapes code.locals (length vars) (enters n to (state p s was loops locals) stack vars)
  enter_keeps zero to p s was stack loops locals vars cs ls on off = record { here = λ _. off; fresh = refl; counters = cs; all_locals = ls; all_vars = refl }
  enter_keeps (suc n) to p s was stack loops locals vars cs ls on off =
      let e : length loops + 1 ≡ suc (length loops) = omega arith in
      record { here = λ _. at_loops shapes (p + 1) (length stack) _ _ e on; fresh = refl; counters = cs; all_locals = ls; all_vars = refl }

  turn_keeps : (c : ℤ) (to p s : ℕ) (stack loops locals vars : List ℤ) → AreCounters (c ∷ loops) → length locals ≡ code.locals → Leads shapes (p + 1) (length stack) (length loops) → Leads shapes to (length stack) (suc (length loops)) → IsKept shapes code.locals (length vars) (turns_back c to (state p s stack (c ∷ loops) locals) loops vars)
  turn_keeps (pos zero) to p s stack loops locals vars cs ls on back = cs
  turn_keeps (pos (suc zero)) to p s stack loops locals vars cs ls on back = record { here = λ _. on; fresh = refl; counters = cs; all_locals = ls; all_vars = refl }
  turn_keeps (pos (suc (suc n))) to p s stack loops locals vars cs ls on back = record { here = λ _. back; fresh = refl; counters = cs; all_locals = ls; all_vars = refl }
  turn_keeps (negsuc n) to p s stack loops locals vars cs ls on back = cs

  -- a tick with a stack of another depth at the next place
  next_keeps : (p e : ℕ) (stack loops locals vars : List ℤ) → AreCounters loops → length locals ≡ code.locals → e ≡ length stack → Leads shapes p e (length loops) → Kept shapes code.locals (length vars) (record { machine = at_place p stack loops locals; vars = vars; sends = []; stepped = Going })
  next_keeps p e stack loops locals vars cs ls same h =
      record { here = λ _. at_depth shapes p e (length stack) (length loops) same h; fresh = refl; counters = cs; all_locals = ls; all_vars = refl }

  effect_keeps : (i : Instr) (p s : ℕ) (stack loops locals vars : List ℤ) → IsFine shapes code p i (length stack) (length loops) → s ≡ 0 → AreCounters loops → length locals ≡ code.locals → IsKept shapes code.locals (length vars) (effect i (state p s stack loops locals) vars)
  effect_keeps (Push n) p s stack loops locals vars f z cs ls = next_keeps (p + 1) (length stack + 1) (n ∷ stack) loops locals vars cs ls (omega arith) f
  effect_keeps (Local i) p s stack loops locals vars f z cs ls = next_keeps (p + 1) (length stack + 1) (_ ∷ stack) loops locals vars cs ls (omega arith) f.1
  effect_keeps (Var i) p s stack loops locals vars f z cs ls = next_keeps (p + 1) (length stack + 1) (_ ∷ stack) loops locals vars cs ls (omega arith) f.1
  effect_keeps (SetLocal i) p s [] loops locals vars f z cs ls = absurd (omega (arith, f.0))
  effect_keeps (SetLocal i) p s (x ∷ stack) loops locals vars f z cs ls =
      next_keeps (p + 1) (suc (length stack) - 1) stack loops _ vars cs (length-set locals i x ∙ ls) (omega arith) f.2
  effect_keeps (SetVar i) p s [] loops locals vars f z cs ls = absurd (omega (arith, f.0))
  effect_keeps (SetVar i) p s (x ∷ stack) loops locals vars f z cs ls =
      let e : suc (length stack) - 1 ≡ length stack = omega arith in
      record { here = λ _. at_depth shapes (p + 1) _ _ (length loops) e f.2; fresh = refl; counters = cs; all_locals = ls; all_vars = length-set vars i x }
  effect_keeps Neg p s [] loops locals vars f z cs ls = absurd (omega (arith, f.0))
  effect_keeps Neg p s (x ∷ stack) loops locals vars f z cs ls = next_keeps (p + 1) (suc (length stack)) (_ ∷ stack) loops locals vars cs ls refl f.1
  effect_keeps Not p s [] loops locals vars f z cs ls = absurd (omega (arith, f.0))
  effect_keeps Not p s (x ∷ stack) loops locals vars f z cs ls = next_keeps (p + 1) (suc (length stack)) (_ ∷ stack) loops locals vars cs ls refl f.1
  effect_keeps (Two op) p s [] loops locals vars f z cs ls = absurd (omega (arith, f.0))
  effect_keeps (Two op) p s (y ∷ []) loops locals vars f z cs ls = absurd (omega (arith, f.0))
  effect_keeps (Two op) p s (y ∷ x ∷ stack) loops locals vars f z cs ls =
      next_keeps (p + 1) (suc (suc (length stack)) - 1) (_ ∷ stack) loops locals vars cs ls (omega arith) f.1
  effect_keeps (Call op args ticks value) p s stack loops locals vars f z cs ls = absurd f
  effect_keeps (Send o width) p s stack loops locals vars f z cs ls =
      let t : nat_le width (length stack) ≡ true = grind (arith, nat_tests) in
      let e : length stack - width ≡ length (drop width stack) = sym (length-drop width stack) in
      rw t (record { here = λ _. at_depth shapes (p + 1) _ _ (length loops) e f.1; fresh = refl; counters = cs; all_locals = ls; all_vars = refl })
  effect_keeps (JumpZero to) p s [] loops locals vars f z cs ls = absurd (omega (arith, f.0))
  effect_keeps (JumpZero to) p s (x ∷ stack) loops locals vars f z cs ls =
      next_keeps _ (suc (length stack) - 1) stack loops locals vars cs ls (omega arith) (at_either shapes (is_not_zero x) (p + 1) to (suc (length stack) - 1) (length loops) f.1 f.2)
  effect_keeps (Jump to) p s stack loops locals vars f z cs ls = next_keeps to (length stack) stack loops locals vars cs ls refl f
  effect_keeps (Loop most to) p s [] loops locals vars f z cs ls = absurd (omega (arith, f.0))
  effect_keeps (Loop most to) p s (x ∷ stack) loops locals vars f z cs ls =
      let e : suc (length stack) - 1 ≡ length stack = omega arith in
      enter_keeps (turns_of x most) to p s (x ∷ stack) stack loops locals vars cs ls (at_depth shapes (p + 1) _ _ (length loops + 1) e f.1) (at_depth shapes to _ _ (length loops) e f.2)
  effect_keeps (Again to) p s stack [] locals vars f z cs ls = absurd (omega (arith, f.0))
  effect_keeps (Again to) p s stack (c ∷ loops) locals vars f z cs ls =
      let e : suc (length loops) - 1 ≡ length loops = omega arith in
      turn_keeps c to p s stack loops locals vars cs ls (at_loops shapes (p + 1) (length stack) _ _ e f.1) f.2
  effect_keeps End p s stack loops locals vars f z cs ls = record { here = λ h. absurd (cc); fresh = z; counters = cs; all_locals = ls; all_vars = refl }

has_turn : (loops : List ℤ) → 0 < length loops → AreCounters loops → HasTurn loops
has_turn [] lt cs = absurd (omega (arith, lt))
has_turn (pos zero ∷ rest) lt cs = cs
has_turn (pos (suc n) ∷ rest) lt cs = tt
has_turn (negsuc n ∷ rest) lt cs = cs

-- room for one number more, and for one loop more
room : (code : Program) (v : IsValidCode code) (p d o : ℕ) → Leads v.shapes p (d + 1) o → d < 40
room code v p d o h = omega (arith, (is_within code v p (d + 1) o h).0)

room_for_loop : (code : Program) (v : IsValidCode code) (p d o : ℕ) → Leads v.shapes p d (o + 1) → o < 8
room_for_loop code v p d o h = omega (arith, (is_within code v p d (o + 1) h).1)

finds_from : (code : Program) (v : IsValidCode code) (i : Instr) (m : State) (vars : ℕ) → IsFine v.shapes code m.place i (length m.stack) (length m.loops) → vars ≡ code.vars → AreCounters m.loops → length m.locals ≡ code.locals → Finds i m vars
finds_from code v (Push n) m vars f e cs ls = room code v (m.place + 1) (length m.stack) (length m.loops) f
finds_from code v (Local i) m vars f e cs ls = (room code v (m.place + 1) (length m.stack) (length m.loops) f.1, omega (arith, f.0, ls))
finds_from code v (Var i) m vars f e cs ls = (room code v (m.place + 1) (length m.stack) (length m.loops) f.1, omega (arith, f.0, e))
finds_from code v (SetLocal i) m vars f e cs ls = (f.0, omega (arith, f.1, ls))
finds_from code v (SetVar i) m vars f e cs ls = (f.0, omega (arith, f.1, e))
finds_from code v Neg m vars f e cs ls = f.0
finds_from code v Not m vars f e cs ls = f.0
finds_from code v (Two op) m vars f e cs ls = f.0
finds_from code v (Call op args ticks value) m vars f e cs ls = f
finds_from code v (Send o width) m vars f e cs ls = f.0
finds_from code v (JumpZero to) m vars f e cs ls = f.0
finds_from code v (Jump to) m vars f e cs ls = tt
finds_from code v (Loop most to) m vars f e cs ls = (f.0, room_for_loop code v (m.place + 1) _ (length m.loops) f.1)
finds_from code v (Again to) m vars f e cs ls = has_turn m.loops f.0 cs
finds_from code v End m vars f e cs ls = tt

-- the instruction where a ready machine stands is fine
fine_here : (code : Program) (m : State) (r : IsReady code m) (i : Instr) → slice_get code.instrs m.place ≡ Some i → IsFine r.valid.shapes code m.place i (length m.stack) (length m.loops)
fine_here code m r i at = is_fine code r.valid m.place (length m.stack) (length m.loops) i at r.here

-- a ready machine stands at an instruction of the code
pub stands : (code : Program) (m : State) → IsReady code m → m.place < length code.instrs
stands code m r = is_there code r.valid m.place (length m.stack) (length m.loops) r.here

-- which finds what it needs
pub finds : (code : Program) (m : State) (vars : ℕ) (i : Instr) → IsReady code m → vars ≡ code.vars → slice_get code.instrs m.place ≡ Some i → Finds i m vars
finds code m vars i r e at = finds_from code r.valid i m vars (fine_here code m r i at) e r.counters r.all_locals

kept_here : (code : Program) (m : State) (vars : List ℤ) (i : Instr) (r : IsReady code m) → slice_get code.instrs m.place ≡ Some i → IsKept r.valid.shapes code.locals (length vars) (effect i m vars)
kept_here code m vars i r at =
    effect_keeps r.valid.shapes code i m.place m.spent m.stack m.loops m.locals vars (fine_here code m r i at) r.fresh r.counters r.all_locals

on_going : (s : Stepped) (P : Type 0) → (s ≡ Going → P) → OnGoing s P
on_going Going P f = f refl
on_going Ended P f = tt

stays : (code : Program) (v : IsValidCode code) (vars : ℕ) (o : Option Tick) → IsKept v.shapes code.locals vars o → vars ≡ code.vars → StaysReady code o
stays code v vars None k e = k
stays code v vars (Some t) k e = (k.all_vars ∙ e, on_going t.stepped (IsReady code t.machine) ready)
  where
    ready : t.stepped ≡ Going → IsReady code t.machine
    ready going = record {
      valid = v;
      here = k.here going;
      fresh = k.fresh;
      counters = k.counters;
      all_locals = k.all_locals;
    }

-- and is ready again after a tick that isn't the last
pub stays_ready : (code : Program) (m : State) (vars : List ℤ) (i : Instr) → IsReady code m → length vars ≡ code.vars → slice_get code.instrs m.place ≡ Some i → StaysReady code (effect i m vars)
stays_ready code m vars i r e at = stays code r.valid (length vars) (effect i m vars) (kept_here code m vars i r at) e

tells : (code : Program) (o : Option Tick) (n : State) (w : List ℤ) (s : Stepped) → StaysReady code o → IsTick o n w s → OnGoing s (IsReady code n)
tells code None n w s r t = absurd r
tells code (Some x) n w s r t = subst (λ y. OnGoing s (IsReady code y)) (sym t.0) (subst (λ y. OnGoing y (IsReady code x.machine)) (sym t.2) r.1)

pub ready_after : (code : Program) (m : State) (vars : List ℤ) (i : Instr) → IsReady code m → length vars ≡ code.vars → slice_get code.instrs m.place ≡ Some i → (n : State) (w : List ℤ) (s : Stepped) → IsTick (effect i m vars) n w s → OnGoing s (IsReady code n)
ready_after code m vars i r same at n w s t = tells code (effect i m vars) n w s (stays_ready code m vars i r same at) t

-- so it is never stuck
pub never_stuck : NeverStuck
never_stuck code m vars r e =
    let at = slice_get-get_or code.instrs m.place End (stands code m r) in
    subst (λ o. StaysReady code (step_at o m vars)) (sym at) (stays_ready code m vars _ r e at)

filled : (msg locals : List ℤ) (n : ℕ) → locals ≡ msg ++ replicate (n - length msg) (pos 0) → length msg ≤ n → length locals ≡ n
filled msg locals n e le =
    ap length e
    ∙ length-append msg (replicate (n - length msg) (pos 0))
    ∙ ap (λ k. length msg + k) (length-replicate (n - length msg) (pos 0))
    ∙ omega arith

starts : (shapes : List Shape) (m : State) → Leads shapes 0 0 0 → m.place ≡ 0 → m.stack ≡ [] → m.loops ≡ [] → Leads shapes m.place (length m.stack) (length m.loops)
starts shapes m first place stack loops =
    rw (place, stack, loops) first

-- a machine that begins is ready
pub begun_is_ready : (code : Program) (msg : List ℤ) (m : State) (n : ℕ) → IsValidCode code → length msg ≡ code.params → m.place ≡ 0 → m.spent ≡ 0 → m.stack ≡ [] → m.loops ≡ [] → n ≡ code.locals → m.locals ≡ msg ++ replicate (n - length msg) (pos 0) → IsReady code m
begun_is_ready code msg m n v e place spent stack loops full locals = record {
  valid = v;
  here = starts v.shapes m v.first place stack loops;
  fresh = spent;
  counters = subst AreCounters (sym loops) tt;
  all_locals = filled msg m.locals n locals (omega (arith, e, full, v.params_are_locals)) ∙ full;
}
