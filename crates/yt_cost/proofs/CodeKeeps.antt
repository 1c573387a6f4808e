-- A tick of code hangs on the variables that the code uses, and changes no other.
use Rattle.std.proofs.Common.{◌≡◌, ℕ, zero, suc, ◌+◌, Bool, true, false, List, [], ◌∷◌, length, Option, Some, None, refl, sym, ap, ◌∙◌, subst, arith, get_or-set_other}
use Rattle.std.specs.Prelude.{ℤ, pos, negsuc, nat_lt, nat_le, cond, slice_get, slice_set, slice_index_or}
use Rattle.std.specs.List.{Contains}
use Rattle.std.proofs.lemmas.List.Elements.{Contains-append_left, Contains-append_right}
use Rattle.std.proofs.Math.ListN.{length-set}
use Rattle.yt_graph.specs.Meaning.{turns_of}
use Rattle.yt_code.specs.declared.instr.Instr.{Instr}
use Rattle.yt_code.specs.declared.instr.Instr.TheVariants.{Push, Local, Var, SetLocal, SetVar, Neg, Not, Two, Call, Send, JumpZero, Jump, Loop, Again, End}
use Rattle.yt_code.specs.Step.{State, Tick, goes_on, enters, turns_back, effect, step_at}
use Rattle.yt_cost.specs.CodeVars.{instr_vars, instrs_vars, AgreeAt, ChangesOnlyAt, AreSameAt, ChangesAtMost, StepsKeepToVars}

agree_after : (vs ws : List ℤ) (i v : ℕ) (x : ℤ) → length vs ≡ length ws → slice_index_or vs v (pos 0) ≡ slice_index_or ws v (pos 0) → slice_index_or (slice_set vs i x) v (pos 0) ≡ slice_index_or (slice_set ws i x) v (pos 0)
agree_after [] [] i v x n e = refl
agree_after [] (b ∷ ws) i v x n e = absurd (omega arith)
agree_after (a ∷ vs) [] i v x n e = absurd (omega arith)
agree_after (a ∷ vs) (b ∷ ws) zero zero x n e = refl
agree_after (a ∷ vs) (b ∷ ws) zero (suc v) x n e = e
agree_after (a ∷ vs) (b ∷ ws) (suc i) zero x n e = e
agree_after (a ∷ vs) (b ∷ ws) (suc i) (suc v) x n e = agree_after vs ws i v x (omega arith) e

abbrev state : ℕ → ℕ → List ℤ → List ℤ → List ℤ → State
state p k s l ls = record { place = p; spent = k; stack = s; loops = l; locals = ls }

module _ (places : List ℕ) (vs ws : List ℤ) (agree : AgreeAt places vs ws) where
  -- what is shown of the ticks under both lists of variables
  abbrev Keeps : Option Tick → Option Tick → Type 0
  Keeps t u = AreSameAt places t u × ChangesAtMost places vs t

  no_change : ChangesOnlyAt places vs vs
  no_change = record { count = refl; others = λ v h. refl }

  -- a tick that leaves the variables
  quiet : (m : State) → Keeps (goes_on m vs) (goes_on m ws)
  quiet m = (record { machine = refl; sends = refl; stepped = refl; vars = agree }, no_change)

  choice : (b : Bool) (t u t' u' : Option Tick) → Keeps t u → Keeps t' u' → Keeps (cond b t t') (cond b u u')
  choice true t u t' u' h k = h
  choice false t u t' u' h k = k

  same_push : (i p : ℕ) (s l ls : List ℤ) → Contains places i → Keeps (effect (Var i) (state p 0 s l ls) vs) (effect (Var i) (state p 0 s l ls) ws)
  same_push i p s l ls h =
      (record { machine = ap (λ x. record { place = p + 1; spent = 0; stack = x ∷ s; loops = l; locals = ls }) (agree.values i h); sends = refl; stepped = refl; vars = agree }, no_change)

  other : (i v : ℕ) (x : ℤ) → Contains places i → (Contains places v → ⊥) → slice_index_or (slice_set vs i x) v (pos 0) ≡ slice_index_or vs v (pos 0)
  other i v x h none = get_or-set_other vs i v x (pos 0) (λ e. none (subst (Contains places) (sym e) h))

  same_set : (i : ℕ) (x : ℤ) (m : State) → Contains places i → Keeps (goes_on m (slice_set vs i x)) (goes_on m (slice_set ws i x))
  same_set i x m h = (
    record {
      machine = refl;
      sends = refl;
      stepped = refl;
      vars = record {
        count = length-set vs i x ∙ agree.count ∙ sym (length-set ws i x);
        values = λ v k. agree_after vs ws i v x agree.count (agree.values v k);
      };
    },
    record { count = length-set vs i x; others = λ v none. other i v x h none },
  )

  enter_same : (n to : ℕ) (m : State) (s : List ℤ) → Keeps (enters n to m s vs) (enters n to m s ws)
  enter_same zero to m s = quiet _
  enter_same (suc n) to m s = quiet _

  turn_same : (c : ℤ) (to : ℕ) (m : State) (l : List ℤ) → Keeps (turns_back c to m l vs) (turns_back c to m l ws)
  turn_same (pos zero) to m l = (tt, tt)
  turn_same (pos (suc zero)) to m l = quiet _
  turn_same (pos (suc (suc n))) to m l = quiet _
  turn_same (negsuc n) to m l = (tt, tt)

  effect_same : (i : Instr) (p k : ℕ) (s l ls : List ℤ) → ((v : ℕ) → Contains (instr_vars i) v → Contains places v) → Keeps (effect i (state p k s l ls) vs) (effect i (state p k s l ls) ws)
  effect_same (Push n) p k s l ls h = quiet _
  effect_same (Local i) p k s l ls h = quiet _
  effect_same (Var i) p k s l ls h = same_push i p s l ls (h i (0, omega arith, refl))
  effect_same (SetLocal i) p k [] l ls h = (tt, tt)
  effect_same (SetLocal i) p k (x ∷ s) l ls h = quiet _
  effect_same (SetVar i) p k [] l ls h = (tt, tt)
  effect_same (SetVar i) p k (x ∷ s) l ls h = same_set i x _ (h i (0, omega arith, refl))
  effect_same Neg p k [] l ls h = (tt, tt)
  effect_same Neg p k (x ∷ s) l ls h = quiet _
  effect_same Not p k [] l ls h = (tt, tt)
  effect_same Not p k (x ∷ s) l ls h = quiet _
  effect_same (Two op) p k [] l ls h = (tt, tt)
  effect_same (Two op) p k (y ∷ []) l ls h = (tt, tt)
  effect_same (Two op) p k (y ∷ x ∷ s) l ls h = quiet _
  effect_same (Call op args n value) p k s l ls h =
      choice (nat_lt (k + 1) n) _ _ _ _ (quiet _) (choice (nat_le args (length s)) _ _ _ _ (quiet _) (tt, tt))
  effect_same (Send o n) p k s l ls h =
      choice (nat_le n (length s)) _ _ _ _ (record { machine = refl; sends = refl; stepped = refl; vars = agree }, no_change) (tt, tt)
  effect_same (JumpZero to) p k [] l ls h = (tt, tt)
  effect_same (JumpZero to) p k (x ∷ s) l ls h = quiet _
  effect_same (Jump to) p k s l ls h = quiet _
  effect_same (Loop most to) p k [] l ls h = (tt, tt)
  effect_same (Loop most to) p k (x ∷ s) l ls h = enter_same (turns_of x most) to (state p k (x ∷ s) l ls) s
  effect_same (Again to) p k s [] ls h = (tt, tt)
  effect_same (Again to) p k s (c ∷ l) ls h = turn_same c to (state p k s (c ∷ l) ls) l
  effect_same End p k s l ls h = (record { machine = refl; sends = refl; stepped = refl; vars = agree }, no_change)

-- what an instruction of the code uses, the code uses
used : (instrs : List Instr) (n : ℕ) (i : Instr) → slice_get instrs n ≡ Some i → (v : ℕ) → Contains (instr_vars i) v → Contains (instrs_vars instrs) v
used [] n i e v h = absurd cc
used (x ∷ instrs) zero i e v h =
    let same : i ≡ x = cc in
    Contains-append_left (instr_vars x) (instrs_vars instrs) v (subst (λ y. Contains (instr_vars y) v) same h)
used (x ∷ instrs) (suc n) i e v h = Contains-append_right (instr_vars x) (instrs_vars instrs) v (used instrs n i e v h)

at_place_same : (instrs : List Instr) (vs ws : List ℤ) (agree : AgreeAt (instrs_vars instrs) vs ws) (m : State) (o : Option Instr) → slice_get instrs m.place ≡ o → AreSameAt (instrs_vars instrs) (step_at o m vs) (step_at o m ws) × ChangesAtMost (instrs_vars instrs) vs (step_at o m vs)
at_place_same instrs vs ws agree m None e = (tt, tt)
at_place_same instrs vs ws agree m (Some i) e =
    effect_same (instrs_vars instrs) vs ws agree i m.place m.spent m.stack m.loops m.locals (used instrs m.place i e)

pub keeps : StepsKeepToVars
keeps instrs m vs ws agree = at_place_same instrs vs ws agree m (slice_get instrs m.place) refl
