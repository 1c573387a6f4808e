-- What holds of any code that is executed alone: its ticks are counted, its variables are what its writes make of those at the start, and what is sent stays sent.
use Rattle.std.proofs.Common.{◌≡◌, ℕ, zero, suc, ◌+◌, ◌-◌, ◌≤◌, ◌<◌, Bool, true, false, List, [], ◌∷◌, ◌++◌, length, Option, Some, None, refl, sym, ap, ◌∙◌, subst, arith, append_assoc, append-nil}
use Rattle.std.specs.Prelude.{ℤ, pos, negsuc, nat_lt, nat_le, cond, slice_get, slice_set}
use Rattle.std.proofs.lemmas.Bool.Decides.{nat_tests}
use Rattle.yt_graph.specs.declared.handled.Write.{Write}
use Rattle.yt_graph.specs.declared.handled.SendItem.{SendItem}
use Rattle.yt_graph.specs.Meaning.{Handling, turns_of}
use Rattle.yt_graph.specs.Writes.{after_writes}
use Rattle.yt_code.specs.declared.instr.Instr.{Instr}
use Rattle.yt_code.specs.declared.instr.Instr.TheVariants.{Push, Local, Var, SetLocal, SetVar, Neg, Not, Two, Call, Send, JumpZero, Jump, Loop, Again, End}
use Rattle.yt_code.specs.declared.stepped.Stepped.{Stepped}
use Rattle.yt_code.specs.declared.stepped.Stepped.TheVariants.{Going, Ended}
use Rattle.yt_code.specs.Step.{State, Tick, enters, turns_back, effect, step_at}
use Rattle.yt_cost.specs.CodeAlone.{Progress, written, with_tick, advance, tick_alone, going, and_then, ticks_alone, written_before, IsAfter}

-- each of these writes is of the tick before which so many were taken
abbrev AreOfTick : ℕ → List Write → Type 0
AreOfTick ticks [] = Unit {0}
AreOfTick ticks (w ∷ rest) = (w.offset ≡ ticks) × AreOfTick ticks rest

-- what a tick does to the variables: it makes these writes
pub record Changes (ticks : ℕ) (vars news : List ℤ) (writes : List Write) : Type 0 where
  pub made : news ≡ after_writes writes vars
  pub now : AreOfTick ticks writes

abbrev ChangesIf : ℕ → List ℤ → List Write → Option Tick → Type 0
ChangesIf ticks vars writes None = Unit {0}
ChangesIf ticks vars writes (Some t) = Changes ticks vars t.vars writes

kept : (ticks : ℕ) (vars : List ℤ) → Changes ticks vars vars []
kept ticks vars = record { made = refl; now = tt }

choice_keeps : (b : Bool) (ticks : ℕ) (vars : List ℤ) (t u : Option Tick) → ChangesIf ticks vars [] t → ChangesIf ticks vars [] u → ChangesIf ticks vars [] (cond b t u)
choice_keeps true ticks vars t u f g = f
choice_keeps false ticks vars t u f g = g

enter_keeps : (n to ticks : ℕ) (m : State) (stack vars : List ℤ) → ChangesIf ticks vars [] (enters n to m stack vars)
enter_keeps zero to ticks m stack vars = kept ticks vars
enter_keeps (suc n) to ticks m stack vars = kept ticks vars

turn_keeps : (c : ℤ) (to ticks : ℕ) (m : State) (loops vars : List ℤ) → ChangesIf ticks vars [] (turns_back c to m loops vars)
turn_keeps (pos zero) to ticks m loops vars = tt
turn_keeps (pos (suc zero)) to ticks m loops vars = kept ticks vars
turn_keeps (pos (suc (suc n))) to ticks m loops vars = kept ticks vars
turn_keeps (negsuc n) to ticks m loops vars = tt

abbrev state : ℕ → ℕ → List ℤ → List ℤ → List ℤ → State
state p k s l ls = record { place = p; spent = k; stack = s; loops = l; locals = ls }

effect_changes : (i : Instr) (p k : ℕ) (s l ls vars : List ℤ) (ticks : ℕ) → ChangesIf ticks vars (written (Some i) (state p k s l ls) vars ticks) (effect i (state p k s l ls) vars)
effect_changes (Push n) p k s l ls vars ticks = kept ticks vars
effect_changes (Local i) p k s l ls vars ticks = kept ticks vars
effect_changes (Var i) p k s l ls vars ticks = kept ticks vars
effect_changes (SetLocal i) p k [] l ls vars ticks = tt
effect_changes (SetLocal i) p k (x ∷ s) l ls vars ticks = kept ticks vars
effect_changes (SetVar i) p k [] l ls vars ticks = tt
effect_changes (SetVar i) p k (x ∷ s) l ls vars ticks = record { made = refl; now = (refl, tt) }
effect_changes Neg p k [] l ls vars ticks = tt
effect_changes Neg p k (x ∷ s) l ls vars ticks = kept ticks vars
effect_changes Not p k [] l ls vars ticks = tt
effect_changes Not p k (x ∷ s) l ls vars ticks = kept ticks vars
effect_changes (Two op) p k [] l ls vars ticks = tt
effect_changes (Two op) p k (y ∷ []) l ls vars ticks = tt
effect_changes (Two op) p k (y ∷ x ∷ s) l ls vars ticks = kept ticks vars
effect_changes (Call op args n value) p k s l ls vars ticks =
    choice_keeps (nat_lt (k + 1) n) ticks vars _ _ (kept ticks vars) (choice_keeps (nat_le args (length s)) ticks vars _ _ (kept ticks vars) tt)
effect_changes (Send o n) p k s l ls vars ticks = choice_keeps (nat_le n (length s)) ticks vars _ _ (kept ticks vars) tt
effect_changes (JumpZero to) p k [] l ls vars ticks = tt
effect_changes (JumpZero to) p k (x ∷ s) l ls vars ticks = kept ticks vars
effect_changes (Jump to) p k s l ls vars ticks = kept ticks vars
effect_changes (Loop most to) p k [] l ls vars ticks = tt
effect_changes (Loop most to) p k (x ∷ s) l ls vars ticks = enter_keeps (turns_of x most) to ticks (state p k (x ∷ s) l ls) s vars
effect_changes (Again to) p k s [] ls vars ticks = tt
effect_changes (Again to) p k s (c ∷ l) ls vars ticks = turn_keeps c to ticks (state p k s (c ∷ l) ls) l vars
effect_changes End p k s l ls vars ticks = kept ticks vars

step_changes : (o : Option Instr) (m : State) (vars : List ℤ) (ticks : ℕ) → ChangesIf ticks vars (written o m vars ticks) (step_at o m vars)
step_changes None m vars ticks = tt
step_changes (Some i) m vars ticks = effect_changes i m.place m.spent m.stack m.loops m.locals vars ticks

-- one tick's handling after another's
pub record Follows (a b : Handling) : Type 0 where
  pub writes : List Write
  pub changes : Changes a.ticks a.vars b.vars writes
  pub ticks : b.ticks ≡ a.ticks + 1
  pub sends : (more : List SendItem) × (b.sends ≡ a.sends ++ more)
  pub all_writes : b.writes ≡ a.writes ++ writes

abbrev FollowsIf : Handling → Option Progress → Type 0
FollowsIf h None = Unit {0}
FollowsIf h (Some p) = Follows h p.so_far

going_follows : (s : Stepped) (h : Handling) (p : Progress) → Follows h p.so_far → FollowsIf h (going (Some (record { progress = p; stepped = s })))
going_follows Going h p f = f
going_follows Ended h p f = tt

advance_follows : (o : Option Tick) (ws : List Write) (h : Handling) → ChangesIf h.ticks h.vars ws o → FollowsIf h (going (advance ws h o))
advance_follows None ws h c = tt
advance_follows (Some t) ws h c =
    going_follows t.stepped h (record { machine = t.machine; so_far = with_tick ws h t }) (record { writes = ws; changes = c; ticks = refl; sends = (t.sends, refl); all_writes = refl })

follows : (code : List Instr) (a b : Progress) → going (tick_alone code a) ≡ Some b → Follows a.so_far b.so_far
follows code a b e =
    subst (FollowsIf a.so_far) e (advance_follows _ _ a.so_far (step_changes (slice_get code a.machine.place) a.machine a.so_far.vars a.so_far.ticks))

written_before-append : (n : ℕ) (ws us : List Write) (v : List ℤ) → written_before n (ws ++ us) v ≡ written_before n us (written_before n ws v)
written_before-append n [] us v = refl
written_before-append n (x ∷ ws) us v = written_before-append n ws us _

-- the variables are what the writes make of those at the start
pub record IsLogged (v : List ℤ) (a : Handling) : Type 0 where
  pub all : (n : ℕ) → a.ticks ≤ n → a.vars ≡ written_before n a.writes v

-- a later handling: no fewer ticks, more sends at most, and the same variables up to here
pub record IsLater (v : List ℤ) (a b : Handling) : Type 0 where
  pub ticks : a.ticks ≤ b.ticks
  pub sends : (rest : List SendItem) × (b.sends ≡ a.sends ++ rest)
  pub same : (n : ℕ) → n ≤ a.ticks → written_before n b.writes v ≡ written_before n a.writes v

-- what a tick's writes make of variables, when all that came before is written
written_by : (n ticks : ℕ) (ws : List Write) (vars : List ℤ) → AreOfTick ticks ws → ticks < n → written_before n ws vars ≡ after_writes ws vars
written_by n ticks [] vars now lt = refl
written_by n ticks (w ∷ rest) vars now lt =
    let news = slice_set vars w.variable w.value in
    let t : nat_lt w.offset n ≡ true = grind (arith, nat_tests, now.0) in
    ap (λ b. written_before n rest (cond b news vars)) t ∙ written_by n ticks rest news now.1 lt

-- and of what holds before the tick
unwritten_by : (n ticks : ℕ) (ws : List Write) (vars : List ℤ) → AreOfTick ticks ws → n ≤ ticks → written_before n ws vars ≡ vars
unwritten_by n ticks [] vars now le = refl
unwritten_by n ticks (w ∷ rest) vars now le =
    let news = slice_set vars w.variable w.value in
    let t : nat_lt w.offset n ≡ false = grind (arith, nat_tests, now.0) in
    ap (λ b. written_before n rest (cond b news vars)) t ∙ unwritten_by n ticks rest vars now.1 le

logged_on : (v : List ℤ) (a b : Handling) → Follows a b → IsLogged v a → IsLogged v b
logged_on v a b f h = record {
  all = λ n le.
      f.changes.made ∙ sym (written_by n a.ticks f.writes a.vars f.changes.now (omega (arith, f.ticks)))
      ∙ ap (written_before n f.writes) (h.all n (omega (arith, f.ticks)))
      ∙ sym (ap (λ x. written_before n x v) f.all_writes ∙ written_before-append n a.writes f.writes v);
}

later_on : (v : List ℤ) (a b : Handling) → Follows a b → IsLater v a b
later_on v a b f = record {
  ticks = omega (arith, f.ticks);
  sends = f.sends;
  same = λ n le.
      ap (λ x. written_before n x v) f.all_writes ∙ written_before-append n a.writes f.writes v ∙ unwritten_by n a.ticks f.writes (written_before n a.writes v) f.changes.now le;
}

later_still : (v : List ℤ) (a x y : Handling) → IsLater v a x → IsLater v x y → IsLater v a y
later_still v a x y h k = record {
  ticks = omega (arith, h.ticks, k.ticks);
  sends = (h.sends.0 ++ k.sends.0, k.sends.1 ∙ ap (λ l. l ++ k.sends.0) h.sends.1 ∙ append_assoc a.sends h.sends.0 k.sends.0);
  same = λ n le. k.same n (omega (arith, h.ticks)) ∙ h.same n le;
}

-- what a first tick and the ticks after it say together
after_first : (f : Progress → Option Progress) (P : Progress → Type 0) (b : Progress) (o : Option Progress) → ((c : Progress) → o ≡ Some c → f c ≡ Some b → P b) → and_then o f ≡ Some b → P b
after_first f P b None k e = absurd cc
after_first f P b (Some c) k e = k c refl e

and_then_same : (o : Option Progress) (f g : Progress → Option Progress) → ((c : Progress) → f c ≡ g c) → and_then o f ≡ and_then o g
and_then_same None f g h = refl
and_then_same (Some c) f g h = h c

and_then_twice : (o : Option Progress) (f g : Progress → Option Progress) → and_then o (λ c. and_then (f c) g) ≡ and_then (and_then o f) g
and_then_twice None f g = refl
and_then_twice (Some c) f g = refl

-- there is a progress where more comes of it
there_is : (o : Option Progress) (f : Progress → Option Progress) (b : Progress) → and_then o f ≡ Some b → (a : Progress) × (o ≡ Some a) × (f a ≡ Some b)
there_is None f b e = absurd cc
there_is (Some a) f b e = (a, refl, e)

module _ (code : List Instr) where
  -- a claim that one tick carries on holds after any number of ticks
  carried : (P : Progress → Type 0) → ((a b : Progress) → going (tick_alone code a) ≡ Some b → P a → P b) → (n : ℕ) (a b : Progress) → ticks_alone code n a ≡ Some b → P a → P b
  carried P keep zero a b e h = let same : a ≡ b = cc in subst P same h
  carried P keep (suc n) a b e h =
      after_first (ticks_alone code n) P b (going (tick_alone code a)) (λ c q r. carried P keep n c b r (keep a c q h)) e

  pub counts : (n : ℕ) (a b : Progress) → ticks_alone code n a ≡ Some b → b.so_far.ticks ≡ a.so_far.ticks + n
  counts zero a b e = let same : a ≡ b = cc in omega (arith, ap (λ x. x.so_far.ticks) same)
  counts (suc n) a b e =
      after_first (ticks_alone code n) (λ x. x.so_far.ticks ≡ a.so_far.ticks + suc n) b (going (tick_alone code a)) (λ c q r. let f = follows code a c q in omega (arith, f.ticks, counts n c b r)) e

  ticks_alone-add : (m n : ℕ) (a : Progress) → ticks_alone code (m + n) a ≡ and_then (ticks_alone code m a) (ticks_alone code n)
  ticks_alone-add zero n a = let e : 0 + n ≡ n = omega arith in ap (λ k. ticks_alone code k a) e
  ticks_alone-add (suc m) n a =
      let e : suc m + n ≡ suc (m + n) = omega arith in
      ap (λ k. ticks_alone code k a) e
      ∙ and_then_same (going (tick_alone code a)) (ticks_alone code (m + n)) (λ c. and_then (ticks_alone code m c) (ticks_alone code n)) (λ c. ticks_alone-add m n c)
      ∙ and_then_twice (going (tick_alone code a)) (ticks_alone code m) (ticks_alone code n)

  and_stay : (o : Option Progress) → and_then o (ticks_alone code 0) ≡ o
  and_stay None = refl
  and_stay (Some p) = refl

  -- from the progress after n ticks, one tick more leads to that after n + 1
  pub next_tick : (n : ℕ) (a p q : Progress) → ticks_alone code n a ≡ Some p → ticks_alone code (n + 1) a ≡ Some q → going (tick_alone code p) ≡ Some q
  next_tick n a p q here there =
      sym (and_stay (going (tick_alone code p))) ∙ sym (ticks_alone-add n 1 a ∙ ap (λ o. and_then o (ticks_alone code 1)) here) ∙ there

  -- the variables are what the writes so far make of those at the start
  pub logged : (begun : Progress) → begun.so_far.writes ≡ [] → (n : ℕ) (p : Progress) → ticks_alone code n begun ≡ Some p → IsLogged begun.so_far.vars p.so_far
  logged begun none n p here =
      let v = begun.so_far.vars in
      let zero_log : IsLogged v begun.so_far = record { all = λ k lt. ap (λ ws. written_before k ws v) (sym none) } in
      carried (λ x. IsLogged v x.so_far) (λ x y q h. logged_on v x.so_far y.so_far (follows code x y q) h) n begun p here zero_log

  -- a progress on the way to a later one, behind which the last tick comes
  reached : (begun : Progress) → begun.so_far.ticks ≡ 0 → begun.so_far.writes ≡ [] → (n more : ℕ) (p last : Progress) → ticks_alone code n begun ≡ Some p → ticks_alone code more p ≡ Some last → (whole : Handling) → whole.sends ≡ last.so_far.sends → whole.writes ≡ last.so_far.writes → IsAfter n begun.so_far.vars p.so_far whole
  reached begun fresh none n more p last here there whole sends writes =
      let v = begun.so_far.vars in
      let log = logged begun none n p here in
      let now : p.so_far.ticks ≡ n = omega (arith, counts n begun p here, fresh) in
      let self : IsLater v p.so_far p.so_far = record { ticks = omega arith; sends = ([], sym (append-nil p.so_far.sends)); same = λ m low. refl } in
      let later = carried (λ x. IsLater v p.so_far x.so_far) (λ x y q h. later_still v p.so_far x.so_far y.so_far h (later_on v x.so_far y.so_far (follows code x y q))) more p last there self in
      record {
        ticks = now;
        vars_now = log.all n (omega (arith, now)) ∙ sym (ap (λ ws. written_before n ws v) writes ∙ later.same n (omega (arith, now)));
        sends = (later.sends.0, sends ∙ later.sends.1);
      }

  pub on_the_way : (begun : Progress) → begun.so_far.ticks ≡ 0 → begun.so_far.writes ≡ [] → (count : ℕ) (last : Progress) → ticks_alone code count begun ≡ Some last → (whole : Handling) → whole.sends ≡ last.so_far.sends → whole.writes ≡ last.so_far.writes → (n : ℕ) → n ≤ count → (p : Progress) × (ticks_alone code n begun ≡ Some p) × IsAfter n begun.so_far.vars p.so_far whole
  on_the_way begun fresh none count last comes whole sends writes n le =
      let parts : n + (count - n) ≡ count = omega arith in
      let there = there_is (ticks_alone code n begun) (ticks_alone code (count - n)) last (sym (ticks_alone-add n (count - n) begun) ∙ ap (λ k. ticks_alone code k begun) parts ∙ comes) in
      (there.0, there.1, reached begun fresh none n (count - n) there.0 last there.1 there.2 whole sends writes)
