-- The machine follows the tree.
use Rattle.std.proofs.Common.{◌≡◌, ℕ, zero, suc, ◌+◌, Bool, true, false, List, [], ◌∷◌, ◌++◌, length, take, drop, Option, Some, None, refl, sym, ap, ◌∙◌, subst, arith, append_assoc, append-nil, length-append}
use Rattle.std.specs.Prelude.{ℤ, pos, nat_le, reverse, cond, slice_get, slice_set}
use Rattle.std.proofs.Math.Seq.{drop-append_seam, take-append_seam}
use Rattle.std.proofs.lemmas.List.{reverse-append, reverse-reverse, length-reverse}
use Rattle.std.proofs.lemmas.Bool.Decides.{nat_tests}
use Rattle.yt_graph.specs.Picture.{ExprTree, num, local, var, neg, lnot, two, call, ExprsTree, no_exprs, more_exprs, StmtTree, set_local, set_var, send, if_only, if_else, repeat, BlockTree, empty, more}
use Rattle.yt_graph.specs.Meaning.{Run, neg_value, not_value, two_value, expr_value, expr_ticks, all_ticks, all_values, spend, store_local, store_var, send_on, is_not_zero, choose, turns_of, turns, stmt_run, block_run, handling_of}
use Rattle.yt_code.specs.declared.instr.Instr.{Instr}
use Rattle.yt_code.specs.declared.instr.Instr.TheVariants.{Push, Local, Var, SetLocal, SetVar, Neg, Not, Two, Send, JumpZero, Jump, Loop, Again}
use Rattle.yt_code.specs.declared.stepped.Stepped.TheVariants.{Going}
use Rattle.yt_code.specs.Step.{State, Tick, at_place, goes_on, enters, topmost, effect, step_at}
use Rattle.yt_graph.specs.WellFormed.{exprs_count}
use Rattle.yt_cost.specs.CodeSizes.{expr_size, exprs_size, stmt_size, block_size}
use Rattle.yt_cost.specs.Code.{expr_code, exprs_code, stmt_code, block_code}
use Rattle.yt_cost.specs.CodeAlone.{Progress, written, advance, tick_alone, going, and_then, ticks_alone}
use Rattle.yt_cost.proofs.CodeFits.{IsExprFit, AreValuesFit, IsStmtFit, IsBlockFit}
use Rattle.yt_cost.proofs.CodePlaces.{HasAt, has_front, has_back, length-expr_code, length-exprs_code, length-stmt_code, length-block_code}

-- a machine that comes to a place with this stack and these loops, in a run
abbrev pub at : ℕ → List ℤ → List ℤ → Run → Progress
at p s l w = record { machine = at_place p s l w.locals; so_far = handling_of w }

-- one turn of a loop: the body, and one tick to go back
abbrev pub turn_run : BlockTree → Run → Run
turn_run body s = spend 1 (block_run body s)

same_at : (p q : ℕ) (s t l m : List ℤ) (v w : Run) → p ≡ q → s ≡ t → l ≡ m → v ≡ w → at p s l v ≡ at q t m w
same_at p q s t l m v w ep es el ew = cc

spend_twice : (w : Run) (m n k : ℕ) → m + n ≡ k → spend n (spend m w) ≡ spend k w
spend_twice w m n k e =
    let q : w.ticks + m + n ≡ w.ticks + k = omega arith in
    ap (λ t. record w { ticks = t }) q

-- an expression takes as many ticks as it has instructions
pub expr_size_is : (locals vars : ℕ) (e : ExprTree) → IsExprFit locals vars e → expr_size e ≡ expr_ticks e
expr_size_is locals vars (num n) f = refl
expr_size_is locals vars (local i) f = refl
expr_size_is locals vars (var i) f = refl
expr_size_is locals vars (neg e) f = omega (arith, expr_size_is locals vars e f)
expr_size_is locals vars (lnot e) f = omega (arith, expr_size_is locals vars e f)
expr_size_is locals vars (two op x y) f = omega (arith, expr_size_is locals vars x f.0, expr_size_is locals vars y f.1)
expr_size_is locals vars (call op code ticks args) f = absurd f

pub exprs_size_is : (locals vars : ℕ) (es : ExprsTree) → AreValuesFit locals vars es → exprs_size es ≡ all_ticks es
exprs_size_is locals vars no_exprs f = refl
exprs_size_is locals vars (more_exprs e es) f =
    omega (arith, expr_size_is locals vars e f.0.1, exprs_size_is locals vars es f.1)

-- values pushed one after another
abbrev onto : List ℤ → List ℤ → List ℤ
onto [] stack = stack
onto (x ∷ xs) stack = onto xs (x ∷ stack)

onto_is : (xs stack : List ℤ) → onto xs stack ≡ reverse xs ++ stack
onto_is [] stack = refl
onto_is (x ∷ xs) stack =
    onto_is xs (x ∷ stack) ∙ sym (append_assoc (reverse xs) (x ∷ []) stack) ∙ ap (λ l. l ++ stack) (sym (reverse-append (x ∷ []) xs))

length-all_values : (es : ExprsTree) (ls vs : List ℤ) → length (all_values es ls vs) ≡ exprs_count es
length-all_values no_exprs ls vs = refl
length-all_values (more_exprs e es) ls vs = omega (arith, length-all_values es ls vs)

module _ (code : List Instr) where
  abbrev step : Progress → Option Progress
  step a = going (tick_alone code a)

  -- the machine comes from one progress to another
  pub record Goes (a b : Progress) : Type 0 where
    pub by : (k : ℕ) → (j : ℕ) × (ticks_alone code j a ≡ ticks_alone code k b)

  stay : (a b : Progress) → a ≡ b → Goes a b
  stay a b e = record { by = λ k. (k, ap (ticks_alone code k) e) }

  one : (a b : Progress) → step a ≡ Some b → Goes a b
  one a b e = record { by = λ k. (suc k, ap (λ o. and_then o (ticks_alone code k)) e) }

  both : (a b c : Progress) → Goes a b → Goes b c → Goes a c
  both a b c f g = record { by = λ k. let y = g.by k in let x = f.by y.0 in (x.0, x.1 ∙ y.1) }

  ends_at : (a b c : Progress) → Goes a b → b ≡ c → Goes a c
  ends_at a b c f e = subst (Goes a) e f

  -- the tick of an instruction
  step_is : (p : ℕ) (s l : List ℤ) (w : Run) (i : Instr) → slice_get code p ≡ Some i → step (at p s l w) ≡ going (advance (written (Some i) (at_place p s l w.locals) w.vars w.ticks) (handling_of w) (effect i (at_place p s l w.locals) w.vars))
  step_is p s l w i h =
      ap (λ o. going (advance (written o (at_place p s l w.locals) w.vars w.ticks) (handling_of w) (step_at o (at_place p s l w.locals) w.vars))) h

  -- a tick that sends and writes nothing
  quiet : (p : ℕ) (s l : List ℤ) (w : Run) (i : Instr) (m : State) → slice_get code p ≡ Some i → written (Some i) (at_place p s l w.locals) w.vars w.ticks ≡ [] → effect i (at_place p s l w.locals) w.vars ≡ goes_on m w.vars → step (at p s l w) ≡ Some (record { machine = m; so_far = handling_of (spend 1 w) })
  quiet p s l w i m h ws e =
      step_is p s l w i h
      ∙ ap (λ o. going (advance (written (Some i) (at_place p s l w.locals) w.vars w.ticks) (handling_of w) o)) e
      ∙ ap (λ x. going (advance x (handling_of w) (goes_on m w.vars))) ws
      ∙ ap (λ x. Some (record { machine = m; so_far = record { vars = w.vars; sends = x; ticks = w.ticks + 1; writes = w.writes ++ [] } })) (append-nil w.sends)
      ∙ ap (λ x. Some (record { machine = m; so_far = record { vars = w.vars; sends = w.sends; ticks = w.ticks + 1; writes = x } })) (append-nil w.writes)

  one_quiet : (p : ℕ) (s l : List ℤ) (w : Run) (i : Instr) (q : ℕ) (t m : List ℤ) → slice_get code p ≡ Some i → written (Some i) (at_place p s l w.locals) w.vars w.ticks ≡ [] → effect i (at_place p s l w.locals) w.vars ≡ goes_on (at_place q t m w.locals) w.vars → Goes (at p s l w) (at q t m (spend 1 w))
  one_quiet p s l w i q t m h ws e = one _ _ (quiet p s l w i (at_place q t m w.locals) h ws e)

  -- an expression whose value is changed by one more instruction
  with_one : (n : ℕ) (i : Instr) (x y : ℤ) (p : ℕ) (s l : List ℤ) (w : Run) → slice_get code (p + n) ≡ Some i → Goes (at p s l w) (at (p + n) (x ∷ s) l (spend n w)) → written (Some i) (at_place (p + n) (x ∷ s) l w.locals) w.vars (w.ticks + n) ≡ [] → effect i (at_place (p + n) (x ∷ s) l w.locals) w.vars ≡ goes_on (at_place (p + n + 1) (y ∷ s) l w.locals) w.vars → Goes (at p s l w) (at (p + (n + 1)) (y ∷ s) l (spend (n + 1) w))
  with_one n i x y p s l w h go ws e =
      let place : p + n + 1 ≡ p + (n + 1) = omega arith in
      ends_at _ _ _ (both _ _ _ go (one_quiet (p + n) (x ∷ s) l (spend n w) i (p + n + 1) (y ∷ s) l h ws e)) (same_at (p + n + 1) _ (y ∷ s) _ l _ _ _ place refl refl (spend_twice w n 1 (n + 1) refl))

  expr_goes : (lc vc : ℕ) (e : ExprTree) (p : ℕ) (s l : List ℤ) (w : Run) → IsExprFit lc vc e → HasAt code p (expr_code e) → Goes (at p s l w) (at (p + expr_ticks e) (expr_value e w.locals w.vars ∷ s) l (spend (expr_ticks e) w))
  expr_goes lc vc (num n) p s l w f h = one_quiet p s l w (Push n) _ _ _ h.0 refl refl
  expr_goes lc vc (local i) p s l w f h = one_quiet p s l w (Local i) _ _ _ h.0 refl refl
  expr_goes lc vc (var i) p s l w f h = one_quiet p s l w (Var i) _ _ _ h.0 refl refl
  expr_goes lc vc (neg e) p s l w f h =
      let x = expr_value e w.locals w.vars in
      let hi = has_back code p (expr_ticks e) (expr_code e) _ (length-expr_code e ∙ expr_size_is lc vc e f) h in
      with_one (expr_ticks e) Neg x (neg_value x) p s l w hi.0 (expr_goes lc vc e p s l w f (has_front code p (expr_code e) _ h)) refl refl
  expr_goes lc vc (lnot e) p s l w f h =
      let x = expr_value e w.locals w.vars in
      let hi = has_back code p (expr_ticks e) (expr_code e) _ (length-expr_code e ∙ expr_size_is lc vc e f) h in
      with_one (expr_ticks e) Not x (not_value x) p s l w hi.0 (expr_goes lc vc e p s l w f (has_front code p (expr_code e) _ h)) refl refl
  expr_goes lc vc (two op x y) p s l w f h =
      let n = expr_ticks x in
      let m = expr_ticks y in
      let hy = has_back code p n (expr_code x) _ (length-expr_code x ∙ expr_size_is lc vc x f.0) h in
      let ho = has_back code (p + n) m (expr_code y) _ (length-expr_code y ∙ expr_size_is lc vc y f.1) hy in
      let vx = expr_value x w.locals w.vars in
      let vy = expr_value y w.locals w.vars in
      let first = expr_goes lc vc x p s l w f.0 (has_front code p (expr_code x) _ h) in
      let second = expr_goes lc vc y (p + n) (vx ∷ s) l (spend n w) f.1 (has_front code (p + n) (expr_code y) _ hy) in
      let third = one_quiet (p + n + m) (vy ∷ vx ∷ s) l (spend m (spend n w)) (Two op) (p + n + m + 1) (two_value op vx vy ∷ s) l ho.0 refl refl in
      let place : p + n + m + 1 ≡ p + (n + m + 1) = omega arith in
      let run : spend 1 (spend m (spend n w)) ≡ spend (n + m + 1) w = ap (spend 1) (spend_twice w n m (n + m) refl) ∙ spend_twice w (n + m) 1 (n + m + 1) refl in
      ends_at _ _ _ (both _ _ _ first (both _ _ _ second third)) (same_at (p + n + m + 1) _ (two_value op vx vy ∷ s) _ l _ _ _ place refl refl run)
  expr_goes lc vc (call op value ticks args) p s l w f h = absurd f

  all_goes : (lc vc : ℕ) (es : ExprsTree) (p : ℕ) (s l : List ℤ) (w : Run) → AreValuesFit lc vc es → HasAt code p (exprs_code es) → Goes (at p s l w) (at (p + all_ticks es) (onto (all_values es w.locals w.vars) s) l (spend (all_ticks es) w))
  all_goes lc vc no_exprs p s l w f h =
      let place : p ≡ p + 0 = omega arith in
      let t : w.ticks ≡ w.ticks + 0 = omega arith in
      stay _ _ (same_at p _ s _ l _ w _ place refl refl (ap (λ k. record w { ticks = k }) t))
  all_goes lc vc (more_exprs e es) p s l w f h =
      let n = expr_ticks e in
      let v = expr_value e w.locals w.vars in
      let hs = has_back code p n (expr_code e) _ (length-expr_code e ∙ expr_size_is lc vc e f.0.1) h in
      let first = expr_goes lc vc e p s l w f.0.1 (has_front code p (expr_code e) _ h) in
      let rest = all_goes lc vc es (p + n) (v ∷ s) l (spend n w) f.1 hs in
      let place : p + n + all_ticks es ≡ p + (n + all_ticks es) = omega arith in
      ends_at _ _ _ (both _ _ _ first rest) (same_at (p + n + all_ticks es) _ (onto (all_values es w.locals w.vars) (v ∷ s)) _ l _ _ _ place refl refl (spend_twice w n (all_ticks es) _ refl))

  -- the tick that sends values and leaves a stack
  abbrev send_tick : ℕ → ℕ → List ℤ → Run → List ℤ → List ℤ → Tick
  send_tick o p l w s vs = record { machine = at_place (p + 1) s l w.locals; vars = w.vars; sends = (record { out = o; values = vs }) ∷ []; stepped = Going }

  -- a message's values, taken off the stack
  sent : (o : ℕ) (vs s l : List ℤ) (n p : ℕ) (w : Run) → length vs ≡ n → effect (Send o n) (at_place p (onto vs s) l w.locals) w.vars ≡ Some (send_tick o p l w s vs)
  sent o vs s l n p w e =
      let is = onto_is vs s in
      let len : length (reverse vs) ≡ n = length-reverse vs ∙ e in
      let fits : nat_le n (length (onto vs s)) ≡ true = let all = ap length is ∙ length-append (reverse vs) s in grind (arith, nat_tests) in
      let rest : drop n (onto vs s) ≡ s = ap (drop n) is ∙ ap (λ k. drop k (reverse vs ++ s)) (sym len) ∙ drop-append_seam (reverse vs) s in
      let front : reverse (take n (onto vs s)) ≡ vs = ap reverse (ap (take n) is ∙ ap (λ k. take k (reverse vs ++ s)) (sym len) ∙ take-append_seam (reverse vs) s) ∙ reverse-reverse vs in
      ap (λ b. cond b (Some (send_tick o p l w (drop n (onto vs s)) (topmost n (onto vs s)))) None) fits
      ∙ ap (λ t. Some (send_tick o p l w t (topmost n (onto vs s)))) rest
      ∙ ap (λ t. Some (send_tick o p l w s t)) front

  send_goes : (o : ℕ) (vs s l : List ℤ) (n p : ℕ) (w : Run) → length vs ≡ n → slice_get code p ≡ Some (Send o n) → Goes (at p (onto vs s) l w) (at (p + 1) s l (spend 1 (send_on o vs w)))
  send_goes o vs s l n p w e h =
      one _ _ (step_is p (onto vs s) l w (Send o n) h
      ∙ ap (λ t. going (advance [] (handling_of w) t)) (sent o vs s l n p w e)
      ∙ ap (λ x. Some (record { machine = at_place (p + 1) s l w.locals; so_far = record { vars = w.vars; sends = w.sends ++ (record { out = o; values = vs }) ∷ []; ticks = w.ticks + 1; writes = x } })) (append-nil w.writes))

  set_var_goes : (i : ℕ) (x : ℤ) (p : ℕ) (s l : List ℤ) (w : Run) → slice_get code p ≡ Some (SetVar i) → Goes (at p (x ∷ s) l w) (at (p + 1) s l (spend 1 (store_var i x w)))
  set_var_goes i x p s l w h =
      one _ _ (step_is p (x ∷ s) l w (SetVar i) h
      ∙ ap (λ xs. Some (record { machine = at_place (p + 1) s l w.locals; so_far = record { vars = slice_set w.vars i x; sends = xs; ticks = w.ticks + 1; writes = w.writes ++ (record { offset = w.ticks; variable = i; value = x }) ∷ [] } })) (append-nil w.sends))

  set_local_goes : (i : ℕ) (x : ℤ) (p : ℕ) (s l : List ℤ) (w : Run) → slice_get code p ≡ Some (SetLocal i) → Goes (at p (x ∷ s) l w) (at (p + 1) s l (spend 1 (store_local i x w)))
  set_local_goes i x p s l w h =
      one _ _ (quiet p (x ∷ s) l w (SetLocal i) (at_place (p + 1) s l (slice_set w.locals i x)) h refl refl)

  -- the two ways on from a test
  forks : (b : Bool) (a : Progress) (p q : ℕ) (s l : List ℤ) (w : Run) (first second : Run → Run) (end : ℕ) → step a ≡ Some (at (cond b p q) s l w) → Goes (at p s l w) (at end s l (first w)) → Goes (at q s l w) (at end s l (second w)) → Goes a (at end s l (choose b first second w))
  forks true a p q s l w first second end st f g = both a _ _ (one a (at p s l w) st) f
  forks false a p q s l w first second end st f g = both a _ _ (one a (at q s l w) st) g

  -- the turns of a loop whose body stands from p to q, with the jump back at q
  loop_goes : (n p q : ℕ) (s l : List ℤ) (body : BlockTree) → slice_get code q ≡ Some (Again p) → ((m : List ℤ) (v : Run) → Goes (at p s m v) (at q s m (block_run body v))) → (w : Run) → Goes (at p s (pos (suc n) ∷ l) w) (at (q + 1) s l (turns (suc n) (turn_run body) w))
  loop_goes zero p q s l body back turn_goes w =
      let v = block_run body w in
      both _ (at q s (pos 1 ∷ l) v) _ (turn_goes (pos 1 ∷ l) w) (one_quiet q s (pos 1 ∷ l) v (Again p) (q + 1) s l back refl refl)
  loop_goes (suc n) p q s l body back turn_goes w =
      let v = block_run body w in
      let mid = at q s (pos (suc (suc n)) ∷ l) v in
      both _ mid _ (turn_goes (pos (suc (suc n)) ∷ l) w) (both mid _ _ (one_quiet q s (pos (suc (suc n)) ∷ l) v (Again p) p s (pos (suc n) ∷ l) back refl refl) (loop_goes n p q s l body back turn_goes (turn_run body w)))

  -- the start of a loop with n turns: its body stands from p + 1 to q
  loop_starts : (n : ℕ) (p q most : ℕ) (x : ℤ) (s l : List ℤ) (w : Run) (body : BlockTree) → turns_of x most ≡ n → slice_get code p ≡ Some (Loop most (q + 1)) → slice_get code q ≡ Some (Again (p + 1)) → ((m : List ℤ) (v : Run) → Goes (at (p + 1) s m v) (at q s m (block_run body v))) → Goes (at p (x ∷ s) l w) (at (q + 1) s l (turns n (turn_run body) (spend 1 w)))
  loop_starts zero p q most x s l w body en h back turn_goes =
      one_quiet p (x ∷ s) l w (Loop most (q + 1)) (q + 1) s l h refl (ap (λ k. enters k (q + 1) (at_place p (x ∷ s) l w.locals) s w.vars) en)
  loop_starts (suc n) p q most x s l w body en h back turn_goes =
      both _ _ _ (one_quiet p (x ∷ s) l w (Loop most (q + 1)) (p + 1) s (pos (suc n) ∷ l) h refl (ap (λ k. enters k (q + 1) (at_place p (x ∷ s) l w.locals) s w.vars) en)) (loop_goes n (p + 1) q s l body back turn_goes (spend 1 w))

  -- a statement that evaluates an expression and does one more thing
  one_more : (lc vc : ℕ) (e : ExprTree) (i : Instr) (p : ℕ) (s l : List ℤ) (w v : Run) → IsExprFit lc vc e → HasAt code p (expr_code e ++ i ∷ []) → (slice_get code (p + expr_ticks e) ≡ Some i → Goes (at (p + expr_ticks e) (expr_value e w.locals w.vars ∷ s) l (spend (expr_ticks e) w)) (at (p + expr_ticks e + 1) s l v)) → Goes (at p s l w) (at (p + (expr_size e + 1)) s l v)
  one_more lc vc e i p s l w v f h go =
      let n = expr_ticks e in
      let mid = at (p + n) (expr_value e w.locals w.vars ∷ s) l (spend n w) in
      let size = expr_size_is lc vc e f in
      let hi = (has_back code p n (expr_code e) (i ∷ []) (length-expr_code e ∙ size) h).0 in
      let place : p + n + 1 ≡ p + (expr_size e + 1) = omega arith in
      ends_at _ _ _ (both _ mid _ (expr_goes lc vc e p s l w f (has_front code p (expr_code e) _ h)) (go hi)) (ap (λ k. at k s l v) place)

  -- a test or a count, after which stand more instructions
  value_goes : (lc vc : ℕ) (e : ExprTree) (is : List Instr) (p : ℕ) (s l : List ℤ) (w : Run) → IsExprFit lc vc e → HasAt code p (expr_code e ++ is) → Goes (at p s l w) (at (p + expr_size e) (expr_value e w.locals w.vars ∷ s) l (spend (expr_ticks e) w)) × HasAt code (p + expr_size e) is
  value_goes lc vc e is p s l w f h =
      let size = expr_size_is lc vc e f in
      let go = expr_goes lc vc e p s l w f (has_front code p (expr_code e) is h) in
      (ends_at _ _ _ go (ap (λ k. at (p + k) (expr_value e w.locals w.vars ∷ s) l (spend (expr_ticks e) w)) (sym size)), has_back code p (expr_size e) (expr_code e) is (length-expr_code e) h)

  -- the jump of a choice
  test_goes : (b : Bool) (x : ℤ) (p q : ℕ) (s l : List ℤ) (w : Run) → is_not_zero x ≡ b → slice_get code p ≡ Some (JumpZero q) → step (at p (x ∷ s) l w) ≡ Some (at (cond b (p + 1) q) s l (spend 1 w))
  test_goes b x p q s l w e h =
      quiet p (x ∷ s) l w (JumpZero q) (at_place (cond b (p + 1) q) s l w.locals) h refl (ap (λ c. goes_on (at_place (cond c (p + 1) q) s l w.locals) w.vars) e)

  mutual
    pub stmt_goes : (lc vc : ℕ) (a : StmtTree) (p : ℕ) (s l : List ℤ) (w : Run) → IsStmtFit lc vc a → HasAt code p (stmt_code a p) → Goes (at p s l w) (at (p + stmt_size a) s l (stmt_run a w))
    stmt_goes lc vc (set_local i e) p s l w f h =
        one_more lc vc e (SetLocal i) p s l w _ f.1.1 h (λ hi. set_local_goes i (expr_value e w.locals w.vars) (p + expr_ticks e) s l (spend (expr_ticks e) w) hi)
    stmt_goes lc vc (set_var i e) p s l w f h =
        one_more lc vc e (SetVar i) p s l w _ f.1.1 h (λ hi. set_var_goes i (expr_value e w.locals w.vars) (p + expr_ticks e) s l (spend (expr_ticks e) w) hi)
    stmt_goes lc vc (send o es) p s l w f h =
        let n = all_ticks es in
        let vs = all_values es w.locals w.vars in
        let mid = at (p + n) (onto vs s) l (spend n w) in
        let size = exprs_size_is lc vc es f.1 in
        let hi = (has_back code p n (exprs_code es) (Send o (exprs_count es) ∷ []) (length-exprs_code es ∙ size) h).0 in
        let place : p + n + 1 ≡ p + (exprs_size es + 1) = omega arith in
        ends_at _ _ _ (both _ mid _ (all_goes lc vc es p s l w f.1 (has_front code p (exprs_code es) _ h)) (send_goes o vs s l (exprs_count es) (p + n) (spend n w) (length-all_values es w.locals w.vars) hi)) (ap (λ k. at k s l (spend 1 (send_on o vs (spend n w)))) place)
    stmt_goes lc vc (if_only e first) p s l w f h =
        let t = expr_size e in
        let end = p + (t + 1 + block_size first) in
        let x = expr_value e w.locals w.vars in
        let b = is_not_zero x in
        let v = spend (expr_ticks e + 1) w in
        let test = value_goes lc vc e _ p s l w f.0.1 h in
        let place : p + t + 1 ≡ p + (t + 1) = omega arith in
        let inside = subst (λ k. HasAt code k (block_code first (p + (t + 1)))) place test.1.1 in
        let over : p + (t + 1) + block_size first ≡ end = omega arith in
        let st = test_goes b x (p + t) end s l (spend (expr_ticks e) w) refl test.1.0 ∙ ap (λ k. Some (at (cond b k end) s l (spend 1 (spend (expr_ticks e) w)))) place ∙ ap (λ r. Some (at (cond b (p + (t + 1)) end) s l r)) (spend_twice w (expr_ticks e) 1 (expr_ticks e + 1) refl) in
        let go_first = ends_at _ _ _ (block_goes lc vc first (p + (t + 1)) s l v f.1 inside) (ap (λ k. at k s l (block_run first v)) over) in
        both _ _ _ test.0 (forks b _ (p + (t + 1)) end s l v (block_run first) (λ r. r) end st go_first (stay _ _ refl))
    stmt_goes lc vc (if_else e first second) p s l w f h =
        let t = expr_size e in
        let q = p + (t + 1 + (block_size first + 1)) in
        let end = p + (t + 1 + (block_size first + 1) + block_size second) in
        let x = expr_value e w.locals w.vars in
        let b = is_not_zero x in
        let v = spend (expr_ticks e + 1) w in
        let test = value_goes lc vc e _ p s l w f.0.1 h in
        let place : p + t + 1 ≡ p + (t + 1) = omega arith in
        let st = test_goes b x (p + t) q s l (spend (expr_ticks e) w) refl test.1.0 ∙ ap (λ k. Some (at (cond b k q) s l (spend 1 (spend (expr_ticks e) w)))) place ∙ ap (λ r. Some (at (cond b (p + (t + 1)) q) s l r)) (spend_twice w (expr_ticks e) 1 (expr_ticks e + 1) refl) in
        let inside = subst (λ k. HasAt code k (block_code first (p + (t + 1)) ++ (Jump end ∷ block_code second q))) place test.1.1 in
        let hj = has_back code (p + (t + 1)) (block_size first) (block_code first (p + (t + 1))) _ (length-block_code first (p + (t + 1))) inside in
        let first_goes = both _ _ _ (block_goes lc vc first (p + (t + 1)) s l v f.1 (has_front code (p + (t + 1)) (block_code first (p + (t + 1))) _ inside)) (one_quiet (p + (t + 1) + block_size first) s l (block_run first v) (Jump end) end s l hj.0 refl refl) in
        let at_second : p + (t + 1) + block_size first + 1 ≡ q = omega arith in
        let there = subst (λ k. HasAt code k (block_code second q)) at_second hj.1 in
        let over : q + block_size second ≡ end = omega arith in
        let second_goes = ends_at _ _ _ (block_goes lc vc second q s l v f.2 there) (ap (λ k. at k s l (block_run second v)) over) in
        both _ _ _ test.0 (forks b _ (p + (t + 1)) q s l v (λ r. spend 1 (block_run first r)) (block_run second) end st first_goes second_goes)
    stmt_goes lc vc (repeat e most body) p s l w f h =
        let t = expr_size e in
        let x = expr_value e w.locals w.vars in
        let n = turns_of x most in
        let q = p + t + 1 + block_size body in
        let end = p + (t + 1 + (block_size body + 1)) in
        let count = value_goes lc vc e _ p s l w f.1.1 h in
        let place : p + (t + 1) ≡ p + t + 1 = omega arith in
        let over : q + 1 ≡ end = omega arith in
        let hl = subst (λ k. slice_get code (p + t) ≡ Some (Loop most k)) (sym over) count.1.0 in
        let inside = subst (λ k. HasAt code (p + t + 1) (block_code body k ++ Again k ∷ [])) place count.1.1 in
        let back = (has_back code (p + t + 1) (block_size body) (block_code body (p + t + 1)) (Again (p + t + 1) ∷ []) (length-block_code body (p + t + 1)) inside).0 in
        let turn_goes = λ (m : List ℤ) (u : Run). block_goes lc vc body (p + t + 1) s m u f.2 (has_front code (p + t + 1) (block_code body (p + t + 1)) _ inside) in
        let start = loop_starts n (p + t) q most x s l (spend (expr_ticks e) w) body refl hl back turn_goes in
        let spent = ap (λ r. at (q + 1) s l (turns n (turn_run body) r)) (spend_twice w (expr_ticks e) 1 (expr_ticks e + 1) refl) in
        ends_at _ _ _ (both _ _ _ count.0 start) (spent ∙ ap (λ k. at k s l (turns n (turn_run body) (spend (expr_ticks e + 1) w))) over)

    pub block_goes : (lc vc : ℕ) (b : BlockTree) (p : ℕ) (s l : List ℤ) (w : Run) → IsBlockFit lc vc b → HasAt code p (block_code b p) → Goes (at p s l w) (at (p + block_size b) s l (block_run b w))
    block_goes lc vc empty p s l w f h = let place : p ≡ p + 0 = omega arith in stay _ _ (ap (λ k. at k s l w) place)
    block_goes lc vc (more a rest) p s l w f h =
        let n = stmt_size a in
        let hr = has_back code p n (stmt_code a p) _ (length-stmt_code a p) h in
        let place : p + n + block_size rest ≡ p + (n + block_size rest) = omega arith in
        ends_at _ _ _ (both _ _ _ (stmt_goes lc vc a p s l w f.0 (has_front code p (stmt_code a p) _ h)) (block_goes lc vc rest (p + n) s l (stmt_run a w) f.1 hr)) (ap (λ k. at k s l (block_run rest (stmt_run a w))) place)
