-- Compiled code is valid.
use Rattle.std.proofs.Common.{◌≡◌, ℕ, suc, ◌+◌, ◌-◌, ◌≤◌, List, [], ◌∷◌, ◌++◌, length, refl, sym, subst, arith}
use Rattle.yt_graph.specs.Picture.{ExprTree, num, local, var, neg, lnot, two, call, ExprsTree, no_exprs, more_exprs, StmtTree, set_local, set_var, send, if_only, if_else, repeat, BlockTree, empty, more}
use Rattle.yt_code.specs.declared.instr.Instr.{Instr}
use Rattle.yt_code.specs.declared.instr.Instr.TheVariants.{SetLocal, SetVar, Neg, Not, Two, Send, JumpZero, Jump, Loop, Again, End}
use Rattle.yt_code.specs.Valid.{Program, Shape, Leads, IsFine, AreFine}
use Rattle.yt_graph.specs.WellFormed.{exprs_count, stmt_depth, block_depth}
use Rattle.yt_cost.specs.CodeSizes.{expr_size, exprs_size, stmt_size, block_size}
use Rattle.yt_cost.specs.Code.{expr_code, exprs_code, stmt_code, block_code, port_code}
use Rattle.yt_cost.specs.CodeFit.{CompiledIsValid}
use Rattle.yt_cost.proofs.CodeFits.{IsExprFit, IsValueFit, AreValuesFit, IsStmtFit, IsBlockFit, fits}
use Rattle.yt_cost.proofs.CodePlaces.{HasAt, has_front, has_back, has_all, length-expr_code, length-exprs_code, length-stmt_code, length-block_code}
use Rattle.yt_cost.proofs.CodeShapes.{shape, expr_height, some_height, height_le_depth, expr_shapes, exprs_shapes, stmt_shapes, block_shapes, length-expr_shapes, length-exprs_shapes, length-stmt_shapes, length-block_shapes, move, expr_starts, exprs_starts, block_starts}

module _ (all : List Shape) (code : Program) where
  fine_join : (p n : ℕ) (a b : List Instr) (s t : List Shape) → length a ≡ n → AreFine all code p a s → AreFine all code (p + n) b t → AreFine all code p (a ++ b) (s ++ t)
  fine_join p n [] b [] t e f g = let q : p + n ≡ p = omega arith in subst (λ m. AreFine all code m b t) q g
  fine_join p n (i ∷ a) b (x ∷ s) t e f g =
      let q : p + n ≡ p + 1 + length a = omega arith in
      (f.0, f.1, f.2, fine_join (p + 1) (length a) a b s t refl f.3 (subst (λ m. AreFine all code m b t) q g))
  fine_join p n [] b (x ∷ s) t e f g = absurd f
  fine_join p n (i ∷ a) b [] t e f g = absurd f

  -- an expression, and one more instruction that changes its value
  changed : (e : ExprTree) (i : Instr) (p d o : ℕ) → d + 1 ≤ 40 → o ≤ 8 → HasAt all p (expr_shapes e d o ++ shape (d + 1) o ∷ []) → ((next : Leads all (p + expr_size e) (d + 1) o) → AreFine all code p (expr_code e) (expr_shapes e d o)) → IsFine all code (p + expr_size e) i (d + 1) o → AreFine all code p (expr_code e ++ i ∷ []) (expr_shapes e d o ++ shape (d + 1) o ∷ [])
  changed e i p d o room few st inner f =
      let hi = has_back all p (expr_size e) (expr_shapes e d o) (shape (d + 1) o ∷ []) (length-expr_shapes e d o) st in
      fine_join p (expr_size e) (expr_code e) (i ∷ []) (expr_shapes e d o) (shape (d + 1) o ∷ []) (length-expr_code e) (inner hi.0) (room, few, f, tt)

  expr_fine : (e : ExprTree) (p d o : ℕ) → IsExprFit code.locals code.vars e → d + expr_height e ≤ 40 → o ≤ 8 → HasAt all p (expr_shapes e d o) → Leads all (p + expr_size e) (d + 1) o → AreFine all code p (expr_code e) (expr_shapes e d o)
  expr_fine (num n) p d o f h few st next = (omega (arith, h), few, next, tt)
  expr_fine (local i) p d o f h few st next = (omega (arith, h), few, (f, next), tt)
  expr_fine (var i) p d o f h few st next = (omega (arith, h), few, (f, next), tt)
  expr_fine (neg e) p d o f h few st next =
      let on = move all (p + (expr_size e + 1)) (p + expr_size e + 1) (d + 1) (d + 1) o (omega arith) refl next in
      changed e Neg p d o (omega (arith, h, some_height e)) few st (λ at_end. expr_fine e p d o f h few (has_front all p (expr_shapes e d o) _ st) at_end) (omega arith, on)
  expr_fine (lnot e) p d o f h few st next =
      let on = move all (p + (expr_size e + 1)) (p + expr_size e + 1) (d + 1) (d + 1) o (omega arith) refl next in
      changed e Not p d o (omega (arith, h, some_height e)) few st (λ at_end. expr_fine e p d o f h few (has_front all p (expr_shapes e d o) _ st) at_end) (omega arith, on)
  expr_fine (two op l r) p d o f h few st next =
      let n = expr_size l in
      let m = expr_size r in
      let hr = has_back all p n (expr_shapes l d o) _ (length-expr_shapes l d o) st in
      let ho = has_back all (p + n) m (expr_shapes r (d + 1) o) (shape (d + 2) o ∷ []) (length-expr_shapes r (d + 1) o) hr in
      let sr = has_front all (p + n) (expr_shapes r (d + 1) o) _ hr in
      let fl = expr_fine l p d o f.0 (omega (arith, h)) few (has_front all p (expr_shapes l d o) _ st) (expr_starts all r (p + n) (d + 1) o sr) in
      let fr = expr_fine r (p + n) (d + 1) o f.1 (omega (arith, h)) few sr (move all (p + n + m) _ (d + 2) (d + 1 + 1) o refl (omega arith) ho.0) in
      let on = move all (p + (n + m + 1)) (p + n + m + 1) (d + 1) (d + 2 - 1) o (omega arith) (omega arith) next in
      fine_join p n (expr_code l) _ (expr_shapes l d o) _ (length-expr_code l) fl (fine_join (p + n) m (expr_code r) (Two op ∷ []) (expr_shapes r (d + 1) o) (shape (d + 2) o ∷ []) (length-expr_code r) fr (omega (arith, h, some_height r), few, (omega arith, on), tt))
  expr_fine (call op value ticks args) p d o f h few st next = absurd f

  exprs_fine : (es : ExprsTree) (p d o : ℕ) → AreValuesFit code.locals code.vars es → d + exprs_count es ≤ 8 → o ≤ 8 → HasAt all p (exprs_shapes es d o) → Leads all (p + exprs_size es) (d + exprs_count es) o → AreFine all code p (exprs_code es) (exprs_shapes es d o)
  exprs_fine no_exprs p d o f h few st next = tt
  exprs_fine (more_exprs e es) p d o f h few st next =
      let n = expr_size e in
      let hs = has_back all p n (expr_shapes e d o) _ (length-expr_shapes e d o) st in
      let on = move all (p + (n + exprs_size es)) (p + n + exprs_size es) (d + suc (exprs_count es)) (d + 1 + exprs_count es) o (omega arith) (omega arith) next in
      let low : d + expr_height e ≤ 40 = omega (arith, f.0.0, height_le_depth e) in
      fine_join p n (expr_code e) (exprs_code es) (expr_shapes e d o) (exprs_shapes es (d + 1) o) (length-expr_code e) (expr_fine e p d o f.0.1 low few (has_front all p (expr_shapes e d o) _ st) (exprs_starts all es (p + n) (d + 1) o hs on)) (exprs_fine es (p + n) (d + 1) o f.1 (omega (arith, h)) few hs on)

  -- an expression, and instructions of which the first finds its value
  with_value : (e : ExprTree) (i : Instr) (p o : ℕ) (is : List Instr) (ss : List Shape) → IsValueFit code.locals code.vars e → o ≤ 8 → HasAt all p (expr_shapes e 0 o ++ (shape 1 o ∷ ss)) → IsFine all code (p + expr_size e) i 1 o → AreFine all code (p + expr_size e + 1) is ss → AreFine all code p (expr_code e ++ (i ∷ is)) (expr_shapes e 0 o ++ (shape 1 o ∷ ss))
  with_value e i p o is ss f few st fine rest =
      let hs = has_back all p (expr_size e) (expr_shapes e 0 o) (shape 1 o ∷ ss) (length-expr_shapes e 0 o) st in
      let low : 0 + expr_height e ≤ 40 = omega (arith, f.0, height_le_depth e) in
      fine_join p (expr_size e) (expr_code e) (i ∷ is) (expr_shapes e 0 o) (shape 1 o ∷ ss) (length-expr_code e) (expr_fine e p 0 o f.1 low few (has_front all p (expr_shapes e 0 o) _ st) hs.0) (omega arith, few, fine, rest)

  mutual
    stmt_fine : (a : StmtTree) (p o : ℕ) → IsStmtFit code.locals code.vars a → o + stmt_depth a ≤ 7 → HasAt all p (stmt_shapes a o) → Leads all (p + stmt_size a) 0 o → AreFine all code p (stmt_code a p) (stmt_shapes a o)
    stmt_fine (set_local i e) p o f k st next =
        let on = move all (p + (expr_size e + 1)) (p + expr_size e + 1) 0 0 o (omega arith) refl next in
        with_value e (SetLocal i) p o [] [] f.1 (omega (arith, k)) st (omega arith, f.0, on) tt
    stmt_fine (set_var i e) p o f k st next =
        let on = move all (p + (expr_size e + 1)) (p + expr_size e + 1) 0 0 o (omega arith) refl next in
        with_value e (SetVar i) p o [] [] f.1 (omega (arith, k)) st (omega arith, f.0, on) tt
    stmt_fine (send out es) p o f k st next =
        let n = exprs_size es in
        let c = exprs_count es in
        let hs = has_back all p n (exprs_shapes es 0 o) (shape c o ∷ []) (length-exprs_shapes es 0 o) st in
        let on = move all (p + (n + 1)) (p + n + 1) 0 (c - c) o (omega arith) (omega arith) next in
        let full = move all (p + n) (p + n) c (0 + c) o refl (omega arith) hs.0 in
        let few : o ≤ 8 = omega (arith, k) in
        fine_join p n (exprs_code es) (Send out c ∷ []) (exprs_shapes es 0 o) (shape c o ∷ []) (length-exprs_code es) (exprs_fine es p 0 o f.1 (omega (arith, f.0)) few (has_front all p (exprs_shapes es 0 o) _ st) full) (omega (arith, f.0), few, (omega arith, on), tt)
    stmt_fine (if_only e first) p o f k st next =
        let t = expr_size e in
        let hb = has_back all p t (expr_shapes e 0 o) _ (length-expr_shapes e 0 o) st in
        let place : p + t + 1 ≡ p + (t + 1) = omega arith in
        let inside = subst (λ n. HasAt all n (block_shapes first o)) place hb.1 in
        let on = move all (p + (t + 1 + block_size first)) (p + (t + 1) + block_size first) 0 0 o (omega arith) refl next in
        let fb = block_fine first (p + (t + 1)) o f.1 (omega (arith, k)) inside on in
        let begins = move all (p + (t + 1)) (p + t + 1) 0 0 o (sym place) refl (block_starts all first (p + (t + 1)) o inside on) in
        with_value e (JumpZero (p + (t + 1 + block_size first))) p o _ _ f.0 (omega (arith, k)) st (omega arith, begins, next) (subst (λ n. AreFine all code n (block_code first (p + (t + 1))) (block_shapes first o)) (sym place) fb)
    stmt_fine (if_else e first second) p o f k st next =
        let t = expr_size e in
        let a = block_size first in
        let q = p + (t + 1 + (a + 1)) in
        let end = p + (t + 1 + (a + 1) + block_size second) in
        let few : o ≤ 8 = omega (arith, k) in
        let hb = has_back all p t (expr_shapes e 0 o) _ (length-expr_shapes e 0 o) st in
        let place : p + t + 1 ≡ p + (t + 1) = omega arith in
        let inside = subst (λ n. HasAt all n (block_shapes first o ++ (shape 0 o ∷ block_shapes second o))) place hb.1 in
        let hj = has_back all (p + (t + 1)) a (block_shapes first o) _ (length-block_shapes first o) inside in
        let at_q : p + (t + 1) + a + 1 ≡ q = omega arith in
        let there = subst (λ n. HasAt all n (block_shapes second o)) at_q hj.1 in
        let on = move all end (q + block_size second) 0 0 o (omega arith) refl next in
        let front = has_front all (p + (t + 1)) (block_shapes first o) _ inside in
        let f1 = block_fine first (p + (t + 1)) o f.1 (omega (arith, k)) front hj.0 in
        let f2 = block_fine second q o f.2 (omega (arith, k)) there on in
        let begins1 = move all (p + (t + 1)) (p + t + 1) 0 0 o (sym place) refl (block_starts all first (p + (t + 1)) o front hj.0) in
        let begins2 = block_starts all second q o there on in
        let none : 0 ≤ 40 = omega arith in
        let tail = fine_join (p + (t + 1)) a (block_code first (p + (t + 1))) (Jump end ∷ block_code second q) (block_shapes first o) (shape 0 o ∷ block_shapes second o) (length-block_code first (p + (t + 1))) f1 (none, few, next, subst (λ n. AreFine all code n (block_code second q) (block_shapes second o)) (sym at_q) f2) in
        with_value e (JumpZero q) p o _ _ f.0 few st (omega arith, begins1, begins2) (subst (λ n. AreFine all code n (block_code first (p + (t + 1)) ++ (Jump end ∷ block_code second q)) (block_shapes first o ++ (shape 0 o ∷ block_shapes second o))) (sym place) tail)
    stmt_fine (repeat e most body) p o f k st next =
        let t = expr_size e in
        let a = block_size body in
        let end = p + (t + 1 + (a + 1)) in
        let hb = has_back all p t (expr_shapes e 0 o) _ (length-expr_shapes e 0 o) st in
        let place : p + t + 1 ≡ p + (t + 1) = omega arith in
        let inside = subst (λ n. HasAt all n (block_shapes body (o + 1) ++ shape 0 (o + 1) ∷ [])) place hb.1 in
        let hj = has_back all (p + (t + 1)) a (block_shapes body (o + 1)) (shape 0 (o + 1) ∷ []) (length-block_shapes body (o + 1)) inside in
        let front = has_front all (p + (t + 1)) (block_shapes body (o + 1)) _ inside in
        let fb = block_fine body (p + (t + 1)) (o + 1) f.2 (omega (arith, k)) front hj.0 in
        let begins = block_starts all body (p + (t + 1)) (o + 1) front hj.0 in
        let begins' = move all (p + (t + 1)) (p + t + 1) 0 0 (o + 1) (sym place) refl begins in
        let less : o ≡ o + 1 - 1 = omega arith in
        let after = subst (λ n. Leads all (p + (t + 1) + a + 1) 0 n) less (move all end (p + (t + 1) + a + 1) 0 0 o (omega arith) refl next) in
        let none : 0 ≤ 40 = omega arith in
        let opened : o + 1 ≤ 8 = omega (arith, k) in
        let tail = fine_join (p + (t + 1)) a (block_code body (p + (t + 1))) (Again (p + (t + 1)) ∷ []) (block_shapes body (o + 1)) (shape 0 (o + 1) ∷ []) (length-block_code body (p + (t + 1))) fb (none, opened, (omega arith, after, begins), tt) in
        with_value e (Loop most end) p o _ _ f.1 (omega (arith, k)) st (omega arith, begins', next) (subst (λ n. AreFine all code n (block_code body (p + (t + 1)) ++ Again (p + (t + 1)) ∷ []) (block_shapes body (o + 1) ++ shape 0 (o + 1) ∷ [])) (sym place) tail)

    block_fine : (b : BlockTree) (p o : ℕ) → IsBlockFit code.locals code.vars b → o + block_depth b ≤ 8 → HasAt all p (block_shapes b o) → Leads all (p + block_size b) 0 o → AreFine all code p (block_code b p) (block_shapes b o)
    block_fine empty p o f k st next = tt
    block_fine (more a rest) p o f k st next =
        let n = stmt_size a in
        let hr = has_back all p n (stmt_shapes a o) _ (length-stmt_shapes a o) st in
        let on = move all (p + (n + block_size rest)) (p + n + block_size rest) 0 0 o (omega arith) refl next in
        fine_join p n (stmt_code a p) (block_code rest (p + n)) (stmt_shapes a o) (block_shapes rest o) (length-stmt_code a p) (stmt_fine a p o f.0 (omega (arith, k)) (has_front all p (stmt_shapes a o) _ st) (block_starts all rest (p + n) o hr on)) (block_fine rest (p + n) o f.1 (omega (arith, k)) hr on)

pub is_valid : CompiledIsValid
is_valid graph port given =
    let fit = fits graph port given in
    let body = port.body in
    let n = block_size body in
    let code = port_code graph port in
    let all = block_shapes body 0 ++ shape 0 0 ∷ [] in
    let stands = has_all all [] in
    let front = has_front all 0 (block_shapes body 0) _ stands in
    let last = (has_back all 0 n (block_shapes body 0) (shape 0 0 ∷ []) (length-block_shapes body 0) stands).0 in
    let low : 0 + block_depth body ≤ 8 = omega (arith, fit.depth) in
    let none : 0 ≤ 40 = omega arith in
    let shut : 0 ≤ 8 = omega arith in
    let fine = fine_join all code 0 n (block_code body 0) (End ∷ []) (block_shapes body 0) (shape 0 0 ∷ []) (length-block_code body 0) (block_fine all code body 0 0 fit.body low front last) (none, shut, tt, tt) in
    record {
      shapes = all;
      first = block_starts all body 0 0 front last;
      fine = fine;
      params_are_locals = fit.params_are_locals;
      few_locals = fit.few_locals;
    }
