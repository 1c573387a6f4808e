-- Handlers make values of values, by recursion on their pictures.
use Rattle.std.proofs.Common.{ℕ, zero, suc, ◌+◌, ◌-◌, ◌<◌, ◌≤◌, Bool, true, false, not, List, length, sym, subst, ⊎_elim, arith, get_or}
use Rattle.std.specs.Prelude.{ℤ, pos, negsuc, neg_ℤ, ◌+ℤ◌, ◌-ℤ◌, ◌*ℤ◌, ◌||◌, ◌&&◌, int_lt, int_le, int_div, int_rem, replicate}
use Rattle.std.specs.Int.{w64, int_wrap, int_min, int_max, int_signum}
use Rattle.std.specs.Ordering.{int_eq}
use Rattle.std.specs.List.{All}
use Rattle.std.proofs.lemmas.Bool.{cases_lt, cond_both}
use Rattle.std.proofs.lemmas.Int.{SFits-int_wrap}
use Rattle.std.proofs.lemmas.List.{get_or_past}
use Rattle.std.proofs.lemmas.List.Elements.{All-nil, All-cons, All-push, All-set, All-append, All-replicate, All-get_or}
use lib.Signed.{mag_rem}
use Rattle.yt_graph.specs.declared.expr.Op2.{Op2}
use Rattle.yt_graph.specs.declared.expr.Op2.TheVariants.{Or, And, Lt, Le, Gt, Ge, Eq, Ne, Add, Sub, Mul, Div, Rem}
use Rattle.yt_graph.specs.Meaning.{Run, is_not_zero, truth, neg_value, two_value, op_value, expr_value, all_values, expr_ticks, spend, choose, turns_of, turns, stmt_run, block_run, start}
use Rattle.yt_graph.specs.Picture.{ExprTree, num, local, var, neg, lnot, two, call, ExprsTree, no_exprs, more_exprs, StmtTree, set_local, set_var, send, if_only, if_else, repeat, BlockTree, empty, more}
use Rattle.yt_run_laws.specs.Values.{IsValue, AreValues, ExprWritesValues, ExprsWriteValues, StmtWritesValues, BlockWritesValues}
use Rattle.yt_run_laws.specs.KeepingValues.{HandlersKeepValues}

zero_value : IsValue (pos 0)
zero_value = record { sfits = omega arith }

truth_value : (b : Bool) → IsValue (truth b)
truth_value true = record { sfits = omega arith }
truth_value false = zero_value

-- a remainder is no greater than what is divided
rem_value : (x y : ℤ) → IsValue x → IsValue (int_rem x y)
rem_value x y h = record { sfits = omega (arith, mag_rem x y, h.sfits) }

sign_value : (x : ℤ) → IsValue (int_signum x)
sign_value (pos n) = record { sfits = omega arith }
sign_value (negsuc n) = record { sfits = omega arith }

two_is_value : (op : Op2) (x y : ℤ) → IsValue x → IsValue y → IsValue (two_value op x y)
two_is_value Or x y a b = truth_value (is_not_zero x || is_not_zero y)
two_is_value And x y a b = truth_value (is_not_zero x && is_not_zero y)
two_is_value Lt x y a b = truth_value (int_lt x y)
two_is_value Le x y a b = truth_value (int_le x y)
two_is_value Gt x y a b = truth_value (int_lt y x)
two_is_value Ge x y a b = truth_value (int_le y x)
two_is_value Eq x y a b = truth_value (int_eq x y)
two_is_value Ne x y a b = truth_value (not (int_eq x y))
two_is_value Add x y a b = SFits-int_wrap w64 (x +ℤ y)
two_is_value Sub x y a b = SFits-int_wrap w64 (x -ℤ y)
two_is_value Mul x y a b = SFits-int_wrap w64 (x *ℤ y)
two_is_value Div x y a b = cond_both (is_not_zero y) (int_wrap w64 (int_div x y)) (pos 0) IsValue (λ c. SFits-int_wrap w64 (int_div x y)) (λ c. zero_value)
two_is_value Rem x y a b = cond_both (is_not_zero y) (int_rem x y) (pos 0) IsValue (λ c. rem_value x y a) (λ c. zero_value)

op_is_value : (code : ℕ) (x y : ℤ) → IsValue x → IsValue y → IsValue (op_value code x y)
op_is_value zero x y a b = zero_value
op_is_value (suc zero) x y a b = cond_both (int_lt y x) y x IsValue (λ c. b) (λ c. a)
op_is_value (suc (suc zero)) x y a b = cond_both (int_lt y x) x y IsValue (λ c. a) (λ c. b)
op_is_value (suc (suc (suc zero))) x y a b = SFits-int_wrap w64 (int_max x y -ℤ int_min x y)
op_is_value (suc (suc (suc (suc zero)))) x y a b = cond_both (int_lt x (pos 0)) (neg_value x) x IsValue (λ c. SFits-int_wrap w64 (neg_ℤ x)) (λ c. a)
op_is_value (suc (suc (suc (suc (suc zero))))) x y a b = sign_value x
op_is_value (suc (suc (suc (suc (suc (suc n)))))) x y a b = zero_value

-- a value of a list, or 0 beyond its end
value_at : (ns : List ℤ) (i : ℕ) → AreValues ns → IsValue (get_or ns i (pos 0))
value_at ns i all =
    ⊎_elim
    (λ (lt : i < length ns). All-get_or IsValue ns i (pos 0) lt all)
    (λ (ge : length ns ≤ i). subst IsValue (sym (get_or_past ns i (pos 0) ge)) zero_value)
    (cases_lt i (length ns))

mutual
  expr_is_value : (e : ExprTree) → ExprWritesValues e → (locals vars : List ℤ) → AreValues locals → AreValues vars → IsValue (expr_value e locals vars)
  expr_is_value (num n) h locals vars a b = h
  expr_is_value (local i) h locals vars a b = value_at locals i a
  expr_is_value (var i) h locals vars a b = value_at vars i b
  expr_is_value (neg e) h locals vars a b = SFits-int_wrap w64 (neg_ℤ (expr_value e locals vars))
  expr_is_value (lnot e) h locals vars a b = truth_value (not (is_not_zero (expr_value e locals vars)))
  expr_is_value (two op l r) h locals vars a b =
      two_is_value op (expr_value l locals vars) (expr_value r locals vars) (expr_is_value l h.0 locals vars a b) (expr_is_value r h.1 locals vars a b)
  expr_is_value (call op code ticks args) h locals vars a b =
      let all = exprs_are_values args h locals vars a b in
      op_is_value code (get_or (all_values args locals vars) 0 (pos 0)) (get_or (all_values args locals vars) 1 (pos 0))
      (value_at (all_values args locals vars) 0 all) (value_at (all_values args locals vars) 1 all)

  exprs_are_values : (es : ExprsTree) → ExprsWriteValues es → (locals vars : List ℤ) → AreValues locals → AreValues vars → AreValues (all_values es locals vars)
  exprs_are_values no_exprs h locals vars a b = All-nil IsValue
  exprs_are_values (more_exprs e rest) h locals vars a b =
      All-cons IsValue (expr_value e locals vars) (all_values rest locals vars) (expr_is_value e h.0 locals vars a b) (exprs_are_values rest h.1 locals vars a b)

-- a handler on its way has values alone
record RunHasValues (s : Run) : Type 0 where
  locals : AreValues s.locals
  vars : AreValues s.vars
  sends : All (λ sent. AreValues sent.values) s.sends

abbrev Keeps : (Run → Run) → Type 0
Keeps f = (s : Run) → RunHasValues s → RunHasValues (f s)

spends : (n : ℕ) → Keeps (spend n)
spends n s h = record { locals = h.locals; vars = h.vars; sends = h.sends }

turns_keep : (n : ℕ) (body : Run → Run) → Keeps body → Keeps (turns n body)
turns_keep zero body each s h = h
turns_keep (suc n) body each s h = turns_keep n body each (body s) (each s h)

choose_keeps : (z : Bool) (first second : Run → Run) → Keeps first → Keeps second → Keeps (choose z first second)
choose_keeps true first second f k s h = f s h
choose_keeps false first second f k s h = k s h

mutual
  stmt_keeps : (a : StmtTree) → StmtWritesValues a → Keeps (stmt_run a)
  stmt_keeps (set_local i e) w s h = record {
    locals = All-set IsValue s.locals i (expr_value e s.locals s.vars) (expr_is_value e w s.locals s.vars h.locals h.vars) h.locals;
    vars = h.vars;
    sends = h.sends;
  }
  stmt_keeps (set_var i e) w s h = record {
    locals = h.locals;
    vars = All-set IsValue s.vars i (expr_value e s.locals s.vars) (expr_is_value e w s.locals s.vars h.locals h.vars) h.vars;
    sends = h.sends;
  }
  stmt_keeps (send o es) w s h = record {
    locals = h.locals;
    vars = h.vars;
    sends = All-push (λ sent. AreValues sent.values) s.sends (record { out = o; values = all_values es s.locals s.vars }) h.sends (exprs_are_values es w s.locals s.vars h.locals h.vars);
  }
  stmt_keeps (if_only e first) w s h =
      choose_keeps (is_not_zero (expr_value e s.locals s.vars)) (block_run first) (λ t. t) (block_keeps first w.1) (λ t k. k) (spend (expr_ticks e + 1) s) (spends (expr_ticks e + 1) s h)
  stmt_keeps (if_else e first second) w s h =
      choose_keeps (is_not_zero (expr_value e s.locals s.vars)) (λ t. spend 1 (block_run first t)) (block_run second)
      (λ t k. spends 1 (block_run first t) (block_keeps first w.1 t k)) (block_keeps second w.2) (spend (expr_ticks e + 1) s) (spends (expr_ticks e + 1) s h)
  stmt_keeps (repeat e most body) w s h =
      turns_keep (turns_of (expr_value e s.locals s.vars) most) (λ t. spend 1 (block_run body t))
      (λ t k. spends 1 (block_run body t) (block_keeps body w.1 t k)) (spend (expr_ticks e + 1) s) (spends (expr_ticks e + 1) s h)

  block_keeps : (b : BlockTree) → BlockWritesValues b → Keeps (block_run b)
  block_keeps empty w s h = h
  block_keeps (more a rest) w s h = block_keeps rest w.1 (stmt_run a s) (stmt_keeps a w.0 s h)

pub handlers_keep_values : HandlersKeepValues
handlers_keep_values g port w message vars a b =
    let before : RunHasValues (start port.locals message vars) = record {
      locals = All-append IsValue message (replicate (port.locals - length message) (pos 0)) a (All-replicate IsValue (port.locals - length message) (pos 0) zero_value);
      vars = b;
      sends = All-nil (λ sent. AreValues sent.values);
    } in
    let after = block_keeps port.body w (start port.locals message vars) before in
    record { vars = after.vars; sends = after.sends }
