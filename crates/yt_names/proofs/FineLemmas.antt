-- Expressions of a handler without faults name what is there.
use Rattle.std.proofs.Common.{◌≡◌, ℕ, suc, ◌+◌, ◌<◌, ◌≤◌, ◌^◌, List, [], ◌∷◌, length, slice_get, Bool, true, false, not, ◌||◌, cond, is_some, Option, Some, None, true≢false, refl, sym, ap, ◌∙◌, subst, arith, if◌then◌else◌}
use Rattle.std.specs.Prelude.{◌==◌, nat_lt, bytes_eq}
use Rattle.std.specs.List.{All, position_from}
use Rattle.std.specs.Option.{option_and_then}
use Rattle.std.proofs.lemmas.List.{length-map}
use Rattle.std.proofs.lemmas.Option.{slice_get_within, get_or_from_slice_get}
use Rattle.std.proofs.lemmas.Bool.Decides.{nat_tests}
use Rattle.yt_graph.specs.declared.ast.Word.{Word}
use Rattle.yt_graph.specs.declared.operator.OpHead.{OpHead}
use Rattle.yt_graph.specs.AstPicture.{AstExprTree, number, name, minus, negation, two_sides, paren, call_of, AstExprsTree, no_values, more_values}
use Rattle.yt_graph.specs.AstWellFormed.{ast_expr_depth, ast_exprs_depth}
use Rattle.yt_graph.specs.Picture.{ExprsTree, PortTree, GraphTree}
use Rattle.yt_graph.specs.WellFormed.{IsWithin, IsVarOf, IsFineExpr, AreFineExprs, expr_depth, exprs_depth, exprs_count}
use Rattle.yt_name_faults.specs.declared.fault.NameFault.TheVariants.{Unknown, Width}
use Rattle.yt_names.specs.declared.meant.Meant.{Meant}
use Rattle.yt_names.specs.declared.meant.Meant.TheVariants.{Local, Var, Nothing}
use Rattle.yt_name_faults.specs.First.{fault_if}
use Rattle.yt_table.specs.Tables.{first_of, is_among}
use Rattle.yt_name_faults.specs.Names.{var_names, op_names}
use Rattle.yt_name_faults.specs.Handlers.{Env, is_known, op_named, call_faults, values_count, expr_faults, exprs_faults}
use Rattle.yt_names.specs.Resolved.{Scope, NamedPlace, local_at, meant, meant_by, var_meant, read_of, place_of, number_of, call_head, call_at, resolved_expr, resolved_exprs}
use Rattle.yt_names.specs.Laws.{IsFineHead}
use Rattle.yt_names.proofs.WellFormedLemmas.{no_part, no_cause}

-- a number that 32 bits hold stays
pub place_stays : (n : ℕ) → n < 2 ^ 32 → place_of n ≡ n
place_stays n lt = by (nat_lt n (2 ^ 32)) refl
  where
    by : (b : Bool) → nat_lt n (2 ^ 32) ≡ b → (if b then n else 0) ≡ n
    by true e = refl
    by false e = absurd (grind (arith, nat_tests))

-- what is found stands within the list
pub found_within : (test : List ℕ → Bool) (base : ℕ) (names : List (List ℕ)) (k : ℕ) → position_from test base names ≡ Some k → (base ≤ k) × (k < base + length names)
found_within test base [] k e = absurd (cc)
found_within test base (x ∷ xs) k e = by (test x) refl (λ later. found_within test (base + 1) xs k later)
  where
    by : (b : Bool) → test x ≡ b → (position_from test (base + 1) xs ≡ Some k → (base + 1 ≤ k) × (k < base + 1 + length xs)) → (base ≤ k) × (k < base + length (x ∷ xs))
    by true t rest =
        let here : Some base ≡ Some k = sym (ap (λ c. cond c (Some base) (position_from test (base + 1) xs)) t) ∙ e in
        let same : base ≡ k = cc in
        (omega arith, omega arith)
    by false t rest =
        let later : position_from test (base + 1) xs ≡ Some k = sym (ap (λ c. cond c (Some base) (position_from test (base + 1) xs)) t) ∙ e in
        let h = rest later in
        (omega (arith, h.0), omega (arith, h.1))

-- as many values as expressions
pub count_stays : (scope : Scope) (visible : List NamedPlace) (es : AstExprsTree) → exprs_count (resolved_exprs scope visible es) ≡ values_count es
count_stays scope visible no_values = refl
count_stays scope visible (more_values e rest) = ap suc (count_stays scope visible rest)

holds : (b : Bool) → not b ≡ false → b ≡ true
holds true e = refl
holds false e = absurd (true≢false e)

-- a test of numbers that doesn't fail
equal : (a b : ℕ) → not (a == b) ≡ false → a ≡ b
equal a b e = grind (arith, nat_tests)

module _ (g : GraphTree) (p : PortTree) (scope : Scope) (env : Env)
    (vars_same : env.vars ≡ scope.vars) (ops_same : env.ops ≡ scope.ops)
    (vars_there : (k : ℕ) → k < length scope.vars → IsVarOf g p.process (place_of (scope.first + k)))
    (few_ops : length scope.ops < 2 ^ 32) (heads : All IsFineHead scope.ops) where
  at_head : (k : ℕ) (head : OpHead) → slice_get scope.ops k ≡ Some head → IsFineHead head
  at_head k head found = subst IsFineHead (get_or_from_slice_get scope.ops k head head found) (heads k head (slice_get_within scope.ops k head found))

  -- the names and the locals that are visible are the same, and the locals are the port's
  pub record AreTied (names : List (List ℕ)) (visible : List NamedPlace) : Type 0 where
    pub same : (word : List ℕ) → is_among word names ≡ is_some (local_at word visible)
    pub within : (word : List ℕ) (place : ℕ) → local_at word visible ≡ Some place → place < p.locals

  module _ (names : List (List ℕ)) (visible : List NamedPlace) (tied : AreTied names visible) where
    -- a name stands for a local of the port or a variable of the process
    abbrev pub IsFineMeant : Meant → Type 0
    IsFineMeant (Local place) = place < p.locals
    IsFineMeant (Var place) = IsVarOf g p.process place
    IsFineMeant Nothing = ⊥

    read_fine : (m : Meant) → IsFineMeant m → IsFineExpr g p (read_of m)
    read_fine (Local place) h = h
    read_fine (Var place) h = h
    read_fine Nothing h = absurd h

    var_fine : (word : List ℕ) (o : Option ℕ) → first_of word 0 (var_names scope.vars) ≡ o → is_some o ≡ true → IsFineMeant (var_meant scope.first o)
    var_fine word None e h = absurd (true≢false (sym h))
    var_fine word (Some k) e h =
        let w = found_within (bytes_eq word) 0 (var_names scope.vars) k e in
        vars_there k (omega (arith, w.1, length-map scope.vars (λ v. v.name.text)))

    pub name_fine : (word : List ℕ) → is_known env names word ≡ true → IsFineMeant (meant scope visible word)
    name_fine word known = by (local_at word visible) refl
      where
        by : (o : Option ℕ) → local_at word visible ≡ o → IsFineMeant (meant_by scope o word)
        by (Some place) e = tied.within word place e
        by None e =
            let none : is_among word names ≡ false = tied.same word ∙ ap is_some e in
            let found : is_some (first_of word 0 (var_names scope.vars)) ≡ true =
            ap (λ v. is_some (first_of word 0 (var_names v))) (sym vars_same) ∙ sym (ap (λ b. b || is_some (first_of word 0 (var_names env.vars))) none) ∙ known in
            var_fine word (first_of word 0 (var_names scope.vars)) refl found

    -- an operator's word with a fitting count calls it
    call_fine : (w : Word) (count : ℕ) (args : ExprsTree) (o : Option ℕ) → first_of w.text 0 (op_names scope.ops) ≡ o
        → call_faults w count (option_and_then (slice_get scope.ops) o) ≡ [] → exprs_count args ≡ count → AreFineExprs g p args
        → IsFineExpr g p (call_at scope.ops o args)
    call_fine w count args None e none same fine = absurd (cc)
    call_fine w count args (Some k) e none same fine = by (slice_get scope.ops k) refl
      where
        by : (h : Option OpHead) → slice_get scope.ops k ≡ h → IsFineExpr g p (call_head k h args)
        by None found = absurd (cc)
        by (Some head) found =
            let inside : k < length scope.ops = slice_get_within scope.ops k head found in
            let number : number_of k ≡ k + 1 = place_stays (k + 1) (omega (arith, few_ops)) in
            let fits : fault_if (not (head.args == count)) (Width w.place) ≡ [] = sym (ap (call_faults w count) found) ∙ none in
            let counted : head.args ≡ count = equal head.args count (no_cause (not (head.args == count)) (Width w.place) fits) in
            let table = at_head k head found in (
              omega (arith, number),
              table.2,
              table.1,
              subst (IsWithin 1 2) (counted ∙ sym same) table.0,
              fine,
            )

    pub known_word : (w : Word) → fault_if (not (is_known env names w.text)) (Unknown w.place) ≡ [] → IsFineMeant (meant scope visible w.text)
    known_word w e = name_fine w.text (holds (is_known env names w.text) (no_cause (not (is_known env names w.text)) (Unknown w.place) e))

    mutual
      pub expr_fine : (e : AstExprTree) → expr_faults env names e ≡ [] → IsFineExpr g p (resolved_expr scope visible e)
      expr_fine (number n) h = tt
      expr_fine (name w) h = read_fine (meant scope visible w.text) (known_word w h)
      expr_fine (minus e) h = expr_fine e h
      expr_fine (negation e) h = expr_fine e h
      expr_fine (two_sides op l r) h =
          let parts = no_part (expr_faults env names l) (expr_faults env names r) h in
          (expr_fine l parts.0, expr_fine r parts.1)
      expr_fine (paren e) h = expr_fine e h
      expr_fine (call_of w args) h =
          let parts = no_part (call_faults w (values_count args) (op_named env.ops w.text)) (exprs_faults env names args) h in
          call_fine w (values_count args) (resolved_exprs scope visible args) (first_of w.text 0 (op_names scope.ops)) refl
          (sym (ap (λ o. call_faults w (values_count args) (op_named o w.text)) ops_same) ∙ parts.0)
          (count_stays scope visible args) (exprs_fine args parts.1)

      pub exprs_fine : (es : AstExprsTree) → exprs_faults env names es ≡ [] → AreFineExprs g p (resolved_exprs scope visible es)
      exprs_fine no_values h = tt
      exprs_fine (more_values e rest) h =
          let parts = no_part (expr_faults env names e) (exprs_faults env names rest) h in
          (expr_fine e parts.0, exprs_fine rest parts.1)

-- what is resolved is no deeper than what was written
read_depth : (m : Meant) → expr_depth (read_of m) ≤ 1
read_depth (Local place) = omega arith
read_depth (Var place) = omega arith
read_depth Nothing = omega arith

head_depth : (k : ℕ) (h : Option OpHead) (args : ExprsTree) → expr_depth (call_head k h args) ≤ 1 + exprs_depth args
head_depth k None args = omega arith
head_depth k (Some head) args = omega arith

call_depth : (ops : List OpHead) (o : Option ℕ) (args : ExprsTree) → expr_depth (call_at ops o args) ≤ 1 + exprs_depth args
call_depth ops None args = omega arith
call_depth ops (Some k) args = head_depth k (slice_get ops k) args

mutual
  pub depth_falls : (scope : Scope) (visible : List NamedPlace) (e : AstExprTree) → expr_depth (resolved_expr scope visible e) ≤ ast_expr_depth e
  depth_falls scope visible (number n) = omega arith
  depth_falls scope visible (name w) = read_depth (meant scope visible w.text)
  depth_falls scope visible (minus e) = omega (arith, depth_falls scope visible e)
  depth_falls scope visible (negation e) = omega (arith, depth_falls scope visible e)
  depth_falls scope visible (two_sides op l r) = omega (arith, depth_falls scope visible l, depth_falls scope visible r)
  depth_falls scope visible (paren e) = omega (arith, depth_falls scope visible e)
  depth_falls scope visible (call_of w args) = omega (arith, call_depth scope.ops (first_of w.text 0 (op_names scope.ops)) (resolved_exprs scope visible args), depths_fall scope visible args)

  pub depths_fall : (scope : Scope) (visible : List NamedPlace) (es : AstExprsTree) → exprs_depth (resolved_exprs scope visible es) ≤ ast_exprs_depth es
  depths_fall scope visible no_values = omega arith
  depths_fall scope visible (more_values e rest) = omega (arith, depth_falls scope visible e, depths_fall scope visible rest)
