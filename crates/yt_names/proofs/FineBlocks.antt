-- Statements of a handler without faults name what is there.
use Rattle.std.proofs.Common.{◌≡◌, ℕ, suc, ◌+◌, ◌-◌, ◌<◌, ◌≤◌, ◌^◌, List, [], ◌∷◌, ◌++◌, length, map, slice_get, Bool, true, false, not, ◌||◌, is_some, Option, Some, None, true≢false, refl, sym, ap, ◌∙◌, subst, arith, if◌then◌else◌}
use Rattle.std.specs.Prelude.{◌==◌, ℤ, pos, IsSomeAnd, bytes_eq}
use Rattle.std.specs.List.{All}
use Rattle.std.specs.Option.{option_and_then, option_map}
use Rattle.std.specs.Ordering.{int_eq}
use Rattle.std.proofs.lemmas.List.Folds.{list_any-append}
use Rattle.std.proofs.lemmas.Option.{slice_get_within, get_or_from_slice_get, slice_get-map}
use Rattle.std.proofs.lemmas.Bool.Decides.{nat_tests, Decides-int_eq}
use Rattle.yt_graph.specs.declared.ast.Word.{Word}
use Rattle.yt_graph.specs.declared.ast.Num.{Num}
use Rattle.yt_graph.specs.declared.ast.OutDecl.{OutDecl}
use Rattle.yt_graph.specs.declared.port.OutHead.{OutHead}
use Rattle.yt_graph.specs.AstPicture.{AstExprTree, AstStmtTree, let_local, assign, send_on, when_only, when_else, turns, AstBlockTree, no_stmts, more_stmts}
use Rattle.yt_graph.specs.AstWellFormed.{IsWritableStmt, IsWritableBlock, IsWritableValue}
use Rattle.yt_graph.specs.Picture.{ExprTree, PortTree, GraphTree}
use Rattle.yt_graph.specs.WellFormed.{IsWithin, IsVarOf, IsFineValue, IsFineStmt, IsFineBlock, IsOutOfWidth}
use Rattle.yt_name_faults.specs.declared.fault.NameFault.TheVariants.{Unknown, Twice, Width, Limit}
use Rattle.yt_name_faults.specs.declared.fault.LimitKind.TheVariants.{Locals, Turns}
use Rattle.yt_names.specs.declared.meant.Meant.{Meant}
use Rattle.yt_names.specs.declared.meant.Meant.TheVariants.{Local, Var, Nothing}
use Rattle.yt_name_faults.specs.First.{fault_if}
use Rattle.yt_table.specs.Tables.{first_of, is_among, with_name}
use Rattle.yt_name_faults.specs.Names.{out_names}
use Rattle.yt_name_faults.specs.Handlers.{Env, is_known, out_named, send_faults, values_count, expr_faults, exprs_faults, local_faults, stmt_faults, block_faults, params_faults, visible_params, left_after, left_after_block, visible_after, is_outside}
use Rattle.yt_names.specs.Resolved.{Scope, NamedPlace, local_at, with_local, param_locals, locals_after, meant, set_of, out_head, out_number, place_of, number_of, size_of, count_of, resolved_expr, resolved_stmt, resolved_block}
use Rattle.yt_names.specs.Laws.{IsFineHead}
use Rattle.yt_names.proofs.WellFormedLemmas.{no_part, no_cause, in_range}
use Rattle.yt_names.proofs.FineLemmas.{place_stays, count_stays, depth_falls, depths_fall, AreTied, IsFineMeant, known_word, expr_fine, exprs_fine}
use Rattle.yt_names.proofs.ResolveLemmas.{left_falls, block_falls}

pub positive : (left : ℕ) → (left == 0) ≡ false → 1 ≤ left
positive left e = grind (arith, nat_tests)

-- one local more
local_more : (word text : List ℕ) (place : ℕ) (v : List NamedPlace)
    → local_at word (v ++ record { text = text; place = place } ∷ []) ≡ (if is_some (local_at word v) then local_at word v else (if bytes_eq word text then Some place else None))
local_more word text place [] = refl
local_more word text place (l ∷ ls) = by (bytes_eq word l.text) (local_more word text place ls)
  where
    by : (b : Bool) → local_at word (ls ++ record { text = text; place = place } ∷ []) ≡ (if is_some (local_at word ls) then local_at word ls else (if bytes_eq word text then Some place else None))
        → (if b then Some l.place else local_at word (ls ++ record { text = text; place = place } ∷ []))
        ≡ (if is_some (if b then Some l.place else local_at word ls) then (if b then Some l.place else local_at word ls) else (if bytes_eq word text then Some place else None))
    by true h = refl
    by false h = h

among_more : (word text : List ℕ) (names : List (List ℕ)) → is_among text names ≡ false → is_among word (with_name text names) ≡ (is_among word names || bytes_eq word text)
among_more word text names none =
    ap (λ b. is_among word (if b then names else names ++ text ∷ [])) none
    ∙ list_any-append (bytes_eq word) names (text ∷ [])
    ∙ ap (λ b. is_among word names || b) (by (bytes_eq word text))
  where
    by : (b : Bool) → (b || false) ≡ b
    by true = refl
    by false = refl

equal_ints : (a b : ℤ) → not (int_eq a b) ≡ false → a ≡ b
equal_ints a b e = (Decides-int_eq a b).0 (by (int_eq a b) e)
  where
    by : (c : Bool) → not c ≡ false → c ≡ true
    by true h = refl
    by false h = absurd (true≢false h)

one_more : (k : ℕ) → k + 1 ≡ suc k
one_more k = omega arith

first_false : (a b : Bool) → (a || b) ≡ false → a ≡ false
first_false true b e = e
first_false false b e = refl

module _ (g : GraphTree) (p : PortTree) (scope : Scope) (env : Env)
    (vars_same : env.vars ≡ scope.vars) (ops_same : env.ops ≡ scope.ops)
    (vars_there : (k : ℕ) → k < length scope.vars → IsVarOf g p.process (place_of (scope.first + k)))
    (few_ops : length scope.ops < 2 ^ 32) (heads : All IsFineHead scope.ops)
    (outs_same : env.outs ≡ scope.outs) (outs_are : p.outs ≡ map out_head scope.outs)
    (few_outs : length scope.outs ≤ 8) (widths : All (λ (o : OutDecl). size_of o.width.value ≤ 8) scope.outs)
    (final : ℕ) (counted : p.locals ≡ 16 - final) where
  -- a new local ties names and locals as before
  pub tied_more : (names : List (List ℕ)) (visible : List NamedPlace) (left : ℕ) (w : Word)
      → AreTied g p scope env vars_same ops_same vars_there few_ops heads names visible
      → is_among w.text names ≡ false → 16 - left < p.locals
      → AreTied g p scope env vars_same ops_same vars_there few_ops heads (with_name w.text names) (with_local visible left w.text)
  tied_more names visible left w tied none within = record {
    same = λ word. among_more word w.text names none ∙ ap (λ b. b || bytes_eq word w.text) (tied.same word)
        ∙ some_of (local_at word visible) (bytes_eq word w.text) ∙ ap is_some (sym (local_more word w.text (16 - left) visible));
    within = λ word place e. bound (local_at word visible) (bytes_eq word w.text) place (λ q h. tied.within word q h) refl (sym (local_more word w.text (16 - left) visible) ∙ e);
  }
    where
      some_of : (o : Option ℕ) (b : Bool) → (is_some o || b) ≡ is_some (if is_some o then o else (if b then Some (16 - left) else None))
      some_of (Some n) b = refl
      some_of None true = refl
      some_of None false = refl

      bound : (o : Option ℕ) (b : Bool) (place : ℕ) → ((q : ℕ) → o ≡ Some q → q < p.locals) → o ≡ o
          → (if is_some o then o else (if b then Some (16 - left) else None)) ≡ Some place → place < p.locals
      bound (Some n) b place h same e = h place e
      bound None true place h same e = let at : 16 - left ≡ place = cc in subst (λ q. q < p.locals) at within
      bound None false place h same e = absurd (cc)

  -- a statement of a handler that has so many locals in all
  module _ (names : List (List ℕ)) (visible : List NamedPlace) (tied : AreTied g p scope env vars_same ops_same vars_there few_ops heads names visible) where
    value_fine : (e : AstExprTree) → expr_faults env names e ≡ [] → IsWritableValue e → IsFineValue g p (resolved_expr scope visible e)
    value_fine e h w =
        (omega (arith, depth_falls scope visible e, w.0), expr_fine g p scope env vars_same ops_same vars_there few_ops heads names visible tied e h)

    set_fine : (m : Meant) (e : ExprTree) → IsFineMeant g p scope env vars_same ops_same vars_there few_ops heads names visible tied m → IsFineValue g p e → IsFineStmt g p (set_of m e)
    set_fine (Local place) e h v = (h, v)
    set_fine (Var place) e h v = (h, v)
    set_fine Nothing e h v = absurd h

    -- an out with a fitting count of values
    pub out_fine : (w : Word) (count : ℕ) (o : Option ℕ) → first_of w.text 0 (out_names scope.outs) ≡ o → send_faults w count (option_and_then (slice_get scope.outs) o) ≡ []
        → IsOutOfWidth p (out_number o) count
    out_fine w count None e none = absurd (cc)
    out_fine w count (Some k) e none = by (slice_get scope.outs k) refl
      where
        by : (d : Option OutDecl) → slice_get scope.outs k ≡ d → IsOutOfWidth p (number_of k) count
        by None found = absurd (cc)
        by (Some out) found =
            let inside : k < length scope.outs = slice_get_within scope.outs k out found in
            let number : number_of k ≡ k + 1 = place_stays (k + 1) (omega (arith, few_outs)) in
            let fits : fault_if (not (int_eq out.width.value (pos count))) (Width w.place) ≡ [] = sym (ap (send_faults w count) found) ∙ none in
            let same : out.width.value ≡ pos count = equal_ints out.width.value (pos count) (no_cause (not (int_eq out.width.value (pos count))) (Width w.place) fits) in
            let small : size_of out.width.value ≤ 8 = subst (λ (d : OutDecl). size_of d.width.value ≤ 8) (get_or_from_slice_get scope.outs k out out found) (widths k out inside) in
            let few : count ≤ 8 = subst (λ v. size_of v ≤ 8) same small in
            let width : (out_head out).width ≡ count = ap (λ v. place_of (size_of v)) same ∙ place_stays count (omega (arith, few)) in
            let there : slice_get p.outs k ≡ Some (out_head out) = ap (λ l. slice_get l k) outs_are ∙ slice_get-map out_head scope.outs k ∙ ap (option_map out_head) found in
            (k, number ∙ one_more k, subst (λ (r : Option OutHead). IsSomeAnd r (λ h. h.width ≡ count)) (sym there) width)

  abbrev Tied : List (List ℕ) → List NamedPlace → Type 0
  Tied names visible = AreTied g p scope env vars_same ops_same vars_there few_ops heads names visible

  -- the place of a new local is one of the port's
  new_inside : (left : ℕ) → left ≤ 16 → 1 ≤ left → final ≤ left - 1 → 16 - left < p.locals
  new_inside left few some h = omega (arith, counted)

  tied_after : (names : List (List ℕ)) (visible : List NamedPlace) (left : ℕ) → Tied names visible → left ≤ 16 → (s : AstStmtTree)
      → final ≤ left_after left s → stmt_faults env names left s ≡ [] → Tied (visible_after names s) (locals_after visible left s)
  tied_after names visible left tied few (let_local w e) h none =
      let both = no_part (fault_if (is_known env names w.text) (Twice w.place)) (fault_if (left == 0) (Limit w.place Locals)) (no_part (local_faults env names left w) (expr_faults env names e) none).0 in
      let new : is_among w.text names ≡ false = first_false (is_among w.text names) _ (no_cause (is_known env names w.text) (Twice w.place) both.0) in
      tied_more names visible left w tied new (new_inside left few (positive left (no_cause (left == 0) (Limit w.place Locals) both.1)) h)
  tied_after names visible left tied few (assign w e) h none = tied
  tied_after names visible left tied few (send_on w es) h none = tied
  tied_after names visible left tied few (when_only e first) h none = tied
  tied_after names visible left tied few (when_else e first second) h none = tied
  tied_after names visible left tied few (turns e most body) h none = tied

  turns_fine : (most : Num) → fault_if (is_outside 1 10000 most.value) (Limit most.place Turns) ≡ [] → IsWithin 1 10000 (count_of most)
  turns_fine most none =
      let h : IsWithin 1 10000 (size_of most.value) = in_range 1 10000 most Turns none in
      subst (IsWithin 1 10000) (sym (place_stays (size_of most.value) (omega (arith, h.1)))) h

  mutual
    pub stmt_fine : (names : List (List ℕ)) (visible : List NamedPlace) (left : ℕ) → Tied names visible → left ≤ 16 → (s : AstStmtTree)
        → final ≤ left_after left s → stmt_faults env names left s ≡ [] → IsWritableStmt s → IsFineStmt g p (resolved_stmt scope visible left s)
    stmt_fine names visible left tied few (let_local w e) h none written =
        let parts = no_part (local_faults env names left w) (expr_faults env names e) none in
        let both = no_part (fault_if (is_known env names w.text) (Twice w.place)) (fault_if (left == 0) (Limit w.place Locals)) parts.0 in
        (new_inside left few (positive left (no_cause (left == 0) (Limit w.place Locals) both.1)) h, value_fine names visible tied e parts.1 written.1)
    stmt_fine names visible left tied few (assign w e) h none written =
        let parts = no_part (fault_if (not (is_known env names w.text)) (Unknown w.place)) (expr_faults env names e) none in
        set_fine names visible tied (meant scope visible w.text) (resolved_expr scope visible e)
        (known_word g p scope env vars_same ops_same vars_there few_ops heads names visible tied w parts.0) (value_fine names visible tied e parts.1 written.1)
    stmt_fine names visible left tied few (send_on w es) h none written =
        let parts = no_part (send_faults w (values_count es) (out_named env.outs w.text)) (exprs_faults env names es) none in
        let out = out_fine names visible tied w (values_count es) (first_of w.text 0 (out_names scope.outs)) refl (sym (ap (λ o. send_faults w (values_count es) (out_named o w.text)) outs_same) ∙ parts.0) in (
          subst (IsOutOfWidth p (out_number (first_of w.text 0 (out_names scope.outs)))) (sym (count_stays scope visible es)) out,
          (omega (arith, depths_fall scope visible es, written.1), exprs_fine g p scope env vars_same ops_same vars_there few_ops heads names visible tied es parts.1),
        )
    stmt_fine names visible left tied few (when_only e first) h none written =
        let parts = no_part (expr_faults env names e) (block_faults env names left first) none in
        (value_fine names visible tied e parts.0 written.0, block_fine names visible left tied few first h parts.1 written.1)
    stmt_fine names visible left tied few (when_else e first second) h none written =
        let parts = no_part (expr_faults env names e) (block_faults env names left first ++ block_faults env names (left_after_block left first) second) none in
        let both = no_part (block_faults env names left first) (block_faults env names (left_after_block left first) second) parts.1 in
        let less = block_falls left first in
        let least = block_falls (left_after_block left first) second in (
          value_fine names visible tied e parts.0 written.0,
          block_fine names visible left tied few first (omega (arith, h, least)) both.0 written.1,
          block_fine names visible (left_after_block left first) tied (omega (arith, few, less)) second h both.1 written.2,
        )
    stmt_fine names visible left tied few (turns e most body) h none written =
        let parts = no_part (expr_faults env names e) (fault_if (is_outside 1 10000 most.value) (Limit most.place Turns) ++ block_faults env names left body) none in
        let both = no_part (fault_if (is_outside 1 10000 most.value) (Limit most.place Turns)) (block_faults env names left body) parts.1 in
        (value_fine names visible tied e parts.0 written.0, turns_fine most both.0, block_fine names visible left tied few body h both.1 written.2)

    pub block_fine : (names : List (List ℕ)) (visible : List NamedPlace) (left : ℕ) → Tied names visible → left ≤ 16 → (b : AstBlockTree)
        → final ≤ left_after_block left b → block_faults env names left b ≡ [] → IsWritableBlock b → IsFineBlock g p (resolved_block scope visible left b)
    block_fine names visible left tied few no_stmts h none written = tt
    block_fine names visible left tied few (more_stmts s rest) h none written =
        let parts = no_part (stmt_faults env names left s) (block_faults env (visible_after names s) (left_after left s) rest) none in
        let here : final ≤ left_after left s = omega (arith, h, block_falls (left_after left s) rest) in (
          stmt_fine names visible left tied few s here parts.0 written.0,
          block_fine (visible_after names s) (locals_after visible left s) (left_after left s) (tied_after names visible left tied few s here parts.0) (omega (arith, few, left_falls left s)) rest h parts.1 written.1,
        )

  -- parameters are tied as locals are
  pub tied_params : (names : List (List ℕ)) (visible : List NamedPlace) (left : ℕ) → Tied names visible → left ≤ 16 → (params : List Word)
      → final ≤ left - length params → params_faults env names left params ≡ [] → Tied (visible_params names params) (param_locals visible left params)
  tied_params names visible left tied few [] h none = tied
  tied_params names visible left tied few (w ∷ rest) h none =
      let parts = no_part (local_faults env names left w) (params_faults env (with_name w.text names) (left - 1) rest) none in
      let both = no_part (fault_if (is_known env names w.text) (Twice w.place)) (fault_if (left == 0) (Limit w.place Locals)) parts.0 in
      let new : is_among w.text names ≡ false = first_false (is_among w.text names) _ (no_cause (is_known env names w.text) (Twice w.place) both.0) in
      let some = positive left (no_cause (left == 0) (Limit w.place Locals) both.1) in
      let less : final ≤ left - 1 = omega (arith, h) in
      let rest_less : final ≤ left - 1 - length rest = omega (arith, h) in
      tied_params (with_name w.text names) (with_local visible left w.text) (left - 1) (tied_more names visible left w tied new (new_inside left few some less)) (omega (arith, few)) rest rest_less parts.1
