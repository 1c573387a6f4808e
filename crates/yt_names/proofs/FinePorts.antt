-- The handlers of all ports of a graph without faults name what is there.
use Rattle.std.proofs.Common.{◌≡◌, ℕ, zero, suc, ◌+◌, ◌-◌, ◌<◌, ◌≤◌, ◌^◌, List, [], ◌∷◌, ◌++◌, length, map, slice_get, Option, Some, None, refl, sym, ap, ◌∙◌, subst, arith}
use Rattle.std.specs.Prelude.{IsSomeAnd, ◌==◌}
use Rattle.std.specs.List.{All, flat_map}
use Rattle.std.proofs.lemmas.List.{length-append, length-map, append_assoc}
use Rattle.std.proofs.lemmas.List.Elements.{All-cons, All-nil, All-append}
use Rattle.yt_graph.specs.declared.graph.Var.{Var}
use Rattle.yt_graph.specs.declared.ast.Word.{Word}
use Rattle.yt_graph.specs.declared.ast.Num.{Num}
use Rattle.yt_graph.specs.declared.ast.VarDecl.{VarDecl}
use Rattle.yt_graph.specs.declared.ast.OutDecl.{OutDecl}
use Rattle.yt_graph.specs.declared.operator.OpHead.{OpHead}
use Rattle.yt_graph.specs.AstPicture.{PortDeclTree, ItemTree, input, output, resource, process, AstStmtTree, let_local, assign, send_on, when_only, when_else, turns, AstBlockTree, no_stmts, more_stmts}
use Rattle.yt_graph.specs.AstWellFormed.{IsWritablePort, IsWritableItem, IsWritableOut, ast_stmt_depth, ast_block_depth}
use Rattle.yt_graph.specs.Picture.{PortTree, GraphTree, ExprTree}
use Rattle.yt_graph.specs.WellFormed.{IsVarOf, IsFineOut, IsFineBlock, IsWithin, stmt_depth, block_depth}
use Rattle.yt_name_faults.specs.declared.fault.LimitKind as limit
use Rattle.yt_name_faults.specs.First.{fault_if}
use Rattle.yt_name_faults.specs.declared.fault.NameFault.TheVariants.{Cycle, Twice, Limit}
use Rattle.yt_names.specs.declared.meant.Meant.{Meant}
use Rattle.yt_names.specs.declared.meant.Meant.TheVariants.{Local, Var as Variable, Nothing}
use Rattle.yt_table.specs.Tables.{first_of, with_name}
use Rattle.yt_name_faults.specs.Names.{item_names, port_names, out_names}
use Rattle.yt_name_faults.specs.Paths.{placed_from, ports_of, ports_before, comes_back, source_width}
use Rattle.yt_name_faults.specs.declared.room.Room.{Room}
use Rattle.yt_name_faults.specs.Handlers.{Env, handler_faults, params_faults, block_faults, visible_params, local_faults, is_known, left_after, left_after_block}
use Rattle.yt_graph.specs.Limits.{most_outs}
use Rattle.yt_name_faults.specs.Faults.{declared_faults, width_faults, inside_faults, vars_faults, every_faults, range_faults, out_faults, outs_faults, port_faults, ports_faults, item_faults, items_faults, room_after, full_room, name_faults}
use Rattle.yt_names.specs.Laws.{AreFineHeads}
use Rattle.yt_names.specs.Resolved.{NamedPlace, Scope, locals_after, meant, set_of, count_of, every_of, out_head, resolved_expr, resolved_stmt, resolved_block, param_locals, place_of, size_of, var_of, vars_of, resource_name, resolved_port, resolved_ports_of, resolved_ports, resolved}
use Rattle.yt_names.proofs.WellFormedLemmas.{no_part, no_cause, in_range, has_room, counted}
use Rattle.yt_names.proofs.FineLemmas.{place_stays, AreTied}
use Rattle.yt_names.proofs.FineBlocks.{block_fine, tied_params, positive}
use Rattle.yt_names.proofs.ResolveLemmas.{block_falls}

pub all_head : {X : Type 0} (P : X → Type 0) (x : X) (xs : List X) → All P (x ∷ xs) → P x
all_head P x xs h = h 0 x (omega arith)

pub all_tail : {X : Type 0} (P : X → Type 0) (x : X) (xs : List X) → All P (x ∷ xs) → All P xs
all_tail P x xs h = λ k d lt. h (suc k) d (omega arith)

-- what stands behind others
behind : {X : Type 0} (before rest : List X) (k : ℕ) → slice_get (before ++ rest) (length before + k) ≡ slice_get rest k
behind [] rest k = ap (slice_get rest) (omega arith)
behind (x ∷ xs) rest k =
    let e : length (x ∷ xs) + k ≡ suc (length xs + k) = omega arith in
    ap (slice_get (x ∷ (xs ++ rest))) e ∙ behind xs rest k

var_at : (owner : List ℕ) (vars : List VarDecl) (after : List Var) (k : ℕ) → k < length vars → IsSomeAnd (slice_get (map (var_of owner) vars ++ after) k) (λ v. v.process ≡ owner)
var_at owner [] after k lt = absurd (omega arith)
var_at owner (v ∷ vs) after zero lt = refl
var_at owner (v ∷ vs) after (suc k) lt = var_at owner vs after k (omega arith)

outs_few : (outs : List OutDecl) (n left : ℕ) (rest : List OutDecl) → outs_faults outs n left rest ≡ [] → length rest ≤ left
outs_few outs n left [] e = omega arith
outs_few outs n left (o ∷ rest) e =
    let parts = no_part (out_faults outs n left o) (outs_faults outs (n + 1) (left - 1) rest) e in
    let one = has_room o.name n _ left limit.TheVariants.Outs (no_part _ _ parts.0).0 in
    omega (arith, one, outs_few outs (n + 1) (left - 1) rest parts.1)

outs_narrow : (outs : List OutDecl) (n left : ℕ) (rest : List OutDecl) → outs_faults outs n left rest ≡ [] → All (λ (o : OutDecl). size_of o.width.value ≤ 8) rest
outs_narrow outs n left [] e = All-nil _
outs_narrow outs n left (o ∷ rest) e =
    let parts = no_part (out_faults outs n left o) (outs_faults outs (n + 1) (left - 1) rest) e in
    let width = in_range 0 8 o.width limit.TheVariants.Width (no_part _ _ (no_part _ _ parts.0).1).0 in
    All-cons (λ (d : OutDecl). size_of d.width.value ≤ 8) o rest width.1 (outs_narrow outs (n + 1) (left - 1) rest parts.1)

params_few : (env : Env) (names : List (List ℕ)) (left : ℕ) (params : List Word) → params_faults env names left params ≡ [] → length params ≤ left
params_few env names left [] e = omega arith
params_few env names left (w ∷ rest) e =
    let parts = no_part (local_faults env names left w) (params_faults env (with_name w.text names) (left - 1) rest) e in
    let both = no_part (fault_if (is_known env names w.text) (Twice w.place)) (fault_if (left == 0) (Limit w.place limit.TheVariants.Locals)) parts.0 in
    omega (arith, positive left (no_cause (left == 0) (Limit w.place limit.TheVariants.Locals) both.1), params_few env (with_name w.text names) (left - 1) rest parts.1)

-- a number in a small range stays
pub small_stays : (n : Num) (low high : ℕ) → high ≤ 10000 → IsWithin low high (size_of n.value) → IsWithin low high (count_of n)
small_stays n low high few h = subst (IsWithin low high) (sym (place_stays (size_of n.value) (omega (arith, few, h.1)))) h

every_fine : (e : Option Num) → every_faults e ≡ [] → IsWithin 1 1000 (every_of e)
every_fine None h = (omega arith, omega arith)
every_fine (Some n) h = small_stays n 1 1000 (omega arith) (in_range 1 1000 n limit.TheVariants.Every h)

outs_fine : (outs : List OutDecl) (n left : ℕ) (rest : List OutDecl) → outs_faults outs n left rest ≡ [] → All IsWritableOut rest → All IsFineOut (map out_head rest)
outs_fine outs n left [] e written = All-nil _
outs_fine outs n left (o ∷ rest) e written =
    let parts = no_part (out_faults outs n left o) (outs_faults outs (n + 1) (left - 1) rest) e in
    let named = no_part (declared_faults o.name n (first_of o.name.text 0 (out_names outs)) left limit.TheVariants.Outs) _ parts.0 in
    let both = no_part (range_faults 0 8 o.width limit.TheVariants.Width) (every_faults o.every) named.1 in
    let width = small_stays o.width 0 8 (omega arith) (in_range 0 8 o.width limit.TheVariants.Width both.0) in
    All-cons IsFineOut (out_head o) (map out_head rest) ((all_head IsWritableOut o rest written).0, width.1, every_fine o.every both.1) (outs_fine outs (n + 1) (left - 1) rest parts.1 (all_tail IsWritableOut o rest written))

set_depth : (m : Meant) (e : ExprTree) → stmt_depth (set_of m e) ≡ 0
set_depth (Local place) e = refl
set_depth (Variable place) e = refl
set_depth Nothing e = refl

-- blocks that are resolved are no deeper than those that were written; the block of the handler itself counts as one
mutual
  stmt_falls_in : (scope : Scope) (v : List NamedPlace) (l : ℕ) (s : AstStmtTree) → stmt_depth (resolved_stmt scope v l s) ≤ ast_stmt_depth s
  stmt_falls_in scope v l (let_local w e) = omega arith
  stmt_falls_in scope v l (assign w e) = omega (arith, set_depth (meant scope v w.text) (resolved_expr scope v e))
  stmt_falls_in scope v l (send_on w es) = omega arith
  stmt_falls_in scope v l (when_only e first) = block_falls_in scope v l first
  stmt_falls_in scope v l (when_else e first second) = omega (arith, block_falls_in scope v l first, block_falls_in scope v (left_after_block l first) second)
  stmt_falls_in scope v l (turns e most body) = block_falls_in scope v l body

  block_falls_in : (scope : Scope) (v : List NamedPlace) (l : ℕ) (b : AstBlockTree) → block_depth (resolved_block scope v l b) ≤ 1 + ast_block_depth b
  block_falls_in scope v l no_stmts = omega arith
  block_falls_in scope v l (more_stmts s rest) = omega (arith, stmt_falls_in scope v l s, block_falls_in scope (locals_after v l s) (left_after l s) rest)

-- a handler's parameters are among its at most 16 locals, it has at most 8 outs, its blocks are no deeper than 8, and what it names is there
abbrev pub IsFineHandler : GraphTree → PortTree → Type 0
IsFineHandler g p =
    (p.params ≤ p.locals) × (p.locals ≤ 16)
    × (length p.outs ≤ 8) × All IsFineOut p.outs
    × (block_depth p.body ≤ 8) × IsFineBlock g p p.body

module _ (g : GraphTree) (all : List ItemTree) (ops : List OpHead) (few : length g.vars ≤ 256) (table : AreFineHeads ops) where
  port_fine : (owner key : List ℕ) (vars : List VarDecl) (ports : List PortDeclTree) (first number left : ℕ) (before after : List Var)
      → g.vars ≡ before ++ (map (var_of owner) vars ++ after) → (p : PortDeclTree) → port_faults all ops vars ports first number left p ≡ [] → IsWritablePort p
      → IsFineHandler g (resolved_port all owner key ops vars (length before) p)
  port_fine owner key vars ports first number left before after laid p none written =
      let env : Env = record { vars = vars; outs = p.outs; ops = ops } in
      let scope : Scope = record { first = length before; vars = vars; outs = p.outs; ops = ops } in
      let q = resolved_port all owner key ops vars (length before) p in
      let named = no_part (declared_faults p.name number (first_of p.name.text first (port_names ports)) left limit.TheVariants.Ports) _ none in
      let wide = no_part (width_faults p.name (length p.params) (source_width all p.source)) _ named.1 in
      let later = (no_part (fault_if (comes_back (ports_before all) number) (Cycle p.name.place)) _ wide.1).1 in
      let outs = no_part (outs_faults p.outs 0 most_outs p.outs) (handler_faults env p.params p.body) later in
      let handler = no_part (params_faults env [] 16 p.params) (block_faults env (visible_params [] p.params) (16 - length p.params) p.body) outs.1 in
      let final = left_after_block (16 - length p.params) p.body in
      let there : (k : ℕ) → k < length vars → IsVarOf g owner (place_of (length before + k)) = λ k lt.
      let total : length before + k < 2 ^ 32 = omega (arith, few, ap length laid, length-append before (map (var_of owner) vars ++ after), length-append (map (var_of owner) vars) after, length-map vars (var_of owner)) in
      subst (λ o. IsSomeAnd o (λ v. v.process ≡ owner))
      (sym (ap (slice_get g.vars) (place_stays (length before + k) total) ∙ ap (λ l. slice_get l (length before + k)) laid ∙ behind before (map (var_of owner) vars ++ after) k))
      (var_at owner vars after k lt) in
      let start : AreTied g q scope env refl refl there table.0 table.1 [] [] = record { same = λ word. refl; within = λ word place e. absurd (cc) } in
      let fewer = block_falls (16 - length p.params) p.body in
      let tied = tied_params g q scope env refl refl there table.0 table.1 refl refl (outs_few p.outs 0 8 p.outs outs.0) (outs_narrow p.outs 0 8 p.outs outs.0) final refl [] [] 16 start (omega arith) p.params (omega (arith, fewer)) handler.0 in
      let body = block_fine g q scope env refl refl there table.0 table.1 refl refl (outs_few p.outs 0 8 p.outs outs.0) (outs_narrow p.outs 0 8 p.outs outs.0) final refl
      (visible_params [] p.params) (param_locals [] 16 p.params) (16 - length p.params) tied (omega arith) p.body (omega arith) handler.1 written.5 in
      let params : length p.params ≤ 16 = params_few env [] 16 p.params handler.0 in (
        omega (arith, place_stays (length p.params) (omega (arith, params)), fewer, params),
        omega arith,
        omega (arith, length-map p.outs out_head, outs_few p.outs 0 8 p.outs outs.0),
        outs_fine p.outs 0 8 p.outs outs.0 written.3,
        omega (arith, block_falls_in scope (param_locals [] 16 p.params) (16 - length p.params) p.body, written.4),
        body,
      )

  ports_fine : (owner key : List ℕ) (vars : List VarDecl) (ports : List PortDeclTree) (first number left : ℕ) (before after : List Var)
      → g.vars ≡ before ++ (map (var_of owner) vars ++ after) → (rest : List PortDeclTree) → ports_faults all ops vars ports first number left rest ≡ [] → All IsWritablePort rest
      → All (IsFineHandler g) (map (resolved_port all owner key ops vars (length before)) rest)
  ports_fine owner key vars ports first number left before after laid [] none written = All-nil _
  ports_fine owner key vars ports first number left before after laid (p ∷ rest) none written =
      let parts = no_part (port_faults all ops vars ports first number left p) (ports_faults all ops vars ports first (number + 1) (left - 1) rest) none in
      All-cons (IsFineHandler g) (resolved_port all owner key ops vars (length before) p) (map (resolved_port all owner key ops vars (length before)) rest)
      (port_fine owner key vars ports first number left before after laid p parts.0 (all_head IsWritablePort p rest written))
      (ports_fine owner key vars ports first (number + 1) (left - 1) before after laid rest parts.1 (all_tail IsWritablePort p rest written))

  part_fine : (n k : ℕ) (room : Room) (before after : List Var) (i : ItemTree) → g.vars ≡ before ++ (vars_of i ++ after) → item_faults all ops n k room i ≡ [] → IsWritableItem i
      → All (IsFineHandler g) (resolved_ports_of all ops (length before) i)
  part_fine n k room before after (input i) laid none written = All-nil _
  part_fine n k room before after (output o) laid none written = All-nil _
  part_fine n k room before after (resource r) laid none written = All-nil _
  part_fine n k room before after (process p) laid none written =
      let named = no_part (declared_faults p.name n (first_of p.name.text 0 (item_names all)) room.processes limit.TheVariants.Processes) _ none in
      let within = no_part (inside_faults all p.inside) _ named.1 in
      let own = (no_part (vars_faults p.vars 0 room.vars p.vars) _ within.1).1 in
      ports_fine p.name.text (resource_name p.name p.inside) p.vars p.ports k k room.ports before after laid p.ports own written.3

  pub parts_fine : (n k : ℕ) (room : Room) (before : List Var) (rest : List ItemTree) → g.vars ≡ before ++ flat_map vars_of rest → items_faults all ops n room (placed_from k rest) ≡ []
      → All IsWritableItem rest → All (IsFineHandler g) (resolved_ports all ops (length before) rest)
  parts_fine n k room before [] laid none written = All-nil _
  parts_fine n k room before (i ∷ rest) laid none written =
      let parts = no_part (item_faults all ops n k room i) (items_faults all ops (n + 1) (room_after room i) (placed_from (k + length (ports_of i)) rest)) none in
      let fine = IsFineHandler g in
      let others = parts_fine (n + 1) (k + length (ports_of i)) (room_after room i) (before ++ vars_of i) rest (laid ∙ sym (append_assoc before (vars_of i) (flat_map vars_of rest))) parts.1 (all_tail IsWritableItem i rest written) in
      All-append fine (resolved_ports_of all ops (length before) i) (resolved_ports all ops (length before + length (vars_of i)) rest)
      (part_fine n k room before (flat_map vars_of rest) i laid parts.0 (all_head IsWritableItem i rest written))
      (subst (λ m. All fine (resolved_ports all ops m rest)) (length-append before (vars_of i)) others)

pub handlers_fine : (items : List ItemTree) (ops : List OpHead) → All IsWritableItem items → AreFineHeads ops → name_faults items ops ≡ [] → All (IsFineHandler (resolved items ops)) (resolved items ops).ports
unfolding name_faults resolved
handlers_fine items ops written table none = parts_fine (resolved items ops) items ops (counted items ops none).vars table 0 0 full_room [] items refl none written
