-- The graph of a tree without faults is well formed.
use Rattle.std.proofs.Common.{◌≡◌, ℕ, ◌+◌, ◌-◌, ◌≤◌, List, [], ◌∷◌, length, map, true, false, Option, Some, None, true≢false, bytes_eq, slice_get, IsSomeAnd, refl, sym, ap, ◌∙◌, subst, arith}
use Rattle.std.specs.Prelude.{IsTrue, Result, Ok, Err}
use Rattle.std.specs.List.{list_any, flat_map}
use Rattle.yt_graph.specs.declared.ast.Word.{Word}
use Rattle.yt_graph.specs.declared.ast.VarDecl.{VarDecl}
use Rattle.yt_graph.specs.declared.ast.OutDecl.{OutDecl}
use Rattle.yt_graph.specs.declared.ast.Path.{Path}
use Rattle.yt_graph.specs.declared.operator.OpHead.{OpHead}
use Rattle.yt_graph.specs.declared.port.OutHead.{OutHead}
use Rattle.yt_graph.specs.declared.graph as graph
use Rattle.yt_graph.specs.AstPicture.{PortDeclTree, ItemTree, input, output, resource, process}
use Rattle.yt_graph.specs.AstWellFormed.{IsName, IsWritablePort, IsWritableItem, IsWritable}
use Rattle.yt_graph.specs.Names.{is_name}
use Rattle.yt_graph.specs.Picture.{PortTree, GraphTree}
use Rattle.yt_graph.specs.WellFormed.{IsOutAnd, IsFineInput, IsFineOutput, IsFineVar, IsFinePort, IsFineGroup, IsUnderOne, IsFeedOfWidth, EndsWithin, AreDifferent, AreDifferentWithin, outer_names, block_uses_var, IsOwnGroup}
use Rattle.yt_name_faults.specs.declared.fault.NameFault.{NameFault}
use Rattle.yt_name_faults.specs.declared.target.Target.{Target}
use Rattle.yt_name_faults.specs.Names.{out_names}
use Rattle.yt_name_faults.specs.Paths.{look_up, all_ports, ports_of}
use Rattle.yt_name_faults.specs.Faults.{err_faults, name_faults}
use Rattle.yt_graph.specs.Limits.{most_locals}
use Rattle.yt_names.specs.Resolved.{size_of, count_of, number_of, out_head, inputs_of, resources_of, own_resource, own_resources_of, resolved_groups, var_of, vars_of, output_to, outputs_of, resource_name, param_locals, resolved_body, resolved_port, resolved_ports_of, resolved_ports, resolved}
use Rattle.yt_names.specs.Laws.{AreFineHeads, ResolvedIsWellFormed}
use Rattle.yt_names.proofs.WellFormedLemmas.{counted, ports_counted}
use Rattle.yt_names.proofs.FinePorts.{IsFineHandler, handlers_fine}
use Rattle.yt_names.proofs.formed.Lists.{Each, each_all, all_each, each_append, each_left, each_right, each_map}
use Rattle.yt_names.proofs.formed.Places.{kept_within, some_then}
use Rattle.yt_names.proofs.formed.Facts.{IsGoodPort, IsGoodItem, IsFaultless, faultless}
use Rattle.yt_names.proofs.formed.Names.{all_differ, processes_differ, processes_apart, resources_apart, of_ports, of_vars, pairs_differ, AreOwnDifferent, ports_sel, vars_sel, port_pairs_are, var_pairs_are}
use Rattle.yt_names.proofs.formed.Feeds.{IsFed, all_fed, leads, out_there, feed_there}
use Rattle.yt_names.proofs.formed.Chains.{IsEnded, all_ended, ends}
use Rattle.yt_names.proofs.formed.Groups.{IsKeyed, all_keyed, group_fine, IsGrouped, all_grouped, all_under_one}
use Rattle.yt_names.proofs.formed.Own.{own_group}
use Rattle.yt_names.proofs.formed.NoVars.{block_none}

-- what holds of each item by two rules
both : {X : Type 0} (P Q R : X → Type 0) → ((x : X) → P x → Q x → R x) → (xs : List X) → Each P xs → Each Q xs → Each R xs
both P Q R f [] a b = tt
both P Q R f (x ∷ xs) a b = (f x a.0 b.0, both P Q R f xs a.1 b.1)

-- the names of resources may name something
group_names : (items : List ItemTree) → Each IsWritableItem items → Each (λ name. IsTrue (is_name name)) (flat_map resources_of items)
group_names [] h = tt
group_names (input i ∷ rest) h = group_names rest h.1
group_names (output o ∷ rest) h = group_names rest h.1
group_names (resource r ∷ rest) h = (h.0, group_names rest h.1)
group_names (process p ∷ rest) h = group_names rest h.1

own_name : (w : Word) (inside : Option Word) (vars : List VarDecl) → IsName w → Each (λ name. IsTrue (is_name name)) (own_resource w inside vars)
own_name w (Some r) vars h = tt
own_name w None [] h = tt
own_name w None (v ∷ vs) h = (h, tt)

own_names : (items : List ItemTree) → Each IsWritableItem items → Each (λ name. IsTrue (is_name name)) (flat_map own_resources_of items)
own_names [] h = tt
own_names (input i ∷ rest) h = own_names rest h.1
own_names (output o ∷ rest) h = own_names rest h.1
own_names (resource r ∷ rest) h = own_names rest h.1
own_names (process p ∷ rest) h = each_append _ (own_resource p.name p.inside p.vars) (flat_map own_resources_of rest) (own_name p.name p.inside p.vars h.0.0) (own_names rest h.1)

-- inputs
inputs_fine : (all : List ItemTree) (ops : List OpHead) (items : List ItemTree) → Each IsWritableItem items → Each (IsGoodItem all ops) items → Each IsFineInput (flat_map inputs_of items)
inputs_fine all ops [] h g = tt
inputs_fine all ops (input i ∷ rest) h g =
    ((h.0.0, (kept_within 0 8 (size_of i.width.value) (omega arith) g.0.0).1, g.0.1), inputs_fine all ops rest h.1 g.1)
inputs_fine all ops (output o ∷ rest) h g = inputs_fine all ops rest h.1 g.1
inputs_fine all ops (resource r ∷ rest) h g = inputs_fine all ops rest h.1 g.1
inputs_fine all ops (process p ∷ rest) h g = inputs_fine all ops rest h.1 g.1

-- variables
vars_name : (owner : Word) → IsName owner → (vs : List VarDecl) → Each (λ v. IsName v.name) vs → Each (λ (v : graph.Var.Var). IsTrue (is_name v.process) × IsTrue (is_name v.name)) (map (var_of owner.text) vs)
vars_name owner h [] e = tt
vars_name owner h (v ∷ vs) e = ((h, e.0), vars_name owner h vs e.1)

vars_names : (items : List ItemTree) → Each IsWritableItem items → Each (λ (v : graph.Var.Var). IsTrue (is_name v.process) × IsTrue (is_name v.name)) (flat_map vars_of items)
vars_names [] h = tt
vars_names (input i ∷ rest) h = vars_names rest h.1
vars_names (output o ∷ rest) h = vars_names rest h.1
vars_names (resource r ∷ rest) h = vars_names rest h.1
vars_names (process p ∷ rest) h =
    each_append _ (map (var_of p.name.text) p.vars) (flat_map vars_of rest) (vars_name p.name h.0.0 p.vars (all_each (λ v. IsName v.name) p.vars h.0.2)) (vars_names rest h.1)

-- names of one process that differ, by what has no fault
ports_own : (all : List ItemTree) (ops : List OpHead) (i : ItemTree) → IsGoodItem all ops i → AreOwnDifferent ports_sel i
ports_own all ops (input i) h = tt
ports_own all ops (output o) h = tt
ports_own all ops (resource r) h = tt
ports_own all ops (process p) h = h.2

vars_own : (all : List ItemTree) (ops : List OpHead) (i : ItemTree) → IsGoodItem all ops i → AreOwnDifferent vars_sel i
vars_own all ops (input i) h = tt
vars_own all ops (output o) h = tt
vars_own all ops (resource r) h = tt
vars_own all ops (process p) h = h.1

-- the outs' names are those that are written
out_names_are : (outs : List OutDecl) → map (λ o. o.name) (map out_head outs) ≡ out_names outs
out_names_are [] = refl
out_names_are (o ∷ os) = ap (λ l. o.name.text ∷ l) (out_names_are os)

-- a handler that uses a variable is of a process that has one
some_vars : (vars : List VarDecl) (outs : List OutDecl) (ops : List OpHead) (first : ℕ) (p : PortDeclTree)
    → block_uses_var (resolved_body (record { first = first; vars = vars; outs = outs; ops = ops }) p.params p.body) ≡ true → vars ≡ [] → ⊥
some_vars vars outs ops first p used none =
    true≢false (sym used
    ∙ ap (λ v. block_uses_var (resolved_body (record { first = first; vars = v; outs = outs; ops = ops }) p.params p.body)) none
    ∙ block_none first outs ops (param_locals [] most_locals p.params) (most_locals - length p.params) p.body)

-- an out that is there, whatever else is said of it
out_any : (g : GraphTree) (port out : ℕ) (P : OutHead → Type 0) → IsOutAnd g port out P → IsOutAnd g port out (λ _. Unit {0})
out_any g port out P o = (
  o.0,
  o.1,
  o.2,
  o.3,
  some_then (λ (q : PortTree). IsSomeAnd (slice_get q.outs o.1) P) (λ (q : PortTree). IsSomeAnd (slice_get q.outs o.1) (λ _. Unit {0})) (slice_get g.ports o.0)
      (λ q s. some_then P (λ _. Unit {0}) (slice_get q.outs o.1) (λ x y. tt) s) o.4,
)

-- what is known of a port of the graph besides its handler and the others
abbrev IsPlaced : GraphTree → PortTree → Type 0
IsPlaced g p =
    IsTrue (is_name p.process) × IsTrue (is_name p.name)
    × IsFeedOfWidth g p.params p.feed × EndsWithin g (length g.ports) p.feed
    × AreDifferent (map (λ o. o.name) p.outs)
    × IsFineGroup g p (block_uses_var p.body)

module _ (all : List ItemTree) (ops : List OpHead) (none : name_faults all ops ≡ []) (written : IsWritable all) where
  known : IsFaultless all ops
  known = faultless all ops none

  each_written : Each IsWritableItem all
  each_written = all_each IsWritableItem all written

  few_ports : length (all_ports all) ≤ 64
  unfolding resolved
  few_ports = let c = counted all ops none in omega (arith, c.ports, ports_counted all ops 0 all)

  fed : Each (IsFed all) (all_ports all)
  fed = all_fed all ops all known.good

  output_fine : (w : Word) (path : Path) → IsName w → (r : Result Target NameFault) → look_up all path ≡ r → err_faults r ≡ [] → IsFineOutput (resolved all ops) (output_to w.text r)
  output_fine w path h (Err fault) same e = absurd (cc)
  output_fine w path h (Ok t) same e =
      (h, out_any (resolved all ops) (number_of t.port) (number_of t.out) (λ x. x.width ≡ count_of t.width) (out_there all ops fed few_ports t (leads all path t same)))

  outputs_fine : (items : List ItemTree) → Each IsWritableItem items → Each (IsGoodItem all ops) items → Each (IsFineOutput (resolved all ops)) (flat_map (outputs_of all) items)
  outputs_fine [] h g = tt
  outputs_fine (input i ∷ rest) h g = outputs_fine rest h.1 g.1
  outputs_fine (output o ∷ rest) h g = (output_fine o.name o.path h.0.0 (look_up all o.path) refl g.0, outputs_fine rest h.1 g.1)
  outputs_fine (resource r ∷ rest) h g = outputs_fine rest h.1 g.1
  outputs_fine (process p ∷ rest) h g = outputs_fine rest h.1 g.1

  port_placed : (w : Word) (inside : Option Word) (vars : List VarDecl) (first : ℕ) → IsName w → ((vars ≡ [] → ⊥) → list_any (bytes_eq (resource_name w inside)) (resolved_groups all) ≡ true)
      → (p : PortDeclTree) → IsWritablePort p → IsGoodPort all ops vars p → IsEnded all p.source → IsPlaced (resolved all ops) (resolved_port all w.text (resource_name w inside) ops vars first p)
  unfolding resolved
  port_placed w inside vars first h key p written_port good ended =
      let g = resolved all ops in
      let q = resolved_port all w.text (resource_name w inside) ops vars first p in
      let c = counted all ops none in
      let count : length (all_ports all) ≡ length (resolved_ports all ops 0 all) = sym (ports_counted all ops 0 all) in (
        h,
        written_port.0,
        feed_there all ops fed few_ports c.inputs p.name (length p.params) p.source good.width,
        subst (λ n. EndsWithin g n q.feed) count (ends all ops fed few_ports (length (all_ports all)) p.name (length p.params) p.source good.width ended),
        subst AreDifferent (sym (out_names_are p.outs)) good.differ,
        group_fine g q (resource_name w inside) (block_uses_var q.body) refl (λ used. key (some_vars vars p.outs ops first p used)) c.groups,
      )

  ports_placed : (w : Word) (inside : Option Word) (vars : List VarDecl) (first : ℕ) → IsName w → ((vars ≡ [] → ⊥) → list_any (bytes_eq (resource_name w inside)) (resolved_groups all) ≡ true)
      → (ps : List PortDeclTree) → Each IsWritablePort ps → Each (IsGoodPort all ops vars) ps → Each (λ p. IsEnded all p.source) ps
      → Each (IsPlaced (resolved all ops)) (map (resolved_port all w.text (resource_name w inside) ops vars first) ps)
  ports_placed w inside vars first h key [] a b c = tt
  ports_placed w inside vars first h key (p ∷ ps) a b c = (port_placed w inside vars first h key p a.0 b.0 c.0, ports_placed w inside vars first h key ps a.1 b.1 c.1)

  all_placed : (first : ℕ) (items : List ItemTree) → Each IsWritableItem items → Each (IsGoodItem all ops) items → Each (IsKeyed (resolved_groups all)) items
      → Each (λ p. IsEnded all p.source) (flat_map ports_of items) → Each (IsPlaced (resolved all ops)) (resolved_ports all ops first items)
  all_placed first [] h g k e = tt
  all_placed first (input i ∷ rest) h g k e = all_placed (first + 0) rest h.1 g.1 k.1 e
  all_placed first (output o ∷ rest) h g k e = all_placed (first + 0) rest h.1 g.1 k.1 e
  all_placed first (resource r ∷ rest) h g k e = all_placed (first + 0) rest h.1 g.1 k.1 e
  all_placed first (process q ∷ rest) h g k e =
      each_append _ (resolved_ports_of all ops first (process q)) (resolved_ports all ops (first + length (vars_of (process q))) rest)
      (ports_placed q.name q.inside q.vars first h.0.0 k.0 q.ports (all_each IsWritablePort q.ports h.0.3) g.0.3 (each_left (λ p. IsEnded all p.source) q.ports (flat_map ports_of rest) e))
      (all_placed (first + length (vars_of (process q))) rest h.1 g.1 k.1 (each_right (λ p. IsEnded all p.source) q.ports (flat_map ports_of rest) e))

  -- so each port is fine
  ports_fine : AreFineHeads ops → Each (IsFinePort (resolved all ops)) (resolved_ports all ops 0 all)
  unfolding resolved
  ports_fine heads =
      let g = resolved all ops in
      let ports = resolved_ports all ops 0 all in
      let handlers = all_each (IsFineHandler g) ports (handlers_fine all ops written heads none) in
      let under = all_under_one all ops (processes_differ all known.differ) in
      let placed = all_placed 0 all each_written known.good (all_keyed all ops all (λ y e. e) known.good) (all_ended all known.back) in
      both (λ p. IsPlaced g p × Each (IsUnderOne p) ports) (IsFineHandler g) (IsFinePort g)
      (λ p a b. (a.0.0, a.0.1, a.0.2, a.0.3, b.0, b.1, b.2, a.0.4, b.3, b.4, b.5, a.0.5, each_all (IsUnderOne p) ports a.1)) ports
      (both (IsPlaced g) (λ p. Each (IsUnderOne p) ports) (λ p. IsPlaced g p × Each (IsUnderOne p) ports) (λ p a b. (a, b)) ports placed under)
      handlers

-- the law
pub resolved_is_formed : ResolvedIsWellFormed
unfolding resolved
resolved_is_formed all ops written heads none =
    let g = resolved all ops in
    let k = known all ops none written in
    let w = each_written all ops none written in
    let apart_outer = processes_apart all all k.differ in
    let fine_vars =
    both (λ (v : graph.Var.Var). IsTrue (is_name v.process) × IsTrue (is_name v.name)) (λ (v : graph.Var.Var). list_any (bytes_eq v.process) (outer_names g) ≡ false) (IsFineVar g)
    (λ v a b. (a.0, a.1, b)) (flat_map vars_of all) (vars_names all w) (of_vars (λ y. list_any (bytes_eq y) (outer_names g) ≡ false) all apart_outer) in
    let own =
    both (IsGrouped all (resolved_groups all)) (λ (p : PortTree). list_any (bytes_eq p.process) (flat_map resources_of all) ≡ false) (IsOwnGroup g)
    (λ p a b. own_group all p (processes_differ all k.differ) (counted all ops none).groups a b) (resolved_ports all ops 0 all)
    (all_grouped all ops (processes_differ all k.differ)) (of_ports (λ y. list_any (bytes_eq y) (flat_map resources_of all) ≡ false) all ops 0 all (resources_apart all k.differ)) in
    record {
      counts = counted all ops none;
      names = all_differ all all k.differ;
      group_names = each_all _ (resolved_groups all) (each_append _ (flat_map resources_of all) (flat_map own_resources_of all) (group_names all w) (own_names all w));
      processes = each_all _ (resolved_ports all ops 0 all) (of_ports (λ y. list_any (bytes_eq y) (outer_names g) ≡ false) all ops 0 all apart_outer);
      own_groups = each_all (IsOwnGroup g) (resolved_ports all ops 0 all) own;
      port_names = subst AreDifferentWithin (sym (port_pairs_are all ops 0 all)) (pairs_differ ports_sel all (processes_differ all k.differ) (each_map (IsGoodItem all ops) (AreOwnDifferent ports_sel) (ports_own all ops) all k.good));
      var_names = subst AreDifferentWithin (sym (var_pairs_are all)) (pairs_differ vars_sel all (processes_differ all k.differ) (each_map (IsGoodItem all ops) (AreOwnDifferent vars_sel) (vars_own all ops) all k.good));
      each_input = each_all IsFineInput (flat_map inputs_of all) (inputs_fine all ops all w k.good);
      each_output = each_all (IsFineOutput g) (flat_map (outputs_of all) all) (outputs_fine all ops none written all w k.good);
      each_var = each_all (IsFineVar g) (flat_map vars_of all) fine_vars;
      each_port = each_all (IsFinePort g) (resolved_ports all ops 0 all) (ports_fine all ops none written heads);
    }
