-- Names of a graph that differ where those of its parts do.
use Rattle.std.proofs.Common.{◌≡◌, ℕ, ◌+◌, List, [], ◌∷◌, ◌++◌, length, map, Bool, false, ◌⊎◌, inl, inr, Option, Some, None, bytes_eq, refl, sym, ap, ◌∙◌, subst, append_assoc}
use Rattle.std.specs.Prelude.{Result, Ok, Err}
use Rattle.std.specs.List.{list_any, flat_map}
use Rattle.yt_graph.specs.declared.ast.Word.{Word}
use Rattle.yt_graph.specs.declared.ast.VarDecl.{VarDecl}
use Rattle.yt_graph.specs.declared.operator.OpHead.{OpHead}
use Rattle.yt_graph.specs.declared.graph as graph
use Rattle.yt_graph.specs.AstPicture.{PortDeclTree, ItemTree, input, output, resource, process}
use Rattle.yt_graph.specs.Picture.{PortTree}
use Rattle.yt_graph.specs.WellFormed.{AreDifferent, AreDifferentWithin}
use Rattle.yt_name_faults.specs.declared.fault.NameFault.{NameFault}
use Rattle.yt_name_faults.specs.declared.target.Target.{Target}
use Rattle.yt_graph.specs.ItemNames.{item_name}
use Rattle.yt_name_faults.specs.Names.{item_names, port_names, var_names}
use Rattle.yt_name_faults.specs.Paths.{look_up}
use Rattle.yt_names.specs.Resolved.{inputs_of, resources_of, own_resource, own_resources_of, var_of, vars_of, outputs_of, output_to, resource_name, resolved_port, resolved_ports_of, resolved_ports}
use Rattle.yt_names.proofs.formed.Lists.{Each, each_append, each_right, each_mapped, each_of, both_fail, neither_holds, none_append, none_each, one_more, different_right, apart, owner_joins}

-- the names of inputs, of outputs, and of processes by their words
abbrev pub in_name : ItemTree → List (List ℕ)
in_name (input i) = i.name.text ∷ []
in_name (output o) = []
in_name (resource r) = []
in_name (process p) = []

abbrev pub out_name : ItemTree → List (List ℕ)
out_name (input i) = []
out_name (output o) = o.name.text ∷ []
out_name (resource r) = []
out_name (process p) = []

abbrev pub by_process : (Word → Option Word → List VarDecl → List (List ℕ)) → ItemTree → List (List ℕ)
by_process d (input i) = []
by_process d (output o) = []
by_process d (resource r) = []
by_process d (process p) = d p.name p.inside p.vars

abbrev pub its_name : Word → Option Word → List VarDecl → List (List ℕ)
its_name w inside vars = w.text ∷ []

-- the names of processes
abbrev pub process_name : ItemTree → List (List ℕ)
process_name i = by_process its_name i

-- a part of the names that has at most its own of each item
abbrev IsPart : (ItemTree → List (List ℕ)) → Type 0
IsPart K = (i : ItemTree) → (K i ≡ []) ⊎ (K i ≡ item_name i ∷ [])

-- what the names have none of, a part of them has none of
none_of : (K : ItemTree → List (List ℕ)) → IsPart K → (t : List ℕ → Bool) (items : List ItemTree) → list_any t (item_names items) ≡ false → list_any t (flat_map K items) ≡ false
none_of K part t [] e = refl
none_of K part t (i ∷ rest) e =
    let p = both_fail (t (item_name i)) (list_any t (item_names rest)) e in
    none_append t (K i) (flat_map K rest) (by (K i) (part i) p.0) (none_of K part t rest p.1)
  where
    by : (xs : List (List ℕ)) → (xs ≡ []) ⊎ (xs ≡ item_name i ∷ []) → t (item_name i) ≡ false → list_any t xs ≡ false
    by xs (inl h) n = ap (list_any t) h
    by xs (inr h) n = ap (list_any t) h ∙ neither_holds (t (item_name i)) false n refl

-- such parts
in_part : IsPart in_name
in_part (input i) = inr refl
in_part (output o) = inl refl
in_part (resource r) = inl refl
in_part (process p) = inl refl

out_part : IsPart out_name
out_part (input i) = inl refl
out_part (output o) = inr refl
out_part (resource r) = inl refl
out_part (process p) = inl refl

resource_part : IsPart resources_of
resource_part (input i) = inl refl
resource_part (output o) = inl refl
resource_part (resource r) = inr refl
resource_part (process p) = inl refl

-- inputs, outputs, resources and what processes add have names that differ
module _ (d : Word → Option Word → List VarDecl → List (List ℕ)) (one : (w : Word) (inside : Option Word) (vars : List VarDecl) → (d w inside vars ≡ []) ⊎ (d w inside vars ≡ w.text ∷ [])) where
  process_part : IsPart (by_process d)
  process_part (input i) = inl refl
  process_part (output o) = inl refl
  process_part (resource r) = inl refl
  process_part (process p) = one p.name p.inside p.vars

  abbrev kinds : List ItemTree → List (List ℕ)
  kinds items = (flat_map in_name items ++ flat_map out_name items) ++ (flat_map resources_of items ++ flat_map (by_process d) items)

  absent : (t : List ℕ → Bool) (items : List ItemTree) → list_any t (item_names items) ≡ false → list_any t (kinds items) ≡ false
  absent t items e =
      none_append t (flat_map in_name items ++ flat_map out_name items) (flat_map resources_of items ++ flat_map (by_process d) items)
      (none_append t (flat_map in_name items) (flat_map out_name items) (none_of in_name in_part t items e) (none_of out_name out_part t items e))
      (none_append t (flat_map resources_of items) (flat_map (by_process d) items) (none_of resources_of resource_part t items e) (none_of (by_process d) process_part t items e))

  second_more : (a b r : List (List ℕ)) (y : List ℕ) → AreDifferent ((a ++ b) ++ r) → list_any (bytes_eq y) ((a ++ b) ++ r) ≡ false → AreDifferent ((a ++ y ∷ b) ++ r)
  second_more a b r y h n =
      subst AreDifferent (sym (append_assoc a (y ∷ b) r)) (one_more a (b ++ r) y (subst AreDifferent (append_assoc a b r) h) (subst (λ l. list_any (bytes_eq y) l ≡ false) (append_assoc a b r) n))

  last_more : (a c e : List (List ℕ)) (y : List ℕ) → AreDifferent (a ++ (c ++ e)) → list_any (bytes_eq y) (a ++ (c ++ e)) ≡ false → AreDifferent (a ++ (c ++ y ∷ e))
  last_more a c e y h n =
      subst AreDifferent (append_assoc a c (y ∷ e)) (one_more (a ++ c) e y (subst AreDifferent (sym (append_assoc a c e)) h) (subst (λ l. list_any (bytes_eq y) l ≡ false) (sym (append_assoc a c e)) n))

  pub kinds_differ : (items : List ItemTree) → AreDifferent (item_names items) → AreDifferent (kinds items)
  kinds_differ [] h = tt
  kinds_differ (input i ∷ rest) h = (absent (bytes_eq i.name.text) rest h.0, kinds_differ rest h.1)
  kinds_differ (output o ∷ rest) h =
      second_more (flat_map in_name rest) (flat_map out_name rest) (flat_map resources_of rest ++ flat_map (by_process d) rest) o.name.text (kinds_differ rest h.1) (absent (bytes_eq o.name.text) rest h.0)
  kinds_differ (resource r ∷ rest) h =
      one_more (flat_map in_name rest ++ flat_map out_name rest) (flat_map resources_of rest ++ flat_map (by_process d) rest) r.name.text (kinds_differ rest h.1) (absent (bytes_eq r.name.text) rest h.0)
  kinds_differ (process p ∷ rest) h = by (d p.name p.inside p.vars) (one p.name p.inside p.vars) (kinds_differ rest h.1) (absent (bytes_eq p.name.text) rest h.0)
    where
      by : (xs : List (List ℕ)) → (xs ≡ []) ⊎ (xs ≡ p.name.text ∷ []) → AreDifferent (kinds rest) → list_any (bytes_eq p.name.text) (kinds rest) ≡ false
          → AreDifferent ((flat_map in_name rest ++ flat_map out_name rest) ++ (flat_map resources_of rest ++ (xs ++ flat_map (by_process d) rest)))
      by xs (inl e) k n = subst (λ l. AreDifferent ((flat_map in_name rest ++ flat_map out_name rest) ++ (flat_map resources_of rest ++ (l ++ flat_map (by_process d) rest)))) (sym e) k
      by xs (inr e) k n =
          subst (λ l. AreDifferent ((flat_map in_name rest ++ flat_map out_name rest) ++ (flat_map resources_of rest ++ (l ++ flat_map (by_process d) rest)))) (sym e)
          (last_more (flat_map in_name rest ++ flat_map out_name rest) (flat_map resources_of rest) (flat_map (by_process d) rest) p.name.text k n)

-- the names of the graph's inputs and outputs are these
pub input_names_are : (items : List ItemTree) → map (λ i. i.name) (flat_map inputs_of items) ≡ flat_map in_name items
input_names_are [] = refl
input_names_are (input i ∷ rest) = ap (λ l. i.name.text ∷ l) (input_names_are rest)
input_names_are (output o ∷ rest) = input_names_are rest
input_names_are (resource r ∷ rest) = input_names_are rest
input_names_are (process p ∷ rest) = input_names_are rest

-- an output keeps its name
output_name_is : (w : List ℕ) (r : Result Target NameFault) → (output_to w r).name ≡ w
output_name_is w (Ok t) = refl
output_name_is w (Err fault) = refl

pub output_names_are : (all items : List ItemTree) → map (λ o. o.name) (flat_map (outputs_of all) items) ≡ flat_map out_name items
output_names_are all [] = refl
output_names_are all (input i ∷ rest) = output_names_are all rest
output_names_are all (output a_output ∷ rest) =
    ap (λ n. n ∷ map (λ o. o.name) (flat_map (outputs_of all) rest)) (output_name_is a_output.name.text (look_up all a_output.path)) ∙ ap (λ l. a_output.name.text ∷ l) (output_names_are all rest)
output_names_are all (resource r ∷ rest) = output_names_are all rest
output_names_are all (process p ∷ rest) = output_names_are all rest

-- the processes that are resources of their own
own_one : (w : Word) (inside : Option Word) (vars : List VarDecl) → (own_resource w inside vars ≡ []) ⊎ (own_resource w inside vars ≡ w.text ∷ [])
own_one w (Some r) vars = inl refl
own_one w None [] = inl refl
own_one w None (v ∷ vs) = inr refl

own_same : (items : List ItemTree) → flat_map (by_process own_resource) items ≡ flat_map own_resources_of items
own_same [] = refl
own_same (input i ∷ rest) = own_same rest
own_same (output o ∷ rest) = own_same rest
own_same (resource r ∷ rest) = own_same rest
own_same (process p ∷ rest) = ap (λ l. own_resource p.name p.inside p.vars ++ l) (own_same rest)

-- the names of all inputs, outputs and resources differ
pub all_differ : (all items : List ItemTree) → AreDifferent (item_names items)
    → AreDifferent ((map (λ i. i.name) (flat_map inputs_of items) ++ map (λ o. o.name) (flat_map (outputs_of all) items)) ++ (flat_map resources_of items ++ flat_map own_resources_of items))
all_differ all items h =
    subst (λ l. AreDifferent ((l ++ map (λ o. o.name) (flat_map (outputs_of all) items)) ++ (flat_map resources_of items ++ flat_map own_resources_of items))) (sym (input_names_are items))
    (subst (λ l. AreDifferent ((flat_map in_name items ++ l) ++ (flat_map resources_of items ++ flat_map own_resources_of items))) (sym (output_names_are all items))
    (subst (λ l. AreDifferent ((flat_map in_name items ++ flat_map out_name items) ++ (flat_map resources_of items ++ l))) (own_same items) (kinds_differ own_resource own_one items h)))

its_one : (w : Word) (inside : Option Word) (vars : List VarDecl) → (its_name w inside vars ≡ []) ⊎ (its_name w inside vars ≡ w.text ∷ [])
its_one w inside vars = inr refl

-- the names of processes differ
pub processes_differ : (items : List ItemTree) → AreDifferent (item_names items) → AreDifferent (flat_map process_name items)
processes_differ items h =
    different_right (flat_map resources_of items) (flat_map process_name items)
    (different_right (flat_map in_name items ++ flat_map out_name items) (flat_map resources_of items ++ flat_map process_name items) (kinds_differ its_name its_one items h))

-- no process has the name of a declared resource
pub resources_apart : (items : List ItemTree) → AreDifferent (item_names items) → Each (λ w. list_any (bytes_eq w) (flat_map resources_of items) ≡ false) (flat_map process_name items)
resources_apart items h =
    apart (flat_map resources_of items) (flat_map process_name items)
    (different_right (flat_map in_name items ++ flat_map out_name items) (flat_map resources_of items ++ flat_map process_name items) (kinds_differ its_name its_one items h))

-- no process has the name of an input or an output
pub processes_apart : (all items : List ItemTree) → AreDifferent (item_names items)
    → Each (λ w. list_any (bytes_eq w) (map (λ i. i.name) (flat_map inputs_of items) ++ map (λ o. o.name) (flat_map (outputs_of all) items)) ≡ false) (flat_map process_name items)
processes_apart all items h =
    subst (λ l. Each (λ w. list_any (bytes_eq w) (l ++ map (λ o. o.name) (flat_map (outputs_of all) items)) ≡ false) (flat_map process_name items)) (sym (input_names_are items))
    (subst (λ l. Each (λ w. list_any (bytes_eq w) (flat_map in_name items ++ l) ≡ false) (flat_map process_name items)) (sym (output_names_are all items))
    (each_right _ (flat_map resources_of items) (flat_map process_name items)
    (apart (flat_map in_name items ++ flat_map out_name items) (flat_map resources_of items ++ flat_map process_name items) (kinds_differ its_name its_one items h))))

-- what holds of each process's name holds of each port's process and of each variable's
pub of_ports : (Q : List ℕ → Type 0) (all : List ItemTree) (ops : List OpHead) (first : ℕ) (items : List ItemTree) → Each Q (flat_map process_name items) → Each (λ p. Q p.process) (resolved_ports all ops first items)
of_ports Q all ops first [] h = tt
of_ports Q all ops first (input i ∷ rest) h = of_ports Q all ops (first + 0) rest h
of_ports Q all ops first (output o ∷ rest) h = of_ports Q all ops (first + 0) rest h
of_ports Q all ops first (resource r ∷ rest) h = of_ports Q all ops (first + 0) rest h
of_ports Q all ops first (process q ∷ rest) h =
    each_append _ (resolved_ports_of all ops first (process q)) (resolved_ports all ops (first + length (vars_of (process q))) rest)
    (each_mapped (λ p. Q p.process) (resolved_port all q.name.text (resource_name q.name q.inside) ops q.vars first) q.ports (each_of _ (λ p. h.0) q.ports))
    (of_ports Q all ops (first + length (vars_of (process q))) rest h.1)

pub of_vars : (Q : List ℕ → Type 0) (items : List ItemTree) → Each Q (flat_map process_name items) → Each (λ v. Q v.process) (flat_map vars_of items)
of_vars Q [] h = tt
of_vars Q (input i ∷ rest) h = of_vars Q rest h
of_vars Q (output o ∷ rest) h = of_vars Q rest h
of_vars Q (resource r ∷ rest) h = of_vars Q rest h
of_vars Q (process p ∷ rest) h =
    each_append _ (map (var_of p.name.text) p.vars) (flat_map vars_of rest) (each_mapped (λ v. Q v.process) (var_of p.name.text) p.vars (each_of _ (λ v. h.0) p.vars)) (of_vars Q rest h.1)

-- names with their processes
module _ (sel : List VarDecl → List PortDeclTree → List (List ℕ)) where
  abbrev pub pairs_of : ItemTree → List (List ℕ × List ℕ)
  pairs_of (input i) = []
  pairs_of (output o) = []
  pairs_of (resource r) = []
  pairs_of (process p) = map (λ n. (p.name.text, n)) (sel p.vars p.ports)

  abbrev pub AreOwnDifferent : ItemTree → Type 0
  AreOwnDifferent (input i) = Unit {0}
  AreOwnDifferent (output o) = Unit {0}
  AreOwnDifferent (resource r) = Unit {0}
  AreOwnDifferent (process p) = AreDifferent (sel p.vars p.ports)

  of_pairs : (Q : List ℕ → Type 0) (items : List ItemTree) → Each Q (flat_map process_name items) → Each (λ (q : List ℕ × List ℕ). Q q.0) (flat_map pairs_of items)
  of_pairs Q [] h = tt
  of_pairs Q (input i ∷ rest) h = of_pairs Q rest h
  of_pairs Q (output o ∷ rest) h = of_pairs Q rest h
  of_pairs Q (resource r ∷ rest) h = of_pairs Q rest h
  of_pairs Q (process p ∷ rest) h =
      each_append _ (map (λ n. (p.name.text, n)) (sel p.vars p.ports)) (flat_map pairs_of rest)
      (each_mapped (λ (q : List ℕ × List ℕ). Q q.0) (λ n. (p.name.text, n)) (sel p.vars p.ports) (each_of _ (λ n. h.0) (sel p.vars p.ports))) (of_pairs Q rest h.1)

  pub pairs_differ : (items : List ItemTree) → AreDifferent (flat_map process_name items) → Each AreOwnDifferent items → AreDifferentWithin (flat_map pairs_of items)
  pairs_differ [] d h = tt
  pairs_differ (input i ∷ rest) d h = pairs_differ rest d h.1
  pairs_differ (output o ∷ rest) d h = pairs_differ rest d h.1
  pairs_differ (resource r ∷ rest) d h = pairs_differ rest d h.1
  pairs_differ (process p ∷ rest) d h =
      owner_joins p.name.text (sel p.vars p.ports) (flat_map pairs_of rest) h.0
      (of_pairs (λ y. bytes_eq p.name.text y ≡ false) rest (none_each (bytes_eq p.name.text) (flat_map process_name rest) d.0))
      (pairs_differ rest d.1 h.1)

-- the names of ports and of variables
abbrev pub ports_sel : List VarDecl → List PortDeclTree → List (List ℕ)
ports_sel vars ports = port_names ports

abbrev pub vars_sel : List VarDecl → List PortDeclTree → List (List ℕ)
vars_sel vars ports = var_names vars

-- one process's names, and then the others
ports_join : (all : List ItemTree) (ops : List OpHead) (first : ℕ) (w : Word) (key : List ℕ) (vars : List VarDecl) (ps : List PortDeclTree) (after : List PortTree) (end : List (List ℕ × List ℕ))
    → map (λ p. (p.process, p.name)) after ≡ end → map (λ p. (p.process, p.name)) (map (resolved_port all w.text key ops vars first) ps ++ after) ≡ map (λ n. (w.text, n)) (port_names ps) ++ end
ports_join all ops first w key vars [] after end e = e
ports_join all ops first w key vars (p ∷ ps) after end e = ap (λ l. (w.text, p.name.text) ∷ l) (ports_join all ops first w key vars ps after end e)

vars_join : (w : Word) (vs : List VarDecl) (after : List graph.Var.Var) (end : List (List ℕ × List ℕ))
    → map (λ v. (v.process, v.name)) after ≡ end → map (λ v. (v.process, v.name)) (map (var_of w.text) vs ++ after) ≡ map (λ n. (w.text, n)) (var_names vs) ++ end
vars_join w [] after end e = e
vars_join w (v ∷ vs) after end e = ap (λ l. (w.text, v.name.text) ∷ l) (vars_join w vs after end e)

pub port_pairs_are : (all : List ItemTree) (ops : List OpHead) (first : ℕ) (items : List ItemTree) → map (λ p. (p.process, p.name)) (resolved_ports all ops first items) ≡ flat_map (pairs_of ports_sel) items
port_pairs_are all ops first [] = refl
port_pairs_are all ops first (input i ∷ rest) = port_pairs_are all ops (first + 0) rest
port_pairs_are all ops first (output o ∷ rest) = port_pairs_are all ops (first + 0) rest
port_pairs_are all ops first (resource r ∷ rest) = port_pairs_are all ops (first + 0) rest
port_pairs_are all ops first (process p ∷ rest) =
    ports_join all ops first p.name (resource_name p.name p.inside) p.vars p.ports (resolved_ports all ops (first + length (vars_of (process p))) rest) (flat_map (pairs_of ports_sel) rest)
    (port_pairs_are all ops (first + length (vars_of (process p))) rest)

pub var_pairs_are : (items : List ItemTree) → map (λ v. (v.process, v.name)) (flat_map vars_of items) ≡ flat_map (pairs_of vars_sel) items
var_pairs_are [] = refl
var_pairs_are (input i ∷ rest) = var_pairs_are rest
var_pairs_are (output o ∷ rest) = var_pairs_are rest
var_pairs_are (resource r ∷ rest) = var_pairs_are rest
var_pairs_are (process p ∷ rest) = vars_join p.name p.vars (flat_map vars_of rest) (flat_map (pairs_of vars_sel) rest) (var_pairs_are rest)
