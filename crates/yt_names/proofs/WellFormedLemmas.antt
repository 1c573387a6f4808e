-- What a graph without faults keeps to.
use Rattle.std.proofs.Common.{◌≡◌, ℕ, ◌+◌, ◌-◌, ◌≤◌, List, [], ◌∷◌, ◌++◌, length, Bool, true, false, bytes_eq, Option, Some, None, true≢false, refl, sym, ap, ◌∙◌, arith}
use Rattle.std.specs.Prelude.{◌==◌, ℤ, pos, negsuc, int_lt, ◌||◌}
use Rattle.std.specs.List.{list_any, flat_map}
use Rattle.std.proofs.lemmas.List.{length-append, length-map}
use Rattle.std.proofs.lemmas.Bool.Decides.{nat_tests}
use Rattle.yt_graph.specs.declared.ast.Word.{Word}
use Rattle.yt_graph.specs.declared.ast.Num.{Num}
use Rattle.yt_graph.specs.declared.ast.VarDecl.{VarDecl}
use Rattle.yt_graph.specs.declared.operator.OpHead.{OpHead}
use Rattle.yt_graph.specs.AstPicture.{PortDeclTree, ItemTree, input, output, resource, process}
use Rattle.yt_graph.specs.WellFormed.{IsWithin, IsCounted}
use Rattle.yt_name_faults.specs.declared.fault.NameFault.{NameFault}
use Rattle.yt_name_faults.specs.declared.fault.LimitKind.{LimitKind}
use Rattle.yt_name_faults.specs.declared.room.Room.{Room}
use Rattle.yt_name_faults.specs.First.{fault_if}
use Rattle.yt_name_faults.specs.Paths.{placed_from, ports_of}
use Rattle.yt_name_faults.specs.Handlers.{is_outside}
use Rattle.yt_name_faults.specs.Faults.{declared_faults, range_faults, vars_faults, ports_faults, item_faults, items_faults, room_after, full_room, name_faults}
use Rattle.yt_names.specs.Resolved.{size_of, inputs_of, outputs_of, resources_of, own_resources_of, own_resource, var_of, vars_of, resource_name, resolved_port, resolved_ports_of, resolved_ports, resolved}
use Rattle.yt_names.proofs.formed.Lists.{each_all, each_there}
use Rattle.yt_names.proofs.formed.Names.{process_name, of_ports, of_vars}

-- faults that are none have no part
pub no_part : (a b : List NameFault) → a ++ b ≡ [] → (a ≡ []) × (b ≡ [])
no_part [] b e = (refl, e)
no_part (f ∷ fs) b e = absurd (cc)

pub no_cause : (cause : Bool) (fault : NameFault) → fault_if cause fault ≡ [] → cause ≡ false
no_cause true fault e = absurd (cc)
no_cause false fault e = refl

-- a count that isn't 0
left_over : (left : ℕ) → (left == 0) ≡ false → 1 ≤ left
left_over left e = grind (arith, nat_tests)

-- a declaration without a fault has room
pub has_room : (w : Word) (number : ℕ) (first : Option ℕ) (left : ℕ) (kind : LimitKind) → declared_faults w number first left kind ≡ [] → 1 ≤ left
has_room w number first left kind e = left_over left (no_cause _ _ (no_part _ _ e).1)

neither : (a b : Bool) → (a || b) ≡ false → (a ≡ false) × (b ≡ false)
neither true b e = absurd (true≢false e)
neither false b e = (refl, e)

at_least : (a b : ℕ) → int_lt (pos a) (pos b) ≡ false → b ≤ a
at_least a b e = grind (arith, nat_tests)

below : (m low : ℕ) → int_lt (negsuc m) (pos low) ≡ true
below m low = refl

-- a number without a fault is in its range
pub in_range : (low high : ℕ) (n : Num) (kind : LimitKind) → range_faults low high n kind ≡ [] → IsWithin low high (size_of n.value)
in_range low high n kind e = by n.value (no_cause _ _ e)
  where
    by : (v : ℤ) → is_outside low high v ≡ false → IsWithin low high (size_of v)
    by (pos m) h = let parts = neither (int_lt (pos m) (pos low)) (int_lt (pos high) (pos m)) h in (at_least m low parts.0, at_least high m parts.1)
    by (negsuc m) h = absurd (true≢false (sym (below m low) ∙ (neither (int_lt (negsuc m) (pos low)) (int_lt (pos high) (negsuc m)) h).0))

-- variables without a fault have room
vars_room : (vars : List VarDecl) (n left : ℕ) (rest : List VarDecl) → vars_faults vars n left rest ≡ [] → length rest ≤ left
vars_room vars n left [] e = omega arith
vars_room vars n left (v ∷ rest) e =
    let parts = no_part _ _ e in
    omega (arith, has_room v.name n _ left _ parts.0, vars_room vars (n + 1) (left - 1) rest parts.1)

ports_room : (all : List ItemTree) (ops : List OpHead) (vars : List VarDecl) (ports : List PortDeclTree) (first number left : ℕ) (rest : List PortDeclTree)
    → ports_faults all ops vars ports first number left rest ≡ [] → length rest ≤ left
ports_room all ops vars ports first number left [] e = omega arith
ports_room all ops vars ports first number left (p ∷ rest) e =
    let parts = no_part _ _ e in
    omega (arith, has_room p.name number _ left _ (no_part _ _ parts.0).0, ports_room all ops vars ports first (number + 1) (left - 1) rest parts.1)

-- the parts that are declared have room
pub record HaveRoom (all : List ItemTree) (room : Room) (items : List ItemTree) : Type 0 where
  pub inputs : length (flat_map inputs_of items) ≤ room.inputs
  pub outputs : length (flat_map (outputs_of all) items) ≤ room.outputs
  pub resources : length (flat_map resources_of items) ≤ room.resources
  pub processes : length (flat_map process_name items) ≤ room.processes
  pub own_resources : length (flat_map own_resources_of items) ≤ room.processes
  pub ports : length (flat_map ports_of items) ≤ room.ports
  pub vars : length (flat_map vars_of items) ≤ room.vars

own_is_one : (w : Word) (inside : Option Word) (vars : List VarDecl) → length (own_resource w inside vars) ≤ 1
own_is_one w (Some r) vars = omega arith
own_is_one w None [] = omega arith
own_is_one w None (v ∷ vs) = omega arith

one_part : (all : List ItemTree) (ops : List OpHead) (n first : ℕ) (room : Room) (i : ItemTree) (rest : List ItemTree)
    → item_faults all ops n first room i ≡ [] → HaveRoom all (room_after room i) rest → HaveRoom all room (i ∷ rest)
one_part all ops n first room (input i) rest e h =
    let one = has_room i.name n _ room.inputs _ (no_part _ _ e).0 in
    record { inputs = omega (arith, one, h.inputs); outputs = h.outputs; resources = h.resources; processes = h.processes; own_resources = h.own_resources; ports = h.ports; vars = h.vars }
one_part all ops n first room (output o) rest e h =
    let one = has_room o.name n _ room.outputs _ (no_part _ _ e).0 in
    record { inputs = h.inputs; outputs = omega (arith, one, h.outputs); resources = h.resources; processes = h.processes; own_resources = h.own_resources; ports = h.ports; vars = h.vars }
one_part all ops n first room (resource r) rest e h =
    let one = has_room r.name n _ room.resources _ e in
    record { inputs = h.inputs; outputs = h.outputs; resources = omega (arith, one, h.resources); processes = h.processes; own_resources = h.own_resources; ports = h.ports; vars = h.vars }
one_part all ops n first room (process p) rest e h =
    let parts = no_part _ _ e in
    let one = has_room p.name n _ room.processes _ parts.0 in
    let both = no_part _ _ (no_part _ _ parts.1).1 in
    let some_vars = vars_room p.vars 0 room.vars p.vars both.0 in
    let some_ports = ports_room all ops p.vars p.ports first first room.ports p.ports both.1 in
    record {
      inputs = h.inputs;
      outputs = h.outputs;
      resources = h.resources;
      processes = omega (arith, one, h.processes);
      own_resources = omega (arith, one, own_is_one p.name p.inside p.vars, length-append (own_resource p.name p.inside p.vars) (flat_map own_resources_of rest), h.own_resources);
      ports = omega (arith, some_ports, length-append p.ports (flat_map ports_of rest), h.ports);
      vars = omega (arith, some_vars, length-append (vars_of (process p)) (flat_map vars_of rest), length-map p.vars (var_of p.name.text), h.vars);
    }

pub all_parts : (all : List ItemTree) (ops : List OpHead) (n k : ℕ) (room : Room) (items : List ItemTree) → items_faults all ops n room (placed_from k items) ≡ [] → HaveRoom all room items
all_parts all ops n k room [] e = record { inputs = omega arith; outputs = omega arith; resources = omega arith; processes = omega arith; own_resources = omega arith; ports = omega arith; vars = omega arith }
all_parts all ops n k room (i ∷ rest) e =
    let parts = no_part _ _ e in
    one_part all ops n k room i rest parts.0 (all_parts all ops (n + 1) (k + length (ports_of i)) (room_after room i) rest parts.1)

-- as many ports as are declared
pub ports_counted : (all : List ItemTree) (ops : List OpHead) (first : ℕ) (items : List ItemTree) → length (resolved_ports all ops first items) ≡ length (flat_map ports_of items)
ports_counted all ops first [] = refl
ports_counted all ops first (i ∷ rest) =
    length-append (resolved_ports_of all ops first i) (resolved_ports all ops (first + length (vars_of i)) rest)
    ∙ ap (λ n. n + length (resolved_ports all ops (first + length (vars_of i)) rest)) (one i)
    ∙ ap (λ n. length (ports_of i) + n) (ports_counted all ops (first + length (vars_of i)) rest)
    ∙ sym (length-append (ports_of i) (flat_map ports_of rest))
  where
    one : (i : ItemTree) → length (resolved_ports_of all ops first i) ≡ length (ports_of i)
    one (input i) = refl
    one (output o) = refl
    one (resource r) = refl
    one (process p) = length-map p.ports (resolved_port all p.name.text (resource_name p.name p.inside) ops p.vars first)

pub counted : (items : List ItemTree) (ops : List OpHead) → name_faults items ops ≡ [] → IsCounted (resolved items ops)
unfolding name_faults resolved
counted items ops e =
    let h = all_parts items ops 0 0 full_room items e in
    let names = flat_map process_name items in
    record {
      inputs = h.inputs;
      outputs = h.outputs;
      groups = omega (arith, length-append (flat_map resources_of items) (flat_map own_resources_of items), h.resources, h.own_resources);
      vars = h.vars;
      ports = omega (arith, ports_counted items ops 0 items, h.ports);
      processes = (
        names,
        h.processes,
        record {
          of_ports = each_all _ (resolved_ports items ops 0 items) (of_ports (λ y. list_any (bytes_eq y) names ≡ true) items ops 0 items (each_there names));
          of_vars = each_all _ (flat_map vars_of items) (of_vars (λ y. list_any (bytes_eq y) names ≡ true) items (each_there names));
        },
      );
    }
