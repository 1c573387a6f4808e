-- What is so of the parts of a graph without faults.
use Rattle.std.proofs.Common.{◌≡◌, ℕ, suc, ◌+◌, ◌-◌, ◌≤◌, List, [], ◌∷◌, ◌++◌, length, true, false, is_some, Option, Some, subst, arith}
use Rattle.std.specs.List.{flat_map}
use Rattle.yt_graph.specs.declared.ast.Word.{Word}
use Rattle.yt_graph.specs.declared.ast.VarDecl.{VarDecl}
use Rattle.yt_graph.specs.declared.ast.OutDecl.{OutDecl}
use Rattle.yt_graph.specs.declared.operator.OpHead.{OpHead}
use Rattle.yt_graph.specs.AstPicture.{PortDeclTree, ItemTree, input, output, resource, process}
use Rattle.yt_graph.specs.WellFormed.{IsWithin, AreDifferent}
use Rattle.yt_name_faults.specs.declared.fault.LimitKind.{LimitKind}
use Rattle.yt_name_faults.specs.declared.fault.LimitKind as limit
use Rattle.yt_name_faults.specs.declared.room.Room.{Room}
use Rattle.yt_table.specs.Tables.{first_of}
use Rattle.yt_graph.specs.ItemNames.{item_name}
use Rattle.yt_name_faults.specs.Names.{item_names, port_names, var_names, out_names}
use Rattle.yt_name_faults.specs.Paths.{placed_from, look_up, source_width, ports_before, all_ports, ports_of, comes_back}
use Rattle.yt_name_faults.specs.Handlers.{handler_faults}
use Rattle.yt_graph.specs.Limits.{most_outs}
use Rattle.yt_name_faults.specs.Faults.{declared_faults, range_faults, err_faults, width_faults, inside_faults, vars_faults, every_faults, out_faults, outs_faults, port_faults, ports_faults, item_faults, items_faults, room_after, full_room, name_faults}
use Rattle.yt_names.specs.Resolved.{size_of}
use Rattle.yt_names.proofs.WellFormedLemmas.{no_part, no_cause, has_room, in_range}
use Rattle.yt_names.proofs.formed.Lists.{Each, AreOwn, own_differ, is_own, found, AreFound, found_head, found_tail}

-- an out whose numbers are in their ranges
abbrev pub IsGoodOut : OutDecl → Type 0
IsGoodOut o = (range_faults 0 8 o.width limit.TheVariants.Width ≡ []) × (every_faults o.every ≡ [])

-- a port whose words and numbers have no fault
pub record IsGoodPort (all : List ItemTree) (ops : List OpHead) (vars : List VarDecl) (p : PortDeclTree) : Type 0 where
  pub width : width_faults p.name (length p.params) (source_width all p.source) ≡ []
  pub few : length p.outs ≤ 8
  pub differ : AreDifferent (out_names p.outs)
  pub outs : Each IsGoodOut p.outs
  pub handler : handler_faults (record { vars = vars; outs = p.outs; ops = ops }) p.params p.body ≡ []

-- the same of a part of a graph
abbrev pub IsGoodItem : List ItemTree → List OpHead → ItemTree → Type 0
IsGoodItem all ops (input i) = IsWithin 0 8 (size_of i.width.value) × IsWithin 1 1000000 (size_of i.period.value)
IsGoodItem all ops (output o) = err_faults (look_up all o.path) ≡ []
IsGoodItem all ops (resource r) = Unit {0}
IsGoodItem all ops (process p) =
    (inside_faults all p.inside ≡ []) × AreDifferent (var_names p.vars) × AreDifferent (port_names p.ports) × Each (IsGoodPort all ops p.vars) p.ports

-- no chain of sources comes back, from the port of a number on
abbrev pub NoneBack : List (Option ℕ) → ℕ → List PortDeclTree → Type 0
NoneBack before n [] = Unit {0}
NoneBack before n (p ∷ ps) = (comes_back before n ≡ false) × NoneBack before (n + 1) ps

none_joins : (before : List (Option ℕ)) (n : ℕ) (ps qs : List PortDeclTree) → NoneBack before n ps → NoneBack before (n + length ps) qs → NoneBack before n (ps ++ qs)
none_joins before n [] qs a b = let e : n + 0 ≡ n = omega arith in subst (λ k. NoneBack before k qs) e b
none_joins before n (p ∷ ps) qs a b =
    let e : n + suc (length ps) ≡ n + 1 + length ps = omega arith in
    (a.0, none_joins before (n + 1) ps qs a.1 (subst (λ k. NoneBack before k qs) e b))

-- a declaration without a fault is the first of its name
first_own : (w : Word) (n : ℕ) (o : Option ℕ) (left : ℕ) (kind : LimitKind) → is_some o ≡ true → declared_faults w n o left kind ≡ [] → o ≡ Some n
first_own w n o left kind s e = is_own n o s (no_cause _ _ (no_part _ _ e).0)

-- variables
module _ (vars : List VarDecl) where
  var_first : List ℕ → Option ℕ
  var_first y = first_of y 0 (var_names vars)

  vars_own : (n left : ℕ) (rest : List VarDecl) → AreFound var_first (var_names rest) → vars_faults vars n left rest ≡ [] → AreOwn var_first n (var_names rest)
  unfolding var_first
  vars_own n left [] f e = tt
  vars_own n left (v ∷ rest) f e =
      let parts = no_part (declared_faults v.name n (first_of v.name.text 0 (var_names vars)) left limit.TheVariants.Variables) (vars_faults vars (n + 1) (left - 1) rest) e in (
        first_own v.name n (var_first v.name.text) left _ (found_head var_first v.name.text (var_names rest) f) parts.0,
        vars_own (n + 1) (left - 1) rest (found_tail var_first v.name.text (var_names rest) f) parts.1,
      )

  vars_differ : (left : ℕ) → vars_faults vars 0 left vars ≡ [] → AreDifferent (var_names vars)
  unfolding var_first
  vars_differ left e = own_differ var_first 0 (var_names vars) (vars_own 0 left vars (λ y h. found y 0 (var_names vars) h) e)

-- outs
record OutsWalked (f : List ℕ → Option ℕ) (n left : ℕ) (rest : List OutDecl) : Type 0 where
  own : AreOwn f n (out_names rest)
  few : length rest ≤ left
  good : Each IsGoodOut rest

module _ (outs : List OutDecl) where
  out_first : List ℕ → Option ℕ
  out_first y = first_of y 0 (out_names outs)

  outs_walked : (n left : ℕ) (rest : List OutDecl) → AreFound out_first (out_names rest) → outs_faults outs n left rest ≡ [] → OutsWalked out_first n left rest
  unfolding out_first
  outs_walked n left [] f e = record { own = tt; few = omega arith; good = tt }
  outs_walked n left (o ∷ rest) f e =
      let parts = no_part (out_faults outs n left o) (outs_faults outs (n + 1) (left - 1) rest) e in
      let here = no_part (declared_faults o.name n (first_of o.name.text 0 (out_names outs)) left limit.TheVariants.Outs) (range_faults 0 8 o.width limit.TheVariants.Width ++ every_faults o.every) parts.0 in
      let some = has_room o.name n (first_of o.name.text 0 (out_names outs)) left limit.TheVariants.Outs here.0 in
      let next = outs_walked (n + 1) (left - 1) rest (found_tail out_first o.name.text (out_names rest) f) parts.1 in
      record {
        own = (first_own o.name n (out_first o.name.text) left _ (found_head out_first o.name.text (out_names rest) f) here.0, next.own);
        few = omega (arith, some, next.few);
        good = (no_part (range_faults 0 8 o.width limit.TheVariants.Width) (every_faults o.every) here.1, next.good);
      }

  outs_good : outs_faults outs 0 most_outs outs ≡ [] → OutsWalked out_first 0 most_outs outs
  unfolding out_first
  outs_good e = outs_walked 0 most_outs outs (λ y h. found y 0 (out_names outs) h) e

-- ports of a process
record PortsWalked (all : List ItemTree) (ops : List OpHead) (vars : List VarDecl) (f : List ℕ → Option ℕ) (n : ℕ) (rest : List PortDeclTree) : Type 0 where
  own : AreOwn f n (port_names rest)
  good : Each (IsGoodPort all ops vars) rest
  back : NoneBack (ports_before all) n rest

module _ (all : List ItemTree) (ops : List OpHead) (vars : List VarDecl) (ports : List PortDeclTree) (first : ℕ) where
  port_first : List ℕ → Option ℕ
  port_first y = first_of y first (port_names ports)

  port_good : (number left : ℕ) (p : PortDeclTree) → port_faults all ops vars ports first number left p ≡ []
      → (declared_faults p.name number (first_of p.name.text first (port_names ports)) left limit.TheVariants.Ports ≡ []) × (comes_back (ports_before all) number ≡ false) × IsGoodPort all ops vars p
  port_good number left p e =
      let a = no_part _ _ e in
      let b = no_part _ _ a.1 in
      let c = no_part _ _ b.1 in
      let d = no_part _ _ c.1 in
      let o = outs_good p.outs d.0 in
      (a.0, no_cause _ _ c.0, record { width = b.0; few = o.few; differ = own_differ (out_first p.outs) 0 (out_names p.outs) o.own; outs = o.good; handler = d.1 })

  ports_walked : (number left : ℕ) (rest : List PortDeclTree) → AreFound port_first (port_names rest) → ports_faults all ops vars ports first number left rest ≡ []
      → PortsWalked all ops vars port_first number rest
  unfolding port_first
  ports_walked number left [] f e = record { own = tt; good = tt; back = tt }
  ports_walked number left (p ∷ rest) f e =
      let parts = no_part (port_faults all ops vars ports first number left p) (ports_faults all ops vars ports first (number + 1) (left - 1) rest) e in
      let here = port_good number left p parts.0 in
      let next = ports_walked (number + 1) (left - 1) rest (found_tail port_first p.name.text (port_names rest) f) parts.1 in
      record {
        own = (first_own p.name number (port_first p.name.text) left _ (found_head port_first p.name.text (port_names rest) f) here.0, next.own);
        good = (here.2, next.good);
        back = (here.1, next.back);
      }

  ports_good : (left : ℕ) → ports_faults all ops vars ports first first left ports ≡ [] → PortsWalked all ops vars port_first first ports
  unfolding port_first
  ports_good left e = ports_walked first left ports (λ y h. found y first (port_names ports) h) e

  ports_differ : PortsWalked all ops vars port_first first ports → AreDifferent (port_names ports)
  ports_differ w = own_differ port_first first (port_names ports) w.own

-- all parts
pub record ItemsWalked (all : List ItemTree) (ops : List OpHead) (f : List ℕ → Option ℕ) (n first : ℕ) (items : List ItemTree) : Type 0 where
  pub own : AreOwn f n (item_names items)
  pub good : Each (IsGoodItem all ops) items
  pub back : NoneBack (ports_before all) first (flat_map ports_of items)

record ItemGood (all : List ItemTree) (ops : List OpHead) (n first : ℕ) (o : Option ℕ) (i : ItemTree) : Type 0 where
  own : o ≡ Some n
  good : IsGoodItem all ops i
  back : NoneBack (ports_before all) first (ports_of i)

module _ (all : List ItemTree) (ops : List OpHead) where
  pub item_first : List ℕ → Option ℕ
  item_first y = first_of y 0 (item_names all)

  item_good : (n first : ℕ) (room : Room) (i : ItemTree) → is_some (first_of (item_name i) 0 (item_names all)) ≡ true → item_faults all ops n first room i ≡ []
      → ItemGood all ops n first (first_of (item_name i) 0 (item_names all)) i
  item_good n first room (input i) s e =
      let a = no_part (declared_faults i.name n (first_of i.name.text 0 (item_names all)) room.inputs limit.TheVariants.Inputs) (range_faults 0 8 i.width limit.TheVariants.Width ++ range_faults 1 1000000 i.period limit.TheVariants.Period) e in
      let b = no_part (range_faults 0 8 i.width limit.TheVariants.Width) (range_faults 1 1000000 i.period limit.TheVariants.Period) a.1 in
      record { own = first_own i.name n _ room.inputs _ s a.0; good = (in_range 0 8 i.width _ b.0, in_range 1 1000000 i.period _ b.1); back = tt }
  item_good n first room (output o) s e =
      let a = no_part (declared_faults o.name n (first_of o.name.text 0 (item_names all)) room.outputs limit.TheVariants.Outputs) (err_faults (look_up all o.path)) e in
      record { own = first_own o.name n _ room.outputs _ s a.0; good = a.1; back = tt }
  item_good n first room (resource r) s e = record { own = first_own r.name n _ room.resources _ s e; good = tt; back = tt }
  item_good n first room (process p) s e =
      let a = no_part _ _ e in
      let b = no_part _ _ a.1 in
      let c = no_part _ _ b.1 in
      let walked = ports_good all ops p.vars p.ports first room.ports c.1 in
      record {
        own = first_own p.name n _ room.processes _ s a.0;
        good = (b.0, vars_differ p.vars room.vars c.0, ports_differ all ops p.vars p.ports first walked, walked.good);
        back = walked.back;
      }

  items_walked : (n first : ℕ) (room : Room) (items : List ItemTree) → AreFound item_first (item_names items) → items_faults all ops n room (placed_from first items) ≡ []
      → ItemsWalked all ops item_first n first items
  unfolding item_first
  items_walked n first room [] f e = record { own = tt; good = tt; back = tt }
  items_walked n first room (i ∷ rest) f e =
      let parts = no_part (item_faults all ops n first room i) (items_faults all ops (n + 1) (room_after room i) (placed_from (first + length (ports_of i)) rest)) e in
      let here = item_good n first room i (found_head item_first (item_name i) (item_names rest) f) parts.0 in
      let next = items_walked (n + 1) (first + length (ports_of i)) (room_after room i) rest (found_tail item_first (item_name i) (item_names rest) f) parts.1 in
      record {
        own = (here.own, next.own);
        good = (here.good, next.good);
        back = none_joins (ports_before all) first (ports_of i) (flat_map ports_of rest) here.back next.back;
      }

-- what is so of a graph without faults
pub record IsFaultless (all : List ItemTree) (ops : List OpHead) : Type 0 where
  pub differ : AreDifferent (item_names all)
  pub good : Each (IsGoodItem all ops) all
  pub back : NoneBack (ports_before all) 0 (all_ports all)

pub faultless : (all : List ItemTree) (ops : List OpHead) → name_faults all ops ≡ [] → IsFaultless all ops
unfolding name_faults item_first
faultless all ops e =
    let w = items_walked all ops 0 0 full_room all (λ y h. found y 0 (item_names all) h) e in
    record { differ = own_differ (item_first all ops) 0 (item_names all) w.own; good = w.good; back = w.back }
