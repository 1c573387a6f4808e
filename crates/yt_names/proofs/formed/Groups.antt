-- The resources of ports.
use Rattle.std.proofs.Common.{◌≡◌, ℕ, ◌+◌, ◌≤◌, List, [], ◌∷◌, ◌++◌, length, Bool, true, false, cond, Option, Some, None, bytes_eq, refl, sym, ap, ◌∙◌, subst, if◌then◌else◌}
use Rattle.std.specs.List.{list_any, flat_map}
use Rattle.yt_graph.specs.declared.ast.Word.{Word}
use Rattle.yt_graph.specs.declared.ast.VarDecl.{VarDecl}
use Rattle.yt_graph.specs.declared.operator.OpHead.{OpHead}
use Rattle.yt_graph.specs.AstPicture.{PortDeclTree, ProcessTree, ItemTree, input, output, resource, process}
use Rattle.yt_graph.specs.Picture.{PortTree, GraphTree}
use Rattle.yt_graph.specs.WellFormed.{IsWithin, AreDifferent, IsFineGroup, IsUnderOne, block_uses_var}
use Rattle.yt_name_faults.specs.Faults.{inside_faults}
use Rattle.yt_names.specs.Resolved.{number_among, resources_of, own_resource, own_resources_of, resolved_groups, resource_name, vars_of, resolved_port, resolved_ports_of, resolved_ports}
use Rattle.yt_names.proofs.formed.Lists.{Each, each_append, each_map, each_mapped, each_of, none_each, same_bytes, bytes_turned, or_first, any_left, any_right}
use Rattle.yt_names.proofs.formed.Places.{number_within}
use Rattle.yt_names.proofs.formed.Facts.{IsGoodItem}
use Rattle.yt_names.proofs.formed.Feeds.{inside_there}
use Rattle.yt_names.proofs.formed.Names.{process_name}

-- a process that has variables has a resource that is there
abbrev pub IsKeyed : List (List ℕ) → ItemTree → Type 0
IsKeyed groups (input i) = Unit {0}
IsKeyed groups (output o) = Unit {0}
IsKeyed groups (resource r) = Unit {0}
IsKeyed groups (process p) = (p.vars ≡ [] → ⊥) → list_any (bytes_eq (resource_name p.name p.inside)) groups ≡ true

-- by the word behind `in`, or by its own name
keyed : (all : List ItemTree) (w : Word) (inside : Option Word) (vars : List VarDecl) (rest : List (List ℕ)) → inside_faults all inside ≡ []
    → ((y : List ℕ) → list_any (bytes_eq y) (own_resource w inside vars ++ rest) ≡ true → list_any (bytes_eq y) (flat_map own_resources_of all) ≡ true)
    → (vars ≡ [] → ⊥) → list_any (bytes_eq (resource_name w inside)) (resolved_groups all) ≡ true
keyed all w (Some r) vars rest e own some = any_left (bytes_eq r.text) (flat_map resources_of all) (flat_map own_resources_of all) (inside_there all r e)
keyed all w None [] rest e own some = absurd (some refl)
keyed all w None (v ∷ vs) rest e own some =
    any_right (bytes_eq w.text) (flat_map resources_of all) (flat_map own_resources_of all) (own w.text (or_first (bytes_eq w.text w.text) (list_any (bytes_eq w.text) rest) (same_bytes w.text)))

pub all_keyed : (all : List ItemTree) (ops : List OpHead) (items : List ItemTree) → ((y : List ℕ) → list_any (bytes_eq y) (flat_map own_resources_of items) ≡ true → list_any (bytes_eq y) (flat_map own_resources_of all) ≡ true)
    → Each (IsGoodItem all ops) items → Each (IsKeyed (resolved_groups all)) items
all_keyed all ops [] own h = tt
all_keyed all ops (input i ∷ rest) own h = (tt, all_keyed all ops rest own h.1)
all_keyed all ops (output o ∷ rest) own h = (tt, all_keyed all ops rest own h.1)
all_keyed all ops (resource r ∷ rest) own h = (tt, all_keyed all ops rest own h.1)
all_keyed all ops (process p ∷ rest) own h = (
  keyed all p.name p.inside p.vars (flat_map own_resources_of rest) h.0.0 own,
  all_keyed all ops rest (λ y e. own y (any_right (bytes_eq y) (own_resource p.name p.inside p.vars) (flat_map own_resources_of rest) e)) h.1,
)

-- a port's resource is there
pub group_fine : (g : GraphTree) (p : PortTree) (key : List ℕ) (b : Bool) → p.group ≡ (if b then number_among key g.groups else 0) → (b ≡ true → list_any (bytes_eq key) g.groups ≡ true) → length g.groups ≤ 96 → IsFineGroup g p b
group_fine g p key true e there few = subst (IsWithin 1 (length g.groups)) (sym e) (number_within key g.groups (there refl) few)
group_fine g p key false e there few = e

-- the resource of the process of a name
abbrev pub key_by : List ℕ → List ItemTree → List ℕ
key_by word [] = []
key_by word (input i ∷ rest) = key_by word rest
key_by word (output o ∷ rest) = key_by word rest
key_by word (resource r ∷ rest) = key_by word rest
key_by word (process p ∷ rest) = cond (bytes_eq word p.name.text) (resource_name p.name p.inside) (key_by word rest)

-- a process is the first of its name
abbrev IsKeyBy : List ItemTree → ItemTree → Type 0
IsKeyBy all (input i) = Unit {0}
IsKeyBy all (output o) = Unit {0}
IsKeyBy all (resource r) = Unit {0}
IsKeyBy all (process p) = key_by p.name.text all ≡ resource_name p.name p.inside

behind : (q : ProcessTree) (rest items : List ItemTree)
    → Each (λ y. bytes_eq q.name.text y ≡ false) (flat_map process_name items) → Each (IsKeyBy rest) items → Each (IsKeyBy (process q ∷ rest)) items
behind q rest [] n h = tt
behind q rest (input i ∷ more) n h = (tt, behind q rest more n h.1)
behind q rest (output o ∷ more) n h = (tt, behind q rest more n h.1)
behind q rest (resource r ∷ more) n h = (tt, behind q rest more n h.1)
behind q rest (process p ∷ more) n h =
    (ap (λ b. cond b (resource_name q.name q.inside) (key_by p.name.text rest)) (bytes_turned q.name.text p.name.text n.0) ∙ h.0, behind q rest more n.1 h.1)

key_found : (items : List ItemTree) → AreDifferent (flat_map process_name items) → Each (IsKeyBy items) items
key_found [] d = tt
key_found (input j ∷ rest) d = (tt, each_map (IsKeyBy rest) (IsKeyBy (input j ∷ rest)) (same rest) rest (key_found rest d))
  where
    same : (all : List ItemTree) (i : ItemTree) → IsKeyBy all i → IsKeyBy (input j ∷ all) i
    same all (input i) h = tt
    same all (output o) h = tt
    same all (resource r) h = tt
    same all (process p) h = h
key_found (output x ∷ rest) d = (tt, each_map (IsKeyBy rest) (IsKeyBy (output x ∷ rest)) (same rest) rest (key_found rest d))
  where
    same : (all : List ItemTree) (i : ItemTree) → IsKeyBy all i → IsKeyBy (output x ∷ all) i
    same all (input i) h = tt
    same all (output o) h = tt
    same all (resource r) h = tt
    same all (process p) h = h
key_found (resource r ∷ rest) d = (tt, each_map (IsKeyBy rest) (IsKeyBy (resource r ∷ rest)) (same rest) rest (key_found rest d))
  where
    same : (all : List ItemTree) (i : ItemTree) → IsKeyBy all i → IsKeyBy (resource r ∷ all) i
    same all (input i) h = tt
    same all (output o) h = tt
    same all (resource r) h = tt
    same all (process p) h = h
key_found (process p ∷ rest) d = (
  ap (λ b. cond b (resource_name p.name p.inside) (key_by p.name.text rest)) (same_bytes p.name.text),
  behind p rest rest (none_each (bytes_eq p.name.text) (flat_map process_name rest) d.0) (key_found rest d.1),
)

-- a port's resource is that of its process's name
abbrev pub IsGrouped : List ItemTree → List (List ℕ) → PortTree → Type 0
IsGrouped all groups p = p.group ≡ (if block_uses_var p.body then number_among (key_by p.process all) groups else 0)

grouped : (all : List ItemTree) (ops : List OpHead) (first : ℕ) (items : List ItemTree) → Each (IsKeyBy all) items → Each (IsGrouped all (resolved_groups all)) (resolved_ports all ops first items)
grouped all ops first [] h = tt
grouped all ops first (input i ∷ rest) h = grouped all ops (first + 0) rest h.1
grouped all ops first (output o ∷ rest) h = grouped all ops (first + 0) rest h.1
grouped all ops first (resource r ∷ rest) h = grouped all ops (first + 0) rest h.1
grouped all ops first (process q ∷ rest) h =
    each_append _ (resolved_ports_of all ops first (process q)) (resolved_ports all ops (first + length (vars_of (process q))) rest)
    (each_mapped (IsGrouped all (resolved_groups all)) (resolved_port all q.name.text (resource_name q.name q.inside) ops q.vars first) q.ports (each_of _ (one) q.ports))
    (grouped all ops (first + length (vars_of (process q))) rest h.1)
  where
    one : (p : PortDeclTree) → IsGrouped all (resolved_groups all) (resolved_port all q.name.text (resource_name q.name q.inside) ops q.vars first p)
    one p = ap (λ k. if block_uses_var (resolved_port all q.name.text (resource_name q.name q.inside) ops q.vars first p).body then number_among k (resolved_groups all) else 0) (sym h.0)

under_one : (all : List ItemTree) (groups : List (List ℕ)) (p q : PortTree) → IsGrouped all groups p → IsGrouped all groups q → IsUnderOne p q
under_one all groups p q a b same u v =
    a ∙ ap (λ x. if x then number_among (key_by p.process all) groups else 0) u
    ∙ ap (λ n. number_among (key_by n all) groups) same
    ∙ sym (b ∙ ap (λ x. if x then number_among (key_by q.process all) groups else 0) v)

-- each port's resource is that of its process's name
pub all_grouped : (all : List ItemTree) (ops : List OpHead) → AreDifferent (flat_map process_name all) → Each (IsGrouped all (resolved_groups all)) (resolved_ports all ops 0 all)
all_grouped all ops d = grouped all ops 0 all (key_found all d)

-- the ports of one process are under one resource
pub all_under_one : (all : List ItemTree) (ops : List OpHead) → AreDifferent (flat_map process_name all) → Each (λ p. Each (IsUnderOne p) (resolved_ports all ops 0 all)) (resolved_ports all ops 0 all)
all_under_one all ops d =
    let h = all_grouped all ops d in
    each_map (IsGrouped all (resolved_groups all)) (λ p. Each (IsUnderOne p) (resolved_ports all ops 0 all))
    (λ p a. each_map (IsGrouped all (resolved_groups all)) (IsUnderOne p) (λ q b. under_one all (resolved_groups all) p q a b) (resolved_ports all ops 0 all) h)
    (resolved_ports all ops 0 all) h
