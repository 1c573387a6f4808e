-- A port of a part is the port of the graph that has its number.
use Rattle.std.proofs.Common.{◌≡◌, ℕ, zero, suc, ◌+◌, ◌<◌, List, [], ◌∷◌, ◌++◌, length, slice_get, unwrap_or, Option, Some, None, IfSome, bytes_eq, refl, sym, ap, ◌∙◌, subst, append_assoc, arith}
use Rattle.std.proofs.lemmas.List.{length-append}
use Rattle.std.proofs.lemmas.Option.{none-some}
use Rattle.std.specs.Option.{option_and_then, option_map}
use Rattle.yt_graph.specs.declared.ast.Path.{Path}
use Rattle.yt_graph.specs.AstPicture.{PortDeclTree, ItemTree, input, output, resource, process}
use Rattle.yt_table.specs.Tables.{first_of}
use Rattle.yt_table.proofs.Lemmas.{numbered_from, index_within}
use Rattle.yt_name_faults.specs.Names.{port_names, item_names}
use Rattle.yt_name_faults.specs.Paths.{Placed, ports_of, all_ports, placed_from, placed_named, out_of_port, port_at, in_part}
use Rattle.yt_name_faults.specs.Inside.OwnParts.{own_port_at, in_own_part}
use Rattle.yt_name_faults.proofs.PartLemmas.{length_named}

-- an item of the first of two lists, and one of the second
in_first : {X : Type 0} (xs ys : List X) (k : ℕ) → k < length xs → slice_get (xs ++ ys) k ≡ slice_get xs k
in_first [] ys k lt = absurd (omega (arith, lt))
in_first (x ∷ xs) ys zero lt = refl
in_first (x ∷ xs) ys (suc k) lt = in_first xs ys k (omega arith)

in_second : {X : Type 0} (xs ys : List X) (k : ℕ) → slice_get (xs ++ ys) (length xs + k) ≡ slice_get ys k
in_second [] ys k =
    let same : 0 + k ≡ k = omega arith in
    ap (slice_get ys) same
in_second (x ∷ xs) ys k =
    let same : suc (length xs) + k ≡ suc (length xs + k) = omega arith in
    ap (slice_get (x ∷ xs ++ ys)) same ∙ in_second xs ys k

-- a port of the part at a place, where some ports stand before these parts
placed_port : (front : List PortDeclTree) (all : List ItemTree) (n base : ℕ) (p : Placed) (k : ℕ)
    → length front ≡ base → slice_get (placed_from base all) n ≡ Some p → k < length (ports_of p.item)
    → slice_get (front ++ all_ports all) (p.first + k) ≡ slice_get (ports_of p.item) k
placed_port front [] n base p k e at lt = absurd (none-some p at)
placed_port front (i ∷ rest) zero base p k e at lt =
    let same : record { first = base; item = i } ≡ p = ap (λ (o : Option Placed). unwrap_or o p) at in
    let here = subst (λ (q : Placed). k < length (ports_of q.item)) (sym same) lt in
    subst (λ (q : Placed). slice_get (front ++ all_ports (i ∷ rest)) (q.first + k) ≡ slice_get (ports_of q.item) k) same
    (ap (λ b. slice_get (front ++ all_ports (i ∷ rest)) (b + k)) (sym e)
    ∙ in_second front (ports_of i ++ all_ports rest) k
    ∙ in_first (ports_of i) (all_ports rest) k here)
placed_port front (i ∷ rest) (suc n) base p k e at lt =
    ap (λ l. slice_get l (p.first + k)) (sym (append_assoc front (ports_of i) (all_ports rest)))
    ∙ placed_port (front ++ ports_of i) rest n (base + length (ports_of i)) p k (length-append front (ports_of i) ∙ ap (λ b. b + length (ports_of i)) e) at lt

-- the port of a name among those of a part that a place of the graph has
own_port : (all : List ItemTree) (path : Path) (n : ℕ) (p : Placed) → slice_get (placed_from 0 all) n ≡ Some p
    → port_at all path (first_of path.port.text p.first (port_names (ports_of p.item))) ≡ own_port_at path p.first (ports_of p.item) (first_of path.port.text 0 (port_names (ports_of p.item)))
own_port all path n p at =
    ap (port_at all path) (numbered_from (bytes_eq path.port.text) p.first (port_names (ports_of p.item)))
    ∙ by (first_of path.port.text 0 (port_names (ports_of p.item))) (index_within (bytes_eq path.port.text) (port_names (ports_of p.item)))
  where
    by : (o : Option ℕ) → IfSome o (λ k. k < length (port_names (ports_of p.item))) → port_at all path (option_map (λ k. p.first + k) o) ≡ own_port_at path p.first (ports_of p.item) o
    by None within = refl
    by (Some k) within = ap (out_of_port path (p.first + k)) (placed_port [] all n 0 p k refl at (omega (arith, within, length_named (ports_of p.item))))

in_placed_part : (all : List ItemTree) (path : Path) (n first : ℕ) (item : ItemTree) → slice_get (placed_from 0 all) n ≡ Some (record { first = first; item = item })
    → in_part all path first item ≡ in_own_part path first item
in_placed_part all path n first (process p) at = own_port all path n (record { first = first; item = process p }) at
in_placed_part all path n first (input i) at = refl
in_placed_part all path n first (output o) at = refl
in_placed_part all path n first (resource r) at = refl

-- what a path leads to in the part that its first word stands for
pub in_named_part : (all : List ItemTree) (path : Path) (name : List ℕ) (p : Placed) → placed_named all name ≡ Some p → in_part all path p.first p.item ≡ in_own_part path p.first p.item
unfolding placed_named
in_named_part all path name p named = by (first_of name 0 (item_names all)) named
  where
    by : (o : Option ℕ) → option_and_then (slice_get (placed_from 0 all)) o ≡ Some p → in_part all path p.first p.item ≡ in_own_part path p.first p.item
    by None e = absurd (none-some p e)
    by (Some n) e = in_placed_part all path n p.first p.item e
