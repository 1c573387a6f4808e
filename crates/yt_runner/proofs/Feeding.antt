-- Whether an input feeds a port, by the list of ports.
use Rattle.std.proofs.Common.{◌≡◌, ◌≢◌, ℕ, zero, suc, ◌<◌, Bool, true, false, List, [], ◌∷◌, length, slice_get, Some, refl, sym, ap, ◌∙◌, arith}
use Rattle.std.specs.Bool.{MatchBool}
use Rattle.std.specs.List.{AllWithin, HoldsAt}
use Rattle.std.specs.Option.{option_map}
use Rattle.std.proofs.lemmas.List.{length-map}
use Rattle.std.proofs.lemmas.Option.{get_or_from_slice_get, none-some, same_Some, slice_get-map, slice_get_within}
use Rattle.yt_graph.specs.declared.graph.Graph.{Graph}
use Rattle.yt_graph.specs.declared.port.Feed.TheVariants.{Input}
use Rattle.yt_graph.specs.declared.port.Port.{Port}
use Rattle.yt_graph.specs.Picture.{PortTree, graph_tree, port_tree}
use Rattle.yt_body_laws.specs.Placing.{FeedsSome, IsFedBy}

-- a place of a list has an item
item_at : {X : Type 0} (xs : List X) (i : ℕ) → i < length xs → (x : X) × (slice_get xs i ≡ Some x)
item_at [] i lt = absurd (omega arith)
item_at (x ∷ xs) zero lt = (x, refl)
item_at (x ∷ xs) (suc i) lt = item_at xs i (omega arith)

-- what a search of the ports answers: one of them is fed by the input, or none is
abbrev pub Found : List Port → ℕ → Bool → Type 0
Found ports input r =
    MatchBool r ((k : ℕ) × (k < length ports) × HoldsAt (λ (p : Port). p.feed ≡ Input input) ports k)
    (AllWithin (λ (p : Port). p.feed ≢ Input input) ports 0 (length ports))

pub fed_some : (gr : Graph) (input : ℕ) (r : Bool) → Found gr.ports input r → r ≡ true → FeedsSome (graph_tree gr) input
fed_some gr input false found is = absurd (cc)
fed_some gr input true (k, lt, holds) is =
    let there = item_at gr.ports k lt in
    let feed = sym (ap (λ (p : Port). p.feed) (get_or_from_slice_get gr.ports k there.0 there.0 there.1)) ∙ holds there.0 in
    (suc k, (port_tree there.0, slice_get-map port_tree gr.ports k ∙ ap (option_map port_tree) there.1, feed))

pub fed_none : (gr : Graph) (input : ℕ) (r : Bool) → Found gr.ports input r → r ≡ false → FeedsSome (graph_tree gr) input → ⊥
fed_none gr input true found is fed = absurd (cc)
fed_none gr input false found is (zero, (p, at, feed)) = none-some p at
fed_none gr input false found is (suc k, (p, at, feed)) =
    let within = slice_get_within (graph_tree gr).ports k p at in
    let long = length-map gr.ports port_tree in
    let lt : k < length gr.ports = omega arith in
    let there = item_at gr.ports k lt in
    let same : port_tree there.0 ≡ p = same_Some (port_tree there.0) p (sym (slice_get-map port_tree gr.ports k ∙ ap (option_map port_tree) there.1) ∙ at) in
    let read = get_or_from_slice_get gr.ports k there.0 there.0 there.1 in
    found k there.0 (omega arith) lt (ap (λ (q : Port). q.feed) read ∙ ap (λ (q : PortTree). q.feed) same ∙ feed)

-- a port at a place is fed by an input where its feed is
pub fed_at : (gr : Graph) (place : ℕ) (q : Port) (input : ℕ) → slice_get gr.ports place ≡ Some q → q.feed ≡ Input input → IsFedBy (graph_tree gr) (suc place) input
fed_at gr place q input there feed = (port_tree q, slice_get-map port_tree gr.ports place ∙ ap (option_map port_tree) there, feed)

-- and only there
pub unfed_at : (gr : Graph) (place : ℕ) (q : Port) (input : ℕ) → slice_get gr.ports place ≡ Some q → q.feed ≢ Input input → IsFedBy (graph_tree gr) (suc place) input → ⊥
unfed_at gr place q input there ne (p, at, feed) =
    let same : port_tree q ≡ p = same_Some (port_tree q) p (sym (slice_get-map port_tree gr.ports place ∙ ap (option_map port_tree) there) ∙ at) in
    ne (ap (λ (r : PortTree). r.feed) same ∙ feed)
