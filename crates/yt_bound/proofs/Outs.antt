-- What is read of an out that is there.
use Rattle.std.proofs.Common.{◌≡◌, ℕ, zero, suc, ◌-◌, ◌*◌, ◌/◌, ◌<◌, ◌≤◌, List, [], ◌∷◌, length, slice_get, Option, Some, refl, sym, ap, ap₂, ◌∙◌, arith}
use Rattle.std.specs.Prelude.{⊤, IsSomeAnd}
use Rattle.std.specs.Option.{option_map, unwrap_or}
use Rattle.std.proofs.lemmas.Option.{same_Some, slice_get_within}
use Rattle.yt_cost.proofs.Lemmas.{port_is}
use Rattle.yt_cost.specs.Codes.{PortCode, AreCodesOf, ForCode}
use Rattle.yt_graph.specs.Cost.{greatest_sends}
use Rattle.yt_graph.specs.declared.graph.Graph.{Graph}
use Rattle.yt_graph.specs.declared.port.OutHead.{OutHead}
use Rattle.yt_graph.specs.declared.port.Port.{Port}
use Rattle.yt_graph.specs.Picture.{GraphTree, PortTree, graph_tree, port_tree}
use Rattle.yt_graph.specs.WellFormed.{IsWellFormed}
use Rattle.yt_list.proofs.Lemmas.{numbered_place}
use Rattle.yt_list.specs.Numbered.{numbered, numbered_or}
use Rattle.yt_rates.proofs.Lemmas.{of_some}
use Rattle.yt_rates.specs.Rates.{every_of}
use Rattle.yt_serial.proofs.Lemmas.{every_some}
use Rattle.yt_serial.specs.Bounds.{greatest_passed}
use Rattle.yt_bound.specs.Inside.Feeds.{IsOut}

number_at : {X : Type 0} (xs : List X) (n : ℕ) → 1 ≤ n → n ≤ length xs → (x : X) × (numbered xs n ≡ Some x)
number_at [] n some le = absurd (omega arith)
number_at (x ∷ xs) zero some le = absurd (omega arith)
number_at (x ∷ xs) (suc zero) some le = (x, refl)
number_at (x ∷ xs) (suc (suc n)) some le = number_at xs (suc n) (omega arith) (omega arith)

-- the graph has an out of a number at a port of a number: the port, where it stands, and how many ports and outs there are
pub record HasOut (g : GraphTree) (port out : ℕ) : Type 0 where
  pub tree : PortTree
  pub at : numbered g.ports port ≡ Some tree
  pub place : slice_get g.ports (port - 1) ≡ Some tree
  pub ports : (1 ≤ port) × (port ≤ length g.ports)
  pub outs : (1 ≤ out) × (out ≤ length tree.outs)

pub there : (g : GraphTree) (port out : ℕ) → IsOut g port out → HasOut g port out
there g port out is =
    let p = of_some (λ (p : PortTree). IsSomeAnd (slice_get p.outs is.1) (λ (h : OutHead). ⊤)) (slice_get g.ports is.0) is.4 in
    let h = of_some (λ (h : OutHead). ⊤) (slice_get p.0.outs is.1) p.2 in
    let a = slice_get_within g.ports is.0 p.0 p.1 in
    let b = slice_get_within p.0.outs is.1 h.0 h.1 in
    let place : port - 1 ≡ is.0 = omega (arith, is.2) in
    record {
      tree = p.0;
      at = ap (numbered g.ports) is.2 ∙ p.1;
      place = ap (slice_get g.ports) place ∙ p.1;
      ports = (omega (arith, is.2), omega (arith, is.2));
      outs = (omega (arith, is.3), omega (arith, is.3));
    }

-- a port that is read at its place in a graph
module _ (gr same : Graph) (is_graph : same ≡ gr) (port out : ℕ) (is : IsOut (graph_tree gr) port out) (q : Port) (read : slice_get same.ports (port - 1) ≡ Some q) where
  pub tree_is : (there (graph_tree gr) port out is).tree ≡ port_tree q
  tree_is =
      let t = there (graph_tree gr) port out is in
      same_Some t.tree (port_tree q) (sym t.place ∙ port_is gr.ports (port - 1) q (ap (λ (g : Graph). slice_get g.ports (port - 1)) (sym is_graph) ∙ read))

  -- the out is one of its outs
  pub out_in : out - 1 < length q.outs
  out_in =
      let t = there (graph_tree gr) port out is in
      let long : length t.tree.outs ≡ length q.outs = ap (λ (p : PortTree). length p.outs) tree_is in
      omega (arith, t.outs.0, t.outs.1)

  -- with what is read of the out and of the port's code
  module _ (well : IsWellFormed (graph_tree gr)) (h : OutHead) (at : slice_get q.outs (out - 1) ≡ Some h) (codes : List PortCode) (are : AreCodesOf (graph_tree gr) codes) where
    pub every_is : h.every ≡ every_of (there (graph_tree gr) port out is).tree out
    every_is =
        let t = there (graph_tree gr) port out is in
        let head : numbered t.tree.outs out ≡ Some h = ap (λ (p : PortTree). numbered p.outs out) tree_is ∙ numbered_place q.outs out t.outs.0 ∙ at in
        sym (ap (λ (o : Option OutHead). unwrap_or (option_map (λ (x : OutHead). x.every) o) 1) head)

    pub every_positive : 1 ≤ h.every
    every_positive = let t = there (graph_tree gr) port out is in let some = every_some (graph_tree gr) well port out t.tree t.at in let e = every_is in omega arith

    pub codes_in : port ≤ length codes
    codes_in = let t = there (graph_tree gr) port out is in omega (arith, t.ports.1, are.count)

    pub sends_in : ForCode codes port (λ kept. out ≤ length kept.sends)
    sends_in = λ kept kept_at. let t = there (graph_tree gr) port out is in omega (arith, t.outs.1, (are.each port t.tree t.at kept kept_at).sends.count)

    -- what the out passes on at most
    pub passed_is : (sends messages : ℕ) → ForCode codes port (λ kept. sends ≡ numbered_or kept.sends out 0) → (p : PortTree) → numbered (graph_tree gr).ports port ≡ Some p → messages / h.every * sends ≡ greatest_passed p out messages
    passed_is sends messages read p p_at =
        let t = there (graph_tree gr) port out is in
        let kept = number_at codes port t.ports.0 codes_in in
        let count : sends ≡ greatest_sends t.tree out = read kept.0 kept.1 ∙ (are.each port t.tree t.at kept.0 kept.1).sends.each out t.outs.0 t.outs.1 in
        let same : t.tree ≡ p = same_Some t.tree p (sym t.at ∙ p_at) in
        ap₂ (λ (e s : ℕ). messages / e * s) every_is count ∙ ap (λ (x : PortTree). greatest_passed x out messages) same
