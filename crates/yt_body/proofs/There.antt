-- What is kept of an out of a port that is there.
use Rattle.std.proofs.Common.{◌≡◌, ℕ, zero, suc, ◌+◌, ◌-◌, ◌<◌, ◌≤◌, List, [], ◌∷◌, ◌++◌, length, drop, slice_get, Option, Some, refl, sym, ap, subst, ◌∙◌, arith}
use Rattle.std.specs.Prelude.{⊤, IsSomeAnd}
use Rattle.std.proofs.lemmas.Option.{same_Some}
use Rattle.yt_chan.specs.declared.wire.Wire.{Wire}
use Rattle.yt_cost.proofs.Lemmas.{fine_port, port_is}
use Rattle.yt_cost.specs.Codes.{PortCode, AreCodesOf, ForCode}
use Rattle.yt_graph.specs.Cost.{greatest_sends}
use Rattle.yt_graph.specs.declared.graph.Graph.{Graph}
use Rattle.yt_graph.specs.declared.port.OutHead.{OutHead}
use Rattle.yt_graph.specs.declared.port.Port.{Port}
use Rattle.yt_graph.specs.Limits.{most_outs}
use Rattle.yt_graph.specs.Picture.{GraphTree, PortTree, graph_tree, port_tree}
use Rattle.yt_graph.specs.WellFormed.{IsWellFormed}
use Rattle.yt_list.proofs.Lemmas.{numbered_next, numbered_place, numbered_there}
use Rattle.yt_list.specs.Numbered.{numbered, numbered_or}
use Rattle.yt_rates.specs.declared.stream.Stream.{Stream}
use Rattle.yt_rates.specs.Rates.{gap_of, passed_on, period_of, stream_of}
use Rattle.yt_rates.specs.Tables.{PortRates, AreRatesOf, ForRates}
use Rattle.yt_serial.proofs.Lemmas.{numbered_within}
use Rattle.yt_body.specs.Wiring.{outputs_fed, ports_fed, wire_of, wires_of_outs, wires_of_ports}
use Rattle.yt_body.specs.Inside.OneWire.{IsOutOf, IsWireOf}
use Rattle.yt_body.proofs.Numbers.{outs_more, outs_over, ports_more}
use Rattle.yt_body.proofs.Sound.{of_some}

-- an out of a port
pub record IsThere (g : GraphTree) (port out : ℕ) : Type 0 where
  pub tree : PortTree
  pub at : numbered g.ports port ≡ Some tree
  pub head : OutHead
  pub out_at : numbered tree.outs out ≡ Some head

pub there : (g : GraphTree) (port out : ℕ) → IsOutOf g port out → IsThere g port out
there g port out is =
    let p = of_some (λ (p : PortTree). IsSomeAnd (numbered p.outs out) (λ head. ⊤)) (numbered g.ports port) is in
    let o = of_some (λ (o : OutHead). ⊤) (numbered p.0.outs out) p.2 in
    record { tree = p.0; at = p.1; head = o.0; out_at = o.1 }

pub is_out : (g : GraphTree) (port out : ℕ) (p : PortTree) (head : OutHead) → numbered g.ports port ≡ Some p → numbered p.outs out ≡ Some head → IsOutOf g port out
is_out g port out p head at out_at =
    subst (λ (o : Option PortTree). IsSomeAnd o (λ p. IsSomeAnd (numbered p.outs out) (λ head. ⊤))) (sym at) (subst (λ (o : Option OutHead). IsSomeAnd o (λ head. ⊤)) (sym out_at) tt)

pub number_at : {X : Type 0} (xs : List X) (n : ℕ) → 1 ≤ n → n ≤ length xs → (x : X) × (numbered xs n ≡ Some x)
number_at [] n some le = absurd (omega arith)
number_at (x ∷ xs) zero some le = absurd (omega arith)
number_at (x ∷ xs) (suc zero) some le = (x, refl)
number_at (x ∷ xs) (suc (suc n)) some le = number_at xs (suc n) (omega arith) (omega arith)

module _ (g : GraphTree) (port out : ℕ) (t : IsThere g port out) where
  pub inside : (1 ≤ port) × (port ≤ length g.ports) × (1 ≤ out) × (out ≤ length t.tree.outs)
  inside =
      let p = numbered_within g.ports port t.tree t.at in
      let o = numbered_within t.tree.outs out t.head t.out_at in
      (p.0, p.1, o.0, o.1)

  pub code_there : (codes : List PortCode) → AreCodesOf g codes → port ≤ length codes
  code_there codes are = let p = inside.1 in let c = are.count in omega arith

  pub sends_there : (codes : List PortCode) → AreCodesOf g codes → ForCode codes port (λ kept. out ≤ length kept.sends)
  sends_there codes are = λ kept at. let o = inside.3 in let c = (are.each port t.tree t.at kept at).sends.count in omega arith

  pub rates_there : (rates : List PortRates) → AreRatesOf g rates → port ≤ length rates
  rates_there rates are = let p = inside.1 in let c = are.count in omega arith

  pub gaps_there : (rates : List PortRates) → AreRatesOf g rates → ForRates rates port (λ kept. out ≤ length kept.outs)
  gaps_there rates are = λ kept at. let o = inside.3 in let c = (are.each port t.tree t.at kept at).outs.count in omega arith

  sends_is : (codes : List PortCode) (n : ℕ) → AreCodesOf g codes → ForCode codes port (λ kept. n ≡ numbered_or kept.sends out 0) → n ≡ greatest_sends t.tree out
  sends_is codes n are is =
      let kept = number_at codes port inside.0 (code_there codes are) in
      is kept.0 kept.1 ∙ (are.each port t.tree t.at kept.0 kept.1).sends.each out inside.2 inside.3

  period_is : (rates : List PortRates) (n : ℕ) → AreRatesOf g rates → ForRates rates port (λ kept. n ≡ kept.stream.period) → n ≡ period_of g t.tree
  period_is rates n are is =
      let kept = number_at rates port inside.0 (rates_there rates are) in
      is kept.0 kept.1 ∙ ap (λ (s : Stream). s.period) (are.each port t.tree t.at kept.0 kept.1).stream

  gap_is : (rates : List PortRates) (n : ℕ) → AreRatesOf g rates → ForRates rates port (λ kept. IsSomeAnd (numbered kept.outs out) (λ s. n ≡ s.period)) → n ≡ gap_of g t.tree out
  gap_is rates n are is =
      let kept = number_at rates port inside.0 (rates_there rates are) in
      let s = of_some (λ (s : Stream). n ≡ s.period) (numbered kept.0.outs out) (is kept.0 kept.1) in
      let each = (are.each port t.tree t.at kept.0 kept.1).outs.each out inside.2 inside.3 in
      s.2 ∙ ap (λ (s : Stream). s.period) (same_Some s.0 (passed_on t.tree (stream_of g t.tree) out) (sym s.1 ∙ each))

  -- the wire that is made of what is kept of the out
  pub wire_is : (codes : List PortCode) (rates : List PortRates) (w : Wire) → AreCodesOf g codes → AreRatesOf g rates → w.port ≡ port → w.out ≡ out → w.width ≡ t.head.width → w.every ≡ t.head.every
      → ForCode codes port (λ kept. w.sends ≡ numbered_or kept.sends out 0) → ForRates rates port (λ kept. w.period ≡ kept.stream.period)
      → ForRates rates port (λ kept. IsSomeAnd (numbered kept.outs out) (λ s. w.gap ≡ s.period)) → w.ports ≡ ports_fed port out g.ports → w.outputs ≡ outputs_fed port out g.outputs → IsWireOf g port out w
  wire_is codes rates w of_codes of_rates at_port at_out width every sends period gap ports outputs =
      λ p at head out_at.
      let same : t.tree ≡ p = same_Some t.tree p (sym t.at ∙ at) in
      let same_head : t.head ≡ head = same_Some t.head head (sym t.out_at ∙ ap (λ (q : PortTree). numbered q.outs out) same ∙ out_at) in
      let s = sends_is codes w.sends of_codes sends in
      let d = period_is rates w.period of_rates period in
      let e = gap_is rates w.gap of_rates gap in
      let own : w ≡ wire_of g port t.tree out t.head =
      λ i. record { port = at_port i; out = at_out i; width = width i; sends = s i; every = every i; period = d i; gap = e i; ports = ports i; outputs = outputs i } in
      own ∙ ap (λ (q : PortTree). wire_of g port q out t.head) same ∙ ap (wire_of g port p out) same_head

-- a port of a graph that is read at its place
module _ (gr same : Graph) (is : same ≡ gr) (port : ℕ) (some : 1 ≤ port) (q : Port) (read : slice_get same.ports (port - 1) ≡ Some q) where
  at_number : numbered (graph_tree gr).ports port ≡ Some (port_tree q)
  at_number =
      numbered_place (graph_tree gr).ports port some ∙ port_is gr.ports (port - 1) q (ap (λ (g : Graph). slice_get g.ports (port - 1)) (sym is) ∙ read)

  -- it is the one of its number
  pub tree_is : (p : PortTree) → numbered (graph_tree gr).ports port ≡ Some p → p ≡ port_tree q
  tree_is p at = same_Some p (port_tree q) (sym at ∙ at_number)

  -- it has no more outs than it may
  pub few_outs : IsWellFormed (graph_tree gr) → length q.outs ≤ most_outs
  few_outs well = (fine_port (graph_tree gr) (port - 1) (port_tree q) well (numbered_there (graph_tree gr).ports port (port_tree q) at_number).1).6

  -- an out that is there is among its outs
  pub head_there : (out : ℕ) → IsOutOf (graph_tree gr) port out → out - 1 < length q.outs
  head_there out at_out =
      let t = there (graph_tree gr) port out at_out in
      let long = ap (λ (p : PortTree). length p.outs) (tree_is t.tree t.at) in
      let o = inside (graph_tree gr) port out t in
      omega (arith, o.2, o.3)

  -- each of its outs is there
  pub out_there : (k : ℕ) → k < length q.outs → IsOutOf (graph_tree gr) port (k + 1)
  out_there k lt =
      let h = number_at q.outs (k + 1) (omega arith) (omega arith) in
      is_out (graph_tree gr) port (k + 1) (port_tree q) h.0 at_number h.1

  -- the wire that is made of what is read
  pub wire_read : (out : ℕ) (h : OutHead) → IsOutOf (graph_tree gr) port out → slice_get q.outs (out - 1) ≡ Some h → (codes : List PortCode) (rates : List PortRates) (w : Wire) →
      AreCodesOf (graph_tree gr) codes → AreRatesOf (graph_tree gr) rates → w.port ≡ port → w.out ≡ out → w.width ≡ h.width → w.every ≡ h.every →
      ForCode codes port (λ kept. w.sends ≡ numbered_or kept.sends out 0) → ForRates rates port (λ kept. w.period ≡ kept.stream.period) →
      ForRates rates port (λ kept. IsSomeAnd (numbered kept.outs out) (λ s. w.gap ≡ s.period)) → w.ports ≡ ports_fed port out (graph_tree gr).ports → w.outputs ≡ outputs_fed port out gr.outputs →
      IsWireOf (graph_tree gr) port out w
  wire_read out h there_is at_head =
      let o = inside (graph_tree gr) port out (there (graph_tree gr) port out there_is) in
      let t : IsThere (graph_tree gr) port out = record { tree = port_tree q; at = at_number; head = h; out_at = numbered_place q.outs out o.2 ∙ at_head } in
      wire_is (graph_tree gr) port out t

  -- one more of its wires is made
  pub outs_step : (k : ℕ) (w : Wire) (done next start : List Wire) → k < length q.outs → IsWireOf (graph_tree gr) port (k + 1) w → next ≡ done ++ w ∷ [] →
      ((p : PortTree) → numbered (graph_tree gr).ports port ≡ Some p → done ++ wires_of_outs (graph_tree gr) port p (k + 1) (drop k p.outs) ≡ start ++ wires_of_outs (graph_tree gr) port p 1 p.outs) →
      (p : PortTree) → numbered (graph_tree gr).ports port ≡ Some p → next ++ wires_of_outs (graph_tree gr) port p (k + 1 + 1) (drop (k + 1) p.outs) ≡ start ++ wires_of_outs (graph_tree gr) port p 1 p.outs
  outs_step k w done next start lt wire new made p at =
      let long = ap (λ (p : PortTree). length p.outs) (tree_is p at) in
      let h = number_at p.outs (k + 1) (omega arith) (omega arith) in
      outs_more (graph_tree gr) port p k h.0 w done next (start ++ wires_of_outs (graph_tree gr) port p 1 p.outs) (sym (numbered_next p.outs k) ∙ h.1) (wire p at h.0 h.1) new (made p at)

  -- all of them are made
  pub outs_end : (k : ℕ) (done start : List Wire) → length q.outs ≤ k →
      ((p : PortTree) → numbered (graph_tree gr).ports port ≡ Some p → done ++ wires_of_outs (graph_tree gr) port p (k + 1) (drop k p.outs) ≡ start ++ wires_of_outs (graph_tree gr) port p 1 p.outs) →
      (p : PortTree) → numbered (graph_tree gr).ports port ≡ Some p → done ≡ start ++ wires_of_outs (graph_tree gr) port p 1 p.outs
  outs_end k done start le made p at =
      let long = ap (λ (p : PortTree). length p.outs) (tree_is p at) in
      outs_over (graph_tree gr) port p k done (start ++ wires_of_outs (graph_tree gr) port p 1 p.outs) (omega arith) (made p at)

-- the wires of one more port are made
pub ports_step : (g : GraphTree) (k : ℕ) (done next all : List Wire) → k < length g.ports → ((p : PortTree) → numbered g.ports (k + 1) ≡ Some p → next ≡ done ++ wires_of_outs g (k + 1) p 1 p.outs) →
    done ++ wires_of_ports g (k + 1) (drop k g.ports) ≡ all → next ++ wires_of_ports g (k + 1 + 1) (drop (k + 1) g.ports) ≡ all
ports_step g k done next all lt new =
    let p = number_at g.ports (k + 1) (omega arith) (omega arith) in
    ports_more g k p.0 done next all (sym (numbered_next g.ports k) ∙ p.1) (new p.0 p.1)
