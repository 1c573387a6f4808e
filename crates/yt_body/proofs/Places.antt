-- Each out of a graph has its wire.
use Rattle.std.proofs.Common.{◌≡◌, ℕ, zero, suc, ◌+◌, ◌-◌, ◌<◌, ◌≤◌, List, [], ◌∷◌, ◌++◌, length, slice_get, Some, refl, sym, ap, subst, ◌∙◌, arith}
use Rattle.std.proofs.lemmas.Option.{none-some, same_Some, slice_get_within, get_or_from_slice_get}
use Rattle.yt_graph.specs.declared.port.OutHead.{OutHead}
use Rattle.yt_graph.specs.Picture.{GraphTree, PortTree}
use Rattle.yt_list.specs.Numbered.{numbered}
use Rattle.yt_list.proofs.Lemmas.{numbered_there}
use Rattle.yt_chan.specs.declared.wire.Wire.{Wire}
use Rattle.yt_chan.specs.Wires.{AreWires, no_wire, wire_at, wire_of_out}
use Rattle.yt_chan.proofs.Lemmas.{own_line}
use Rattle.yt_body.specs.Wiring.{widths_of, wire_of, wires_of, wires_of_outs, wires_of_ports}

get_left : {X : Type 0} (xs ys : List X) (k : ℕ) (x : X) → slice_get xs k ≡ Some x → slice_get (xs ++ ys) k ≡ Some x
get_left [] ys k x h = absurd (none-some x h)
get_left (z ∷ xs) ys zero x h = h
get_left (z ∷ xs) ys (suc k) x h = get_left xs ys k x h

get_right : {X : Type 0} (xs ys : List X) (k : ℕ) → slice_get (xs ++ ys) (length xs + k) ≡ slice_get ys k
get_right [] ys k = let e : 0 + k ≡ k = omega arith in ap (slice_get ys) e
get_right (z ∷ xs) ys k =
    let e : suc (length xs) + k ≡ suc (length xs + k) = omega arith in
    ap (slice_get (z ∷ (xs ++ ys))) e ∙ get_right xs ys k

place_outs : (g : GraphTree) (port : ℕ) (p : PortTree) (n : ℕ) (outs : List OutHead) (j : ℕ) (head : OutHead) → slice_get outs j ≡ Some head → slice_get (wires_of_outs g port p n outs) j ≡ Some (wire_of g port p (n + j) head)
place_outs g port p n [] j head h = absurd (none-some head h)
place_outs g port p n (o ∷ outs) zero head h =
    let e : n ≡ n + 0 = omega arith in
    ap (λ (o : OutHead). Some (wire_of g port p n o)) (same_Some o head h) ∙ ap (λ (m : ℕ). Some (wire_of g port p m head)) e
place_outs g port p n (o ∷ outs) (suc j) head h =
    let e : n + 1 + j ≡ n + suc j = omega arith in
    place_outs g port p (n + 1) outs j head h ∙ ap (λ (m : ℕ). Some (wire_of g port p m head)) e

place_ports : (g : GraphTree) (n : ℕ) (ports : List PortTree) (i : ℕ) (p : PortTree) (j : ℕ) (head : OutHead) → slice_get ports i ≡ Some p → slice_get p.outs j ≡ Some head →
    (k : ℕ) × (slice_get (wires_of_ports g n ports) k ≡ Some (wire_of g (n + i) p (suc j) head))
place_ports g n [] i p j head there out = absurd (none-some p there)
place_ports g n (q ∷ ports) zero p j head there out =
    let same : q ≡ p = same_Some q p there in
    let e : n ≡ n + 0 = omega arith in
    let f : 1 + j ≡ suc j = omega arith in
    let own : slice_get (wires_of_outs g n p 1 p.outs) j ≡ Some (wire_of g (n + 0) p (suc j) head) =
    place_outs g n p 1 p.outs j head out ∙ ap (λ (m : ℕ). Some (wire_of g n p m head)) f ∙ ap (λ (m : ℕ). Some (wire_of g m p (suc j) head)) e in
    let here : slice_get (wires_of_outs g n q 1 q.outs) j ≡ Some (wire_of g (n + 0) p (suc j) head) =
    ap (λ (x : PortTree). slice_get (wires_of_outs g n x 1 x.outs) j) same ∙ own in
    (j, get_left (wires_of_outs g n q 1 q.outs) (wires_of_ports g (n + 1) ports) j (wire_of g (n + 0) p (suc j) head) here)
place_ports g n (q ∷ ports) (suc i) p j head there out =
    let r = place_ports g (n + 1) ports i p j head there out in
    let e : n + 1 + i ≡ n + suc i = omega arith in (
      length (wires_of_outs g n q 1 q.outs) + r.0,
      get_right (wires_of_outs g n q 1 q.outs) (wires_of_ports g (n + 1) ports) r.0 ∙ r.1 ∙ ap (λ (m : ℕ). Some (wire_of g m p (suc j) head)) e,
    )

-- an out of a port has its wire
pub record HasWire (g : GraphTree) (port : ℕ) (p : PortTree) (out : ℕ) (head : OutHead) : Type 0 where
  pub there : wire_of_out (wires_of g) port out < length (wires_of g)
  pub is : wire_at (wires_of g) (wire_of_out (wires_of g) port out) ≡ wire_of g port p out head

pub has_wire : (g : GraphTree) → AreWires (widths_of g) (wires_of g) → (port : ℕ) (p : PortTree) (out : ℕ) (head : OutHead) → numbered g.ports port ≡ Some p → numbered p.outs out ≡ Some head → HasWire g port p out head
has_wire g are port p out head at out_at =
    let a = numbered_there g.ports port p at in
    let b = numbered_there p.outs out head out_at in
    let some = a.0 in
    let some_out = b.0 in
    let r = place_ports g 1 g.ports (port - 1) p (out - 1) head a.1 b.1 in
    let k = r.0 in
    let lt = slice_get_within (wires_of g) k (wire_of g (1 + (port - 1)) p (suc (out - 1)) head) r.1 in
    let e : 1 + (port - 1) ≡ port = omega arith in
    let f : suc (out - 1) ≡ out = omega arith in
    let is : wire_at (wires_of g) k ≡ wire_of g port p out head =
    get_or_from_slice_get (wires_of g) k (wire_of g (1 + (port - 1)) p (suc (out - 1)) head) no_wire r.1
    ∙ ap (λ (m : ℕ). wire_of g m p (suc (out - 1)) head) e ∙ ap (λ (m : ℕ). wire_of g port p m head) f in
    let own : wire_of_out (wires_of g) port out ≡ k =
    ap (λ (w : Wire). wire_of_out (wires_of g) w.port w.out) (sym is) ∙ own_line (widths_of g) (wires_of g) are k lt in
    record {
      there = omega arith;
      is = ap (wire_at (wires_of g)) own ∙ is;
    }
