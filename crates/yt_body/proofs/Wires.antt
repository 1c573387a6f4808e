-- Which wires a graph has, and in which order.
use Rattle.std.proofs.Common.{◌≡◌, ℕ, zero, suc, ◌+◌, ◌<◌, ◌≤◌, ◌⊎◌, Bool, true, false, cond, List, [], ◌∷◌, ◌++◌, length, get_or, slice_get, Some, refl, sym, ap, subst, ◌∙◌, inl, inr, ⊎_elim, arith}
use Rattle.std.specs.List.{Contains}
use Rattle.std.proofs.lemmas.Option.{none-some, same_Some, slice_get_within}
use Rattle.yt_graph.specs.declared.port.OutHead.{OutHead}
use Rattle.yt_graph.specs.Picture.{GraphTree, PortTree}
use Rattle.yt_chan.specs.declared.wire.Wire.{Wire}
use Rattle.yt_log.specs.Tasks.{Has}
use Rattle.yt_log.proofs.Lemmas.{has_append}
use Rattle.yt_serial.proofs.Lemmas.{get_cases}
use Rattle.yt_body.specs.Wiring.{numbers_where, wire_of, wires_of, wires_of_outs, wires_of_ports}

pub contains_has : {X : Type 0} (xs : List X) (x : X) (k : ℕ) → k < length xs → get_or xs k x ≡ x → Has xs x
contains_has [] x k lt e = absurd (omega arith)
contains_has (y ∷ xs) x zero lt e = inl (sym e)
contains_has (y ∷ xs) x (suc k) lt e = inr (contains_has xs x k (omega arith) e)

-- what has a number passes the test
pub fed : {X : Type 0} (test : X → Bool) (n : ℕ) (xs : List X) (m : ℕ) → Has (numbers_where test n xs) m → (k : ℕ) × (x : X) × (slice_get xs k ≡ Some x) × (m ≡ n + k) × (test x ≡ true)
fed test n [] m h = absurd h
fed {X} test n (x ∷ xs) m h =
    ⊎_elim
    (λ (here : Has (cond (test x) (n ∷ []) []) m). by (test x) refl here)
    (λ (later : Has (numbers_where test (n + 1) xs) m).
    let r = fed test (n + 1) xs m later in
    let number = r.3 in
    (suc r.0, r.1, r.2, omega arith, r.4))
    (has_append (cond (test x) (n ∷ []) []) (numbers_where test (n + 1) xs) m h)
  where
    by : (b : Bool) → test x ≡ b → Has (cond b (n ∷ []) []) m → (k : ℕ) × (y : X) × (slice_get (x ∷ xs) k ≡ Some y) × (m ≡ n + k) × (test y ≡ true)
    by true e h = ⊎_elim (λ (q : m ≡ n). (0, x, refl, omega (arith, q), e)) (λ (none : ⊥). absurd none) h
    by false e h = absurd h

-- a wire of a port's outs is that of one of them
from_outs : (g : GraphTree) (port : ℕ) (p : PortTree) (n : ℕ) (outs : List OutHead) (k : ℕ) (w : Wire) → slice_get (wires_of_outs g port p n outs) k ≡ Some w →
    (head : OutHead) × (slice_get outs k ≡ Some head) × (w ≡ wire_of g port p (n + k) head)
from_outs g port p n [] k w h = absurd (none-some w h)
from_outs g port p n (head ∷ outs) zero w h =
    let e : n ≡ n + 0 = omega arith in
    (head, refl, sym (same_Some (wire_of g port p n head) w h) ∙ ap (λ (m : ℕ). wire_of g port p m head) e)
from_outs g port p n (head ∷ outs) (suc k) w h =
    let r = from_outs g port p (n + 1) outs k w h in
    let e : n + 1 + k ≡ n + suc k = omega arith in
    (r.0, r.1, r.2 ∙ ap (λ (m : ℕ). wire_of g port p m r.0) e)

-- a wire is that of an out of one of these ports, numbered from n on
pub record IsWireFrom (g : GraphTree) (n : ℕ) (ports : List PortTree) (w : Wire) : Type 0 where
  pub place : ℕ
  pub port : PortTree
  pub there : slice_get ports place ≡ Some port
  pub at : ℕ
  pub head : OutHead
  pub out : slice_get port.outs at ≡ Some head
  pub is : w ≡ wire_of g (n + place) port (suc at) head

pub from_ports : (g : GraphTree) (n : ℕ) (ports : List PortTree) (k : ℕ) (w : Wire) → slice_get (wires_of_ports g n ports) k ≡ Some w → IsWireFrom g n ports w
from_ports g n [] k w h = absurd (none-some w h)
from_ports g n (p ∷ ports) k w h =
    ⊎_elim
    (λ (here : slice_get (wires_of_outs g n p 1 p.outs) k ≡ Some w).
    let r = from_outs g n p 1 p.outs k w here in
    let e : n ≡ n + 0 = omega arith in
    let f : 1 + k ≡ suc k = omega arith in
    record { place = 0; port = p; there = refl; at = k; head = r.0; out = r.1; is = r.2 ∙ ap (λ (m : ℕ). wire_of g n p m r.0) f ∙ ap (λ (m : ℕ). wire_of g m p (suc k) r.0) e })
    (λ (later : (i : ℕ) × (k ≡ length (wires_of_outs g n p 1 p.outs) + i) × (slice_get (wires_of_ports g (n + 1) ports) i ≡ Some w)).
    let r = from_ports g (n + 1) ports later.0 w later.2 in
    let e : n + 1 + r.place ≡ n + suc r.place = omega arith in
    record { place = suc r.place; port = r.port; there = r.there; at = r.at; head = r.head; out = r.out; is = r.is ∙ ap (λ (m : ℕ). wire_of g m r.port (suc r.at) r.head) e })
    (get_cases (wires_of_outs g n p 1 p.outs) (wires_of_ports g (n + 1) ports) k w h)

-- wires go by their ports, and then by their outs
abbrev ComesFirst : Wire → Wire → Type 0
ComesFirst a b = (a.port < b.port) ⊎ ((a.port ≡ b.port) × (a.out < b.out))

pub in_order : (g : GraphTree) (n : ℕ) (ports : List PortTree) (j k : ℕ) (a b : Wire) → j < k → slice_get (wires_of_ports g n ports) j ≡ Some a → slice_get (wires_of_ports g n ports) k ≡ Some b → ComesFirst a b
in_order g n [] j k a b lt first later = absurd (none-some a first)
in_order g n (p ∷ ports) j k a b lt first later =
    let own = wires_of_outs g n p 1 p.outs in
    let others = wires_of_ports g (n + 1) ports in
    ⊎_elim
    (λ (at : slice_get own j ≡ Some a).
    let r = from_outs g n p 1 p.outs j a at in
    let port : a.port ≡ n = ap (λ (w : Wire). w.port) r.2 in
    let out : a.out ≡ 1 + j = ap (λ (w : Wire). w.out) r.2 in
    ⊎_elim
    (λ (same : slice_get own k ≡ Some b).
    let q = from_outs g n p 1 p.outs k b same in
    let port_too : b.port ≡ n = ap (λ (w : Wire). w.port) q.2 in
    let out_too : b.out ≡ 1 + k = ap (λ (w : Wire). w.out) q.2 in
    inr (port ∙ sym port_too, omega arith))
    (λ (next : (i : ℕ) × (k ≡ length own + i) × (slice_get others i ≡ Some b)).
    let q = from_ports g (n + 1) ports next.0 b next.2 in
    let port_too : b.port ≡ n + 1 + q.place = ap (λ (w : Wire). w.port) q.is in
    inl (omega arith))
    (get_cases own others k b later))
    (λ (at : (i : ℕ) × (j ≡ length own + i) × (slice_get others i ≡ Some a)).
    let place = at.1 in
    ⊎_elim
    (λ (same : slice_get own k ≡ Some b).
    let within = slice_get_within own k b same in
    absurd (omega arith))
    (λ (next : (i : ℕ) × (k ≡ length own + i) × (slice_get others i ≡ Some b)).
    let place_too = next.1 in
    in_order g (n + 1) ports at.0 next.0 a b (omega arith) at.2 next.2)
    (get_cases own others k b later))
    (get_cases own others j a first)
