-- As many wires as there may be are sound.
use Rattle.std.proofs.Common.{◌≡◌, ℕ, zero, suc, ◌+◌, ◌-◌, ◌/◌, ◌<◌, ◌≤◌, Bool, true, false, not, ◌&&◌, ltb, length, refl, sym, ◌∙◌, ap, subst, arith, ⊎_elim, ltb-true, lt-ltb}
use Rattle.std.specs.List.{Contains}
use Rattle.std.proofs.lemmas.Bool.{cases_lt, both_ways, not-true, and_parts}
use Rattle.std.proofs.lemmas.List.{get_or-replicate, length-replicate}
use Rattle.std.proofs.lemmas.Option.{unwrap_or-slice_get}
use Rattle.std.proofs.lemmas.List.FromFn.{get_or-map-range_with_len, length-map-range_with_len}
use Rattle.yt_chan.specs.declared.wire.Wire.{Wire}
use Rattle.yt_chan.specs.declared.target.Arrived.{Arrived}
use Rattle.yt_chan.specs.declared.target.Arrived.TheVariants.{Port, Output}
use Rattle.yt_chan.specs.Wires.{AreWires, IsWire, feeds, no_wire, width_of, wire_at}
use Rattle.yt_chan.proofs.Lemmas.{any_has}
use Rattle.yt_chan_tests.specs.Wide.{alone_where, wide_ports, wide_wire, wide_wires}

-- a number that is alone where a test holds is that one, and the test holds
only : (holds : Bool) (n m : ℕ) → Contains (alone_where holds n) m → (holds ≡ true) × (n ≡ m)
only true n m (zero, lt, e) = (refl, e)
only true n m (suc k, lt, e) = absurd (omega arith)
only false n m (k, lt, e) = absurd (omega arith)

many_is : length wide_ports ≡ 64
many_is = length-replicate {A = ℕ} 64 8

pub wide_width : (port : ℕ) → 1 ≤ port → port ≤ 64 → width_of wide_ports port ≡ 8
wide_width zero a b = absurd (omega arith)
wide_width (suc place) a b = unwrap_or-slice_get wide_ports place 0 ∙ get_or-replicate {A = ℕ} 64 place 8 0 (omega arith)

-- what the wire at a place is
is_at : (count k : ℕ) → k < count → wire_at (wide_wires count) k ≡ wide_wire k
unfolding wide_wires
is_at count k lt = get_or-map-range_with_len wide_wire 0 count k k no_wire lt (omega arith)

count_is : (count : ℕ) → length (wide_wires count) ≡ count
unfolding wide_wires
count_is count = length-map-range_with_len wide_wire 0 count

-- what feeds a port or an output
feeds_port : (k n : ℕ) → feeds (wide_wire k) (Port n) ≡ true → k + 1 ≡ n
unfolding wide_wire
feeds_port k n h = (only (ltb k 64) (k + 1) n (any_has (alone_where (ltb k 64) (k + 1)) n h)).1

feeds_output : (k n : ℕ) → feeds (wide_wire k) (Output n) ≡ true → (64 ≤ k) × (k < 80) × (k - 63 ≡ n)
unfolding wide_wire
feeds_output k n h =
    let test = not (ltb k 64) && ltb k 80 in
    let o = only test (k - 63) n (any_has (alone_where test (k - 63)) n h) in
    let p = and_parts (not (ltb k 64)) (ltb k 80) o.0 in
    let past : 64 ≤ k = ⊎_elim (λ (l : k < 64). absurd (both_ways (ltb k 64) (not-true (ltb k 64) p.0) (lt-ltb k 64 l))) (λ (g : 64 ≤ k). g) (cases_lt k 64) in
    (past, ltb-true k 80 p.1, o.1)

-- the wire at a place is in the limits
is_wire : (k : ℕ) → k < 512 → IsWire wide_ports (wide_wire k)
unfolding wide_wire
is_wire k lt = record {
  port = (omega arith, subst (λ (n : ℕ). k / 8 + 1 ≤ n) (sym many_is) (omega arith));
  out = (omega arith, omega arith);
  width = omega arith;
  sends = (omega arith, omega arith);
  every = (omega arith, omega arith);
  period = (omega arith, omega arith);
  gap = (omega arith, refl);
  ports = λ n has.
      let o = only (ltb k 64) (k + 1) n has in
      let below = ltb-true k 64 o.0 in
      let e = o.1 in
      ((omega arith, subst (λ (m : ℕ). n ≤ m) (sym many_is) (omega arith)), wide_width n (omega arith) (omega arith));
  outputs = λ n has.
      let test = not (ltb k 64) && ltb k 80 in
      let o = only test (k - 63) n has in
      let p = and_parts (not (ltb k 64)) (ltb k 80) o.0 in
      let past : 64 ≤ k = ⊎_elim (λ (l : k < 64). absurd (both_ways (ltb k 64) (not-true (ltb k 64) p.0) (lt-ltb k 64 l))) (λ (g : 64 ≤ k). g) (cases_lt k 64) in
      let below = ltb-true k 80 p.1 in
      let e = o.1 in
      (omega arith, omega arith);
}

own_out : (j k : ℕ) → (wide_wire j).port ≡ (wide_wire k).port → (wide_wire j).out ≡ (wide_wire k).out → j ≡ k
unfolding wide_wire
own_out j k a b = omega arith

one_source : (j k : ℕ) (target : Arrived) → feeds (wide_wire j) target ≡ true → feeds (wide_wire k) target ≡ true → j ≡ k
one_source j k (Port n) a b = let x = feeds_port j n a in let y = feeds_port k n b in omega arith
one_source j k (Output n) a b = let x = feeds_output j n a in let y = feeds_output k n b in let p = x.0 in let q = y.0 in let e = x.2 in let f = y.2 in omega arith

-- as many wires as there may be are sound
pub wide_are_sound : (count : ℕ) → count ≤ 512 → AreWires wide_ports (wide_wires count)
wide_are_sound count le = record {
  many = subst (λ (n : ℕ). n ≤ 64) (sym many_is) (omega arith);
  wide = λ k lt.
      let few : k < 64 = subst (λ (n : ℕ). k < n) many_is lt in
      subst (λ (n : ℕ). n ≤ 8) (sym (get_or-replicate {A = ℕ} 64 k 8 0 few)) (omega arith);
  each = λ k lt. let few : k < count = there k lt in subst (IsWire wide_ports) (sym (is_at count k few)) (is_wire k (omega arith));
  outs = λ j k before lt port out.
      let few : k < count = there k lt in
      let a = is_at count j (omega arith) in
      let b = is_at count k few in
      let same = own_out j k (sym (ap (λ (w : Wire). w.port) a) ∙ port ∙ ap (λ (w : Wire). w.port) b) (sym (ap (λ (w : Wire). w.out) a) ∙ out ∙ ap (λ (w : Wire). w.out) b) in
      omega arith;
  sources = λ j k target before lt first second.
      let few : k < count = there k lt in
      let a = is_at count j (omega arith) in
      let b = is_at count k few in
      let P : Wire → Type 0 = λ w. feeds w target ≡ true in
      let same = one_source j k target (subst P a first) (subst P b second) in
      omega arith;
}
  where
    there : (k : ℕ) → k < length (wide_wires count) → k < count
    there k lt = subst (λ (n : ℕ). k < n) (count_is count) lt
