-- The table of wires.
use Rattle.std.proofs.Common.{◌≡◌, ℕ, suc, ◌+◌, ◌*◌, ◌<◌, ◌≤◌, Bool, true, ◌&&◌, eqb, List, [], ◌∷◌, length, get_or, set, not, replicate, refl, sym, ◌∙◌, ap, arith, ⊎_elim, eqb-true, eq-eqb}
use Rattle.std.specs.List.{Contains, list_any}
use Rattle.std.proofs.lemmas.Bool.{cases_lt, cases_eq, and_parts, and_from, false_from_ne_true, or_cases}
use Rattle.std.proofs.lemmas.List.{get_or-set_same, get_or-set_other, get_or-replicate, length-set, length-replicate}
use Rattle.std.proofs.lemmas.List.Sums.{position_or_len_is, passes_at_first, prefix_len-le-length}
use Rattle.yt_chan.specs.declared.wire.Wire.{Wire}
use Rattle.yt_chan.specs.declared.target.Arrived.{Arrived}
use Rattle.yt_chan.specs.Inside.Sound.{IsTable}
use Rattle.yt_chan.specs.Wires.{AreWires, feeds, wire_of_out, no_wire, wire_to, wire_at}

abbrev is_out : ℕ → ℕ → Wire → Bool
is_out port out w = eqb w.port port && eqb w.out out

-- each wire is the one of its out
pub own_line : (widths : List ℕ) (wires : List Wire) → AreWires widths wires → (k : ℕ) → k < length wires → wire_of_out wires (wire_at wires k).port (wire_at wires k).out ≡ k
own_line widths wires are k lt =
    let port = (wire_at wires k).port in
    let out = (wire_at wires k).out in
    position_or_len_is (is_out port out) wires k no_wire (omega arith)
    (λ j b. false_from_ne_true (is_out port out (wire_at wires j)) (λ h. let p = and_parts (eqb (wire_at wires j).port port) (eqb (wire_at wires j).out out) h in are.outs j k b lt (eqb-true _ _ p.0) (eqb-true _ _ p.1)))
    (λ _. and_from (eqb port port) (eqb out out) (eq-eqb port port refl) (eq-eqb out out refl))

-- the wire of an out is of that out
pub line_is : (wires : List Wire) (port out : ℕ) → wire_of_out wires port out < length wires → ((wire_at wires (wire_of_out wires port out)).port ≡ port) × ((wire_at wires (wire_of_out wires port out)).out ≡ out)
line_is wires port out lt =
    let k = wire_of_out wires port out in
    let p = and_parts (eqb (wire_at wires k).port port) (eqb (wire_at wires k).out out) (passes_at_first (is_out port out) wires no_wire lt) in
    (eqb-true _ _ p.0, eqb-true _ _ p.1)

-- the wire that feeds a target does so
pub source_is : (wires : List Wire) (target : Arrived) → wire_to wires target < length wires → feeds (wire_at wires (wire_to wires target)) target ≡ true
source_is wires target lt = passes_at_first (λ w. feeds w target) wires no_wire lt

pub any_has : (xs : List ℕ) (n : ℕ) → list_any (λ x. eqb x n) xs ≡ true → Contains xs n
any_has [] n h = cc
any_has (x ∷ xs) n h =
    ⊎_elim
    (λ (e : eqb x n ≡ true). (0, omega arith, eqb-true x n e))
    (λ (r : list_any (λ y. eqb y n) xs ≡ true). let c = any_has xs n r in let b = c.1 in (suc c.0, omega arith, c.2))
    (or_cases (eqb x n) (list_any (λ y. eqb y n) xs) h)

-- the table after the wires below a place were entered
pub record AreFilled (wires : List Wire) (ports n : ℕ) (table : List ℕ) : Type 0 where
  pub long : length table ≡ 9 * (ports + 1)
  pub below : (port out : ℕ) → port ≤ ports → out ≤ 8 → wire_of_out wires port out < n → get_or table (9 * port + out) (length wires) ≡ wire_of_out wires port out
  pub above : (port out : ℕ) → port ≤ ports → out ≤ 8 → n ≤ wire_of_out wires port out → get_or table (9 * port + out) (length wires) ≡ length wires

pub filled_none : (wires : List Wire) (ports : ℕ) (table : List ℕ) → table ≡ replicate (9 * (ports + 1)) (length wires) → AreFilled wires ports 0 table
filled_none wires ports table e =
    let l = ap length e ∙ length-replicate (9 * (ports + 1)) (length wires) in
    record {
      long = l;
      below = λ port out p o lt. absurd (omega arith);
      above = λ port out p o le. ap (λ (xs : List ℕ). get_or xs (9 * port + out) (length wires)) e ∙ get_or-replicate (9 * (ports + 1)) (9 * port + out) (length wires) (length wires) (omega arith);
    }

pub filled_more : (wires : List Wire) (ports n : ℕ) (table : List ℕ) (wire : Wire) → n < length wires → wire_at wires n ≡ wire → wire.port ≤ ports → wire.out ≤ 8 → wire_of_out wires wire.port wire.out ≡ n →
    AreFilled wires ports n table → AreFilled wires ports (n + 1) (set table (9 * wire.port + wire.out) n)
filled_more wires ports n table wire lt is there few own filled =
    let i = 9 * wire.port + wire.out in
    let l = filled.long in
    let s = length-set table i n in
    let other : (port out : ℕ) → out ≤ 8 → (wire_of_out wires port out ≡ n → ⊥) → 9 * port + out ≡ i → ⊥ = λ port out o h e.
    let a : port ≡ wire.port = omega arith in
    let b : out ≡ wire.out = omega arith in
    h (ap (λ (p : ℕ). wire_of_out wires p out) a ∙ ap (wire_of_out wires wire.port) b ∙ own) in
    record {
      long = omega arith;
      below = λ port out p o b. ⊎_elim
          (λ (e : wire_of_out wires port out ≡ n).
          let w = line_is wires port out (omega arith) in
          let x : port ≡ wire.port = sym w.0 ∙ ap (λ (k : ℕ). (wire_at wires k).port) e ∙ ap (λ (v : Wire). v.port) is in
          let y : out ≡ wire.out = sym w.1 ∙ ap (λ (k : ℕ). (wire_at wires k).out) e ∙ ap (λ (v : Wire). v.out) is in
          let z : 9 * port + out ≡ i = omega arith in
          ap (λ (k : ℕ). get_or (set table i n) k (length wires)) z ∙ get_or-set_same table i n (length wires) (omega arith) ∙ sym e)
          (λ (h : wire_of_out wires port out ≡ n → ⊥).
          get_or-set_other table i (9 * port + out) n (length wires) (other port out o h) ∙ filled.below port out p o (omega arith))
          (cases_eq (wire_of_out wires port out) n);
      above = λ port out p o b. get_or-set_other table i (9 * port + out) n (length wires) (other port out o (λ e. omega arith)) ∙ filled.above port out p o (omega arith);
    }

line_most : (wires : List Wire) (port out : ℕ) → wire_of_out wires port out ≤ length wires
line_most wires port out = prefix_len-le-length (λ w. not (is_out port out w)) wires

pub filled_all : (wires : List Wire) (ports n : ℕ) (table : List ℕ) → length wires ≤ n → AreFilled wires ports n table → (port out : ℕ) → port ≤ ports → out ≤ 8 →
    get_or table (9 * port + out) (length wires) ≡ wire_of_out wires port out
filled_all wires ports n table le filled port out p o =
    ⊎_elim
    (λ (l : wire_of_out wires port out < n). filled.below port out p o l)
    (λ (g : n ≤ wire_of_out wires port out). let m = line_most wires port out in let e : length wires ≡ wire_of_out wires port out = omega arith in filled.above port out p o g ∙ e)
    (cases_lt (wire_of_out wires port out) n)

-- an out with a wire is in the table
pub in_table : (widths : List ℕ) (wires : List Wire) (table : List ℕ) (port out : ℕ) → AreWires widths wires → length table ≡ 9 * (length widths + 1) → wire_of_out wires port out < length wires →
    (9 * port + 8 < length table) × (out ≤ 8)
in_table widths wires table port out are long lt =
    let k = line_is wires port out lt in
    let p = (are.each (wire_of_out wires port out) lt).port in
    let o = (are.each (wire_of_out wires port out) lt).out in
    (omega arith, omega arith)

-- what the table has of an out with a wire is the wire's place
pub line_found : (widths : List ℕ) (wires : List Wire) (table ls : List ℕ) (port out k : ℕ) → ls ≡ table → ((d : ℕ) → k ≡ get_or ls (9 * port + out) d) → AreWires widths wires → IsTable wires table →
    length table ≡ 9 * (length widths + 1) → wire_of_out wires port out < length wires → k ≡ wire_of_out wires port out
line_found widths wires table ls port out k e is wired are long lt =
    let at = in_table widths wires table port out wired long lt in
    is (length wires) ∙ ap (λ (xs : List ℕ). get_or xs (9 * port + out) (length wires)) e ∙ are.each port out at.0 at.1

pub table_is : (widths : List ℕ) (wires : List Wire) (table : List ℕ) → AreWires widths wires → length table ≡ 9 * (length widths + 1) →
    ((port out : ℕ) → port ≤ length widths → out ≤ 8 → get_or table (9 * port + out) (length wires) ≡ wire_of_out wires port out) → IsTable wires table
table_is widths wires table are long each = record {
  each = λ port out there few. each port out (omega arith) few;
  outs = λ k lt. (are.each k lt).out;
  own = own_line widths wires are;
}
