-- What is kept of ports is within the limits exactly where the ports' handlers are.
use Rattle.std.proofs.Common.{◌≡◌, ℕ, zero, suc, ◌+◌, ◌-◌, ◌<◌, ◌≤◌, List, [], ◌∷◌, length, get_or, Some, refl, sym, ◌∙◌, subst, arith}
use Rattle.std.specs.Prelude.{slice_get}
use Rattle.std.specs.List.{All}
use Rattle.std.specs.Option.{ForSome}
use Rattle.std.proofs.lemmas.List.{get_or_default}
use Rattle.std.proofs.lemmas.List.Elements.{All-get_or}
use Rattle.std.proofs.lemmas.Option.{slice_get_within, slice_get-get_or, get_or_from_slice_get}
use Rattle.yt_list.proofs.Lemmas.{numbered_next, numbered_or_next, numbered_or_place}
use Rattle.yt_graph.specs.Picture.{PortTree, GraphTree}
use Rattle.yt_graph.specs.Cost.{greatest_sends}
use Rattle.yt_cost.specs.Codes.{PortCode, AreCodesOf, IsCodeOf, IsCodeWithin}
use Rattle.yt_cost.specs.Faults.{IsWithinLimits}

-- what holds of all items holds of the one at a place
at_place : {X : Type 0} (P : X → Type 0) (xs : List X) (k : ℕ) (x : X) → slice_get xs k ≡ Some x → All P xs → P x
at_place P xs k x there h = subst P (get_or_from_slice_get xs k x x there) (All-get_or P xs k x (slice_get_within xs k x there) h)

-- what holds at each place holds of all
all_at : {X : Type 0} (P : X → Type 0) (xs : List X) → ((k : ℕ) (x : X) → slice_get xs k ≡ Some x → P x) → All P xs
all_at P xs h k d lt = h k _ (slice_get-get_or xs k d lt)

-- an item at a place within a list
item_at : {X : Type 0} (xs : List X) (i : ℕ) → i < length xs → (x : X) × (slice_get xs i ≡ Some x)
item_at [] i lt = absurd (omega (arith, lt))
item_at (x ∷ xs) zero lt = (x, refl)
item_at (x ∷ xs) (suc i) lt = item_at xs i (omega (arith, lt))

-- a handler within its limits has a code within them
code_within : (g : GraphTree) (p : PortTree) (kept : PortCode) → IsCodeOf g p kept → IsWithinLimits p → IsCodeWithin kept
code_within g p kept is within = record {
  ticks = let cost = is.cost in let le = within.ticks in omega arith;
  sends = λ k d lt.
      let last : k + 1 ≤ length p.outs = omega (arith, is.sends.count, lt) in
      let same : get_or kept.sends k d ≡ greatest_sends p (k + 1) = get_or_default kept.sends k d 0 lt ∙ sym (numbered_or_next kept.sends k 0) ∙ is.sends.each (k + 1) (omega arith) last in
      let le = within.sends (k + 1) (omega arith) last in
      omega (arith, same, le);
}

pub codes_within : (g : GraphTree) (codes : List PortCode) → length codes ≡ length g.ports → ((k : ℕ) → ForSome (slice_get g.ports k) (λ p. ForSome (slice_get codes k) (IsCodeOf g p))) → All IsWithinLimits g.ports → All IsCodeWithin codes
codes_within g codes count each within = all_at IsCodeWithin codes (λ k kept at.
    let port = item_at g.ports k (omega (arith, count, slice_get_within codes k kept at)) in
    code_within g port.0 kept (each k port.0 port.1 kept at) (at_place IsWithinLimits g.ports k port.0 port.1 within))

-- and the other way round
handler_within : (g : GraphTree) (p : PortTree) (kept : PortCode) → IsCodeOf g p kept → IsCodeWithin kept → IsWithinLimits p
handler_within g p kept is within = record {
  ticks = let cost = is.cost in let le = within.ticks in omega arith;
  sends = λ out low high.
      let lt : out - 1 < length kept.sends = omega (arith, is.sends.count, low, high) in
      let le = within.sends (out - 1) 0 lt in
      let same : get_or kept.sends (out - 1) 0 ≡ greatest_sends p out = sym (numbered_or_place kept.sends out 0 low) ∙ is.sends.each out low high in
      omega (arith, same, le);
}

pub limits_kept : (g : GraphTree) (codes : List PortCode) → AreCodesOf g codes → All IsCodeWithin codes → All IsWithinLimits g.ports
limits_kept g codes of within = all_at IsWithinLimits g.ports (λ k p at.
    let kept = item_at codes k (omega (arith, of.count, slice_get_within g.ports k p at)) in
    let is = of.each (k + 1) p (numbered_next g.ports k ∙ at) kept.0 (numbered_next codes k ∙ kept.1) in
    handler_within g p kept.0 is (at_place IsCodeWithin codes k kept.0 kept.1 within))
