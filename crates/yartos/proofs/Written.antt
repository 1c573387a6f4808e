-- One write after another.
use Rattle.std.proofs.Common.{ℕ, ◌≡◌, ◌+◌, ◌-◌, ◌≤◌, min, List, ◌++◌, take, drop, slice_range, Option, None, Some, refl, ap, sym, ◌∙◌, append_assoc, arith}
use Rattle.std.proofs.Math.Seq.{take-add}
use Rattle.std.proofs.lemmas.Grind.{common_steps}
use Rattle.yt_io.specs.Sink.{add, AddsFront}

-- two writes are one
pub add_add : (written : Option (List ℕ)) (a b : List ℕ) → add (add written a) b ≡ add written (a ++ b)
add_add None a b = refl
add_add (Some front) a b = ap Some (append_assoc front a b)

-- the next part goes on from what was written so far
pub adds_next : (first mid last : Option (List ℕ)) (text : List ℕ) (at next : ℕ) → at ≤ next → mid ≡ add first (take at text)
    → last ≡ add mid (slice_range text at next) → last ≡ add first (take next text)
adds_next first mid last text at next order so_far more =
    let whole : take at text ++ slice_range text at next ≡ take next text = sym (take-add at (next - at) text) ∙ ap (λ n. take n text) (omega arith) in
    more ∙ ap (λ w. add w (slice_range text at next)) so_far ∙ add_add first (take at text) (slice_range text at next) ∙ ap (add first) whole

-- a front of the next part makes a front of the text
pub adds_front : (first mid last : Option (List ℕ)) (text : List ℕ) (at next : ℕ) → mid ≡ add first (take at text)
    → AddsFront mid last (slice_range text at next) → AddsFront first last text
adds_front first mid last text at next so_far (n, more) =
    let part = take n (slice_range text at next) in
    let shorter : part ≡ take (min n (next - at)) (drop at text) = grind (arith, common_steps) in
    let whole : take at text ++ part ≡ take (at + min n (next - at)) text = ap (λ xs. take at text ++ xs) shorter ∙ sym (take-add at (min n (next - at)) text) in
    (at + min n (next - at), more ∙ ap (λ w. add w part) so_far ∙ add_add first (take at text) part ∙ ap (add first) whole)
