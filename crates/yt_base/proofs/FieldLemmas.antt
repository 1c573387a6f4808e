-- The first field of a line and the fields behind it.
use Rattle.std.proofs.Common.{ℕ, ◌≡◌, ◌+◌, ◌-◌, ◌<◌, ◌≤◌, List, [], ◌∷◌, length, take, drop, slice_range, Bool, true, false, not, ap, refl, sym, arith}
use Rattle.std.proofs.lemmas.List.{drop-take, drop-drop, take-take}
use Rattle.std.specs.Prelude.{nat_lt}
use Rattle.std.specs.List.{prefix_len, position_or_len, filter}
use Rattle.std.proofs.lemmas.Grind.{common_steps}
use Rattle.std.proofs.lemmas.List.Sums.{prefix_len_stops, prefix_len-drop_yes}
use Rattle.yt_base.specs.Lines.{is_blank, pieces, fields_of}
use Rattle.yt_base.proofs.LinesLemmas.{pieces_step}

-- what stands behind the elements that pass begins with one that doesn't
pub field_begins : (p : ℕ → Bool) (xs : List ℕ) → prefix_len p xs < length xs → 0 < position_or_len p (drop (prefix_len p xs) xs)
field_begins p xs lt =
    let step = prefix_len-drop_yes (λ x. not (p x)) xs (prefix_len p xs) 0 lt (ap not (prefix_len_stops p xs 0 lt)) in
    omega arith

-- the pieces that have bytes
abbrev filled : (ℕ → Bool) → List ℕ → List (List ℕ)
filled p xs = filter (λ piece. nat_lt 0 (length piece)) (pieces p xs)

-- a byte in front that ends a piece adds none that has bytes
filled_past : (p : ℕ → Bool) (b : ℕ) (bs : List ℕ) → p b ≡ true → filled p (b ∷ bs) ≡ filled p bs
filled_past p b bs ends = grind (arith, common_steps)

-- and so do many
filled_behind : (p : ℕ → Bool) (xs : List ℕ) → filled p xs ≡ filled p (drop (prefix_len p xs) xs)
filled_behind p [] = refl
filled_behind p (b ∷ bs) = by_first (filled_behind p bs) (p b) refl
  where
    by_first : filled p bs ≡ filled p (drop (prefix_len p bs) bs) → (t : Bool) → p b ≡ t → filled p (b ∷ bs) ≡ filled p (drop (prefix_len p (b ∷ bs)) (b ∷ bs))
    by_first more true ends =
        let count : prefix_len p (b ∷ bs) ≡ 1 + prefix_len p bs = grind (arith, common_steps) in
        let cut : drop (1 + prefix_len p bs) (b ∷ bs) ≡ drop (prefix_len p bs) bs = grind (arith, common_steps) in
        rw (count, cut, filled_past p b bs ends) more
    by_first more false goes_on =
        let count : prefix_len p (b ∷ bs) ≡ 0 = grind (arith, common_steps) in
        rw count refl

-- the byte that ends the first piece
filled_next : (p : ℕ → Bool) (xs : List ℕ) → filled p (drop (position_or_len p xs) xs) ≡ filled p (drop (position_or_len p xs + 1) xs)
filled_next p [] = refl
filled_next p (b ∷ bs) =
    let more = filled_next p bs in
    let past = filled_past p b bs in
    grind (arith, common_steps)

-- a first piece that has bytes
filled_step : (p : ℕ → Bool) (xs : List ℕ) → 0 < position_or_len p xs → 0 < length xs → filled p xs ≡ take (position_or_len p xs) xs ∷ filled p (drop (position_or_len p xs) xs)
filled_step p xs begins some =
    let whole = pieces_step p xs some in
    let next = filled_next p xs in
    let has : nat_lt 0 (length (take (position_or_len p xs) xs)) ≡ true = grind (arith, common_steps) in
    grind (arith, common_steps)

-- nothing but blanks
pub fields_of_blanks : (xs : List ℕ) → length xs ≤ prefix_len is_blank xs → fields_of xs ≡ []
fields_of_blanks xs all =
    let behind = filled_behind is_blank xs in
    let none : drop (prefix_len is_blank xs) xs ≡ [] = grind (arith, common_steps) in
    rw none at behind

-- the first field stands behind the blanks, and ends before the next
pub fields_of_step : (xs : List ℕ) → prefix_len is_blank xs < length xs → fields_of xs ≡ take (position_or_len is_blank (drop (prefix_len is_blank xs) xs)) (drop (prefix_len is_blank xs) xs) ∷ fields_of (drop (position_or_len is_blank (drop (prefix_len is_blank xs) xs)) (drop (prefix_len is_blank xs) xs))
fields_of_step xs lt =
    let behind = filled_behind is_blank xs in
    let begins = field_begins is_blank xs lt in
    let some : 0 < length (drop (prefix_len is_blank xs) xs) = grind (arith, common_steps) in
    rw behind (filled_step is_blank (drop (prefix_len is_blank xs) xs) begins some)

-- a range of a range
pub range_of_range : (text : List ℕ) (a b start n : ℕ) → a + (start + n) ≤ b → slice_range text (a + start) (a + (start + n)) ≡ take n (drop start (slice_range text a b))
range_of_range text a b start n within =
    let m = b - (a + start) in
    let wide : b - a ≡ start + m = omega arith in
    let narrow : (a + (start + n)) - (a + start) ≡ n = omega arith in
    rw (wide, narrow, drop-take start m (drop a text), drop-drop start a text) (sym (take-take n m (drop (a + start) text) (omega arith)))

-- what is left of a range behind a part of it
pub range_behind : (text : List ℕ) (a b start n : ℕ) → a + (start + n) ≤ b → slice_range text (a + (start + n)) b ≡ drop n (drop start (slice_range text a b))
range_behind text a b start n within =
    let r = b - (a + (start + n)) in
    let wide : b - a ≡ start + (n + r) = omega arith in
    let far : a + start + n ≡ a + (start + n) = omega arith in
    rw (wide, drop-take start (n + r) (drop a text), drop-take n r (drop start (drop a text)), drop-drop start a text, drop-drop n (a + start) text, far) refl
