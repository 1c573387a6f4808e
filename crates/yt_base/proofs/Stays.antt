-- Lines and fields that are written one behind another are read as they were written.
use Rattle.std.proofs.Common.{ℕ, ◌≡◌, ◌-◌, ◌<◌, List, [], ◌∷◌, ◌++◌, map, length, take, Bool, true, not, ◌&&◌, ◌==◌, ap, refl, arith}
use Rattle.std.specs.Prelude.{nat_lt}
use Rattle.std.specs.List.{list_all}
use Rattle.std.proofs.lemmas.Grind.{common_steps}
use Rattle.std.proofs.lemmas.List.Sums.{AllPass-from_list_all}
use Rattle.yt_base.specs.Lines.{is_feed, is_blank, body_len, pieces, lines_of, fields_of}

-- a byte that ends no line
abbrev pub stays_in_line : ℕ → Bool
stays_in_line b = not (is_feed b) && not (b == 13)

-- a byte that ends no field
abbrev pub stays_in_field : ℕ → Bool
stays_in_field b = not (is_blank b)

-- a byte that ends no part of a name with dots
abbrev pub stays_in_part : ℕ → Bool
stays_in_part b = not (b == 46)

-- a piece and the byte that ends it
pieces_piece : (ends : ℕ → Bool) (b : ℕ) (piece rest : List ℕ) → ends b ≡ true → list_all (λ x. not (ends x)) piece ≡ true → pieces ends (piece ++ b ∷ rest) ≡ piece ∷ pieces ends rest
pieces_piece ends b [] rest last all = grind (arith, common_steps)
pieces_piece ends b (x ∷ xs) rest last all =
    let more = pieces_piece ends b xs rest last in
    grind (arith, common_steps)

-- a piece at the text's end
pieces_last : (ends : ℕ → Bool) (piece : List ℕ) → 0 < length piece → list_all (λ x. not (ends x)) piece ≡ true → pieces ends piece ≡ piece ∷ []
pieces_last ends [] some all = absurd (omega arith)
pieces_last ends (x ∷ []) some all = grind (arith, common_steps)
pieces_last ends (x ∷ y ∷ ys) some all =
    let more = pieces_last ends (y ∷ ys) (omega arith) in
    grind (arith, common_steps)

-- a line without a carriage return has all its bytes
body_len_whole : (line : List ℕ) → list_all stays_in_line line ≡ true → body_len line ≡ length line
body_len_whole [] all = refl
body_len_whole (x ∷ xs) all =
    let last = AllPass-from_list_all stays_in_line (x ∷ xs) all (length (x ∷ xs) - 1) 0 (omega arith) in
    grind (arith, common_steps)

-- each of its bytes is no line feed
without_feed : (line : List ℕ) → list_all stays_in_line line ≡ true → list_all (λ b. not (is_feed b)) line ≡ true
without_feed [] all = refl
without_feed (x ∷ xs) all =
    let more = without_feed xs in
    grind (arith, common_steps)

pub lines_of_line : (line rest : List ℕ) → list_all stays_in_line line ≡ true → lines_of (line ++ 10 ∷ rest) ≡ line ∷ lines_of rest
lines_of_line line rest all =
    let parts = pieces_piece is_feed 10 line rest refl (without_feed line all) in
    let whole : take (body_len line) line ≡ line = rw (body_len_whole line all) (grind (arith, common_steps)) in
    rw whole at (ap (map (λ l. take (body_len l) l)) parts)

pub fields_of_field : (field rest : List ℕ) → 0 < length field → list_all stays_in_field field ≡ true → fields_of (field ++ 32 ∷ rest) ≡ field ∷ fields_of rest
fields_of_field field rest some all =
    let parts = pieces_piece is_blank 32 field rest refl all in
    let has : nat_lt 0 (length field) ≡ true = grind (arith, common_steps) in
    rw parts (rw has refl)

pub fields_of_last : (field : List ℕ) → 0 < length field → list_all stays_in_field field ≡ true → fields_of field ≡ field ∷ []
fields_of_last field some all =
    let parts = pieces_last is_blank field some all in
    let has : nat_lt 0 (length field) ≡ true = grind (arith, common_steps) in
    rw parts (rw has refl)
