-- Places, piece by piece.
use Rattle.std.proofs.Common.{ℕ, ◌≡◌, ◌+◌, ◌≤◌, List, [], ◌∷◌, ◌++◌, length, take, drop, refl, arith}
use Rattle.std.proofs.Math.Seq.{take-add}
use Rattle.std.proofs.lemmas.Grind.{common_steps}
use Rattle.yt_graph.specs.declared.place.Place.{Place}
use Rattle.yt_lexer.specs.Places.{next_place, place_after, place_of}

next_line-le : (p : Place) (b : ℕ) → (next_place p b).line ≤ p.line + 1
next_line-le p b = grind (arith, common_steps)

next_col-le : (p : Place) (b : ℕ) → (next_place p b).col ≤ p.col + 1
next_col-le p b = grind (arith, common_steps)

-- each byte adds one to the line and to the column at most
pub line_after-le : (p : Place) (bs : List ℕ) → (place_after p bs).line ≤ p.line + length bs
line_after-le p [] = omega arith
line_after-le p (b ∷ bs) = omega (arith, next_line-le p b, line_after-le (next_place p b) bs)

pub col_after-le : (p : Place) (bs : List ℕ) → (place_after p bs).col ≤ p.col + length bs
col_after-le p [] = omega arith
col_after-le p (b ∷ bs) = omega (arith, next_col-le p b, col_after-le (next_place p b) bs)

-- one piece after another
place_after_append : (p : Place) (xs ys : List ℕ) → place_after p (xs ++ ys) ≡ place_after (place_after p xs) ys
place_after_append p [] ys = refl
place_after_append p (x ∷ xs) ys = place_after_append (next_place p x) xs ys

pub place_of_more : (text : List ℕ) (at n : ℕ) → place_of text (at + n) ≡ place_after (place_of text at) (take n (drop at text))
place_of_more text at n = rw (take-add at n text) (place_after_append (record { line = 1; col = 1 }) (take at text) (take n (drop at text)))
