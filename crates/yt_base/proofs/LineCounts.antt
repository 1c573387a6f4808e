-- How many lines a text has.
use Rattle.std.proofs.Common.{ℕ, suc, ◌≤◌, Bool, true, false, cond, List, [], ◌∷◌, length, take, arith}
use Rattle.std.proofs.lemmas.List.{length-map}
use Rattle.std.specs.List.{onto_first}
use Rattle.yt_base.specs.Lines.{is_feed, body_len, pieces, lines_of}

onto_first_few : (b : ℕ) (ps : List (List ℕ)) → length (onto_first b ps) ≤ suc (length ps)
onto_first_few b [] = omega arith
onto_first_few b (p ∷ ps) = omega arith

pub pieces_few : (ends : ℕ → Bool) (xs : List ℕ) → length (pieces ends xs) ≤ length xs
pieces_few ends [] = omega arith
pieces_few ends (b ∷ bs) = by (ends b) (pieces_few ends bs)
  where
    by : (e : Bool) → length (pieces ends bs) ≤ length bs → length (cond e ([] ∷ pieces ends bs) (onto_first b (pieces ends bs))) ≤ suc (length bs)
    by true h = omega arith
    by false h = let few = onto_first_few b (pieces ends bs) in omega arith

-- no more than it has bytes
pub lines_few : (text : List ℕ) → length (lines_of text) ≤ length text
lines_few text =
    let few = pieces_few is_feed text in
    omega (arith, length-map (pieces is_feed text) (λ line. take (body_len line) line))
