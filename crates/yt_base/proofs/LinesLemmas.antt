-- The first line of a text and the lines behind it.
use Rattle.std.proofs.Common.{ℕ, ◌≡◌, ◌+◌, ◌<◌, List, [], ◌∷◌, map, length, take, drop, ap, arith, Bool}
use Rattle.std.specs.List.{position_or_len}
use Rattle.std.proofs.lemmas.Grind.{common_steps}
use Rattle.yt_base.specs.Lines.{is_feed, body_len, pieces, lines_of}

-- the first piece, and the pieces behind it
pub pieces_step : (ends : ℕ → Bool) (xs : List ℕ) → 0 < length xs → pieces ends xs ≡ take (position_or_len ends xs) xs ∷ pieces ends (drop (position_or_len ends xs + 1) xs)
pieces_step ends [] h = absurd (omega arith)
pieces_step ends (b ∷ []) h = grind (arith, common_steps)
pieces_step ends (b ∷ c ∷ cs) h =
    let more = pieces_step ends (c ∷ cs) (omega arith) in
    grind (arith, common_steps)

pub lines_of_step : (xs : List ℕ) → 0 < length xs → lines_of xs ≡ take (body_len (take (position_or_len is_feed xs) xs)) (take (position_or_len is_feed xs) xs) ∷ lines_of (drop (position_or_len is_feed xs + 1) xs)
lines_of_step xs h = ap (map (λ line. take (body_len line) line)) (pieces_step is_feed xs h)
