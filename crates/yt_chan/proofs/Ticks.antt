-- Messages with their ticks, one by one.
use Rattle.std.proofs.Common.{◌≡◌, ℕ, zero, suc, ◌+◌, ◌*◌, ◌<◌, ℤ, List, [], ◌∷◌, length, get_or, refl, ◌∙◌, ap, arith}
use Rattle.yt_chan.specs.Pending.{Pending, with_ticks}

pub with_ticks_length : (number time gap : ℕ) (messages : List (List ℤ)) → length (with_ticks number time gap messages) ≡ length messages
with_ticks_length number time gap [] = refl
with_ticks_length number time gap (values ∷ rest) = let e = with_ticks_length number (time + gap) gap rest in cc

pub with_ticks_at : (number time gap : ℕ) (messages : List (List ℤ)) (i : ℕ) (d : Pending) → i < length messages →
    get_or (with_ticks number time gap messages) i d ≡ record { time = time + i * gap; number = number; values = get_or messages i [] }
with_ticks_at number time gap [] i d lt = absurd (omega arith)
with_ticks_at number time gap (values ∷ rest) zero d lt =
    let e : time ≡ time + zero * gap = omega arith in ap (λ (t : ℕ). record { time = t; number = number; values = values }) e
with_ticks_at number time gap (values ∷ rest) (suc i) d lt =
    let e : (time + gap) + i * gap ≡ time + suc i * gap = grind arith in
    with_ticks_at number (time + gap) gap rest i d (omega arith) ∙ ap (λ (t : ℕ). record { time = t; number = number; values = get_or rest i [] }) e
