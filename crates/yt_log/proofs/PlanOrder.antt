-- Items in order of arrival.
use Rattle.std.proofs.Common.{◌≡◌, ℕ, suc, ◌-◌, ◌<◌, ◌≤◌, List, [], ◌∷◌, ◌++◌, length, get_or, ap, ◌∙◌, arith}
use Rattle.yt_log.specs.declared.plan.PlanItem.{PlanItem}
use Rattle.yt_log.specs.Plan.{ArriveFrom, last_from}

-- one more item that arrives no earlier than the last
pub arrive_more : (t : ℕ) (xs : List PlanItem) (x : PlanItem) → ArriveFrom t xs → last_from t xs ≤ x.arrival → ArriveFrom t (xs ++ x ∷ [])
arrive_more t [] x h le = (le, tt)
arrive_more t (y ∷ xs) x h le = (h.0, arrive_more y.arrival xs x h.1 le)

-- the last arrival is that of the item at the last place
pub last_from-last : (t : ℕ) (xs : List PlanItem) (x : PlanItem) → 0 < length xs → x ≡ get_or xs (length xs - 1) x → x.arrival ≡ last_from t xs
last_from-last t [] x some at = absurd (omega arith)
last_from-last t (y ∷ []) x some at = ap (λ (i : PlanItem). i.arrival) at
last_from-last t (y ∷ z ∷ xs) x some at =
    let here : length (y ∷ z ∷ xs) - 1 ≡ suc (length (z ∷ xs) - 1) = omega arith in
    last_from-last y.arrival (z ∷ xs) x (omega arith) (at ∙ ap (λ (n : ℕ). get_or (y ∷ z ∷ xs) n x) here)
