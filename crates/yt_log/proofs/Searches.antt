-- An item with a property, or none.
use Rattle.std.proofs.Common.{◌≡◌, ◌⊎◌, List, [], ◌∷◌, refl, subst, inl, inr, ⊎_elim}
use Rattle.yt_log.specs.declared.plan.PlanItem.{PlanItem}
use Rattle.yt_log.specs.Tasks.{Has}

-- an item with a property, or none has it
pub search_items : (P : PlanItem → Type 0) → ((i : PlanItem) → P i ⊎ (P i → ⊥)) → (xs : List PlanItem) → ((i : PlanItem) × (Has xs i) × P i) ⊎ ((i : PlanItem) → Has xs i → P i → ⊥)
search_items P decide [] = inr (λ i is p. is)
search_items P decide (x ∷ xs) =
    ⊎_elim
    (λ (p : P x). inl (x, inl refl, p))
    (λ (q : P x → ⊥). ⊎_elim
    (λ (r : (i : PlanItem) × (Has xs i) × P i). inl (r.0, inr r.1, r.2))
    (λ (r : (i : PlanItem) → Has xs i → P i → ⊥). inr (λ i is p. ⊎_elim (λ (e : i ≡ x). q (subst P e p)) (λ (k : Has xs i). r i k p) is))
    (search_items P decide xs))
    (decide x)
