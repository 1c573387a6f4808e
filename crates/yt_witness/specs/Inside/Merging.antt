-- Two lists of jobs, put together in order.
use Rattle.std.specs.Prelude.{ℕ, suc, ◌≤◌, Bool, true, false, List, [], ◌∷◌}
use Rattle.yt_log.specs.declared.plan.PlanItem.{PlanItem}
use Rattle.yt_log.specs.Patterns.{item_before}
use Rattle.yt_order.specs.Sorting.{insert_by}

-- the jobs arrive one after another, the first at t or later
abbrev pub AreSpread : ℕ → List PlanItem → Type 0
AreSpread t [] = Unit {0}
AreSpread t (x ∷ xs) = (t ≤ x.arrival) × AreSpread (suc x.arrival) xs

-- each of xs put into ys, in front of the first job that doesn't come before it
abbrev pub with_all : List PlanItem → List PlanItem → List PlanItem
with_all [] ys = ys
with_all (x ∷ xs) ys = insert_by item_before x (with_all xs ys)

-- the next job of both is the first of ys: xs has none left, or one that it comes before
abbrev pub is_second_next : List PlanItem → List PlanItem → Bool
is_second_next xs [] = false
is_second_next [] (y ∷ ys) = true
is_second_next (x ∷ xs) (y ∷ ys) = item_before y x
