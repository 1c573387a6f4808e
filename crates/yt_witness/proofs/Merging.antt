-- Jobs that arrive one after another, put into a list of jobs in order.
use Rattle.std.proofs.Common.{◌≡◌, ℕ, zero, suc, ◌+◌, ◌*◌, ◌<◌, ◌≤◌, ◌⊎◌, true, false, get_or, drop, take, length, List, [], ◌∷◌, ◌++◌, refl, sym, ap, subst, ◌∙◌, inl, inr, ⊎_elim, arith, add-one, append-nil, append_assoc, drop-cons}
use Rattle.std.proofs.lemmas.Bool.{both_ways, cases_Bool, cases_lt}
use Rattle.std.proofs.lemmas.List.{drop_all}
use Rattle.yt_log.specs.declared.plan.PlanItem.{PlanItem}
use Rattle.yt_log.specs.Patterns.{Arrivals, item_before, jobs_arriving}
use Rattle.yt_log.specs.Plan.{ArriveFrom, last_from}
use Rattle.yt_log.specs.Tasks.{Has}
use Rattle.yt_log.proofs.Lemmas.{has_push}
use Rattle.yt_order.specs.Sorting.{insert_by, sort_by}
use Rattle.yt_order.proofs.Lemmas.{first_greater, first_less, first_no_greater, first_no_less, insert_behind, insert_in_front}
use Rattle.yt_witness.specs.Inside.Merging.{AreSpread, is_second_next, with_all}

-- when a job arrives
abbrev arrival : PlanItem → ℕ
arrival item = item.arrival

abbrev task_number : PlanItem → ℕ
task_number item = item.job.task

-- a job that arrives before all of xs stays the first
behind : (t : ℕ) (xs : List PlanItem) (y : PlanItem) (ys : List PlanItem) → AreSpread t xs → y.arrival < t → with_all xs (y ∷ ys) ≡ y ∷ with_all xs ys
behind t [] y ys spread lt = refl
behind t (x ∷ xs) y ys spread lt =
    let first : y.arrival < x.arrival = omega (arith, spread.0) in
    ap (insert_by item_before x) (behind (suc x.arrival) xs y ys spread.1 (omega arith)) ∙ insert_behind item_before x y (with_all xs ys) (first_less arrival task_number y x first)

second_next : (t : ℕ) (xs : List PlanItem) (y : PlanItem) (ys : List PlanItem) → AreSpread t xs → is_second_next xs (y ∷ ys) ≡ true → with_all xs (y ∷ ys) ≡ y ∷ with_all xs ys
second_next t [] y ys spread h = refl
second_next t (x ∷ xs) y ys spread h =
    let first = first_no_greater arrival task_number y x h in
    ap (insert_by item_before x) (behind (suc x.arrival) xs y ys spread.1 (omega arith)) ∙ insert_behind item_before x y (with_all xs ys) h

-- the first of these jobs, if there is one, doesn't come before x
abbrev IsLate : PlanItem → List PlanItem → Type 0
IsLate x [] = Unit {0}
IsLate x (z ∷ zs) = item_before z x ≡ false

late_put : (x other : PlanItem) (zs : List PlanItem) → item_before other x ≡ false → IsLate x zs → IsLate x (insert_by item_before other zs)
late_put x other [] h late = h
late_put x other (z ∷ zs) h late =
    ⊎_elim
    (λ (b : item_before z other ≡ true). subst (λ (l : List PlanItem). IsLate x l) (sym (insert_behind item_before other z zs b)) late)
    (λ (b : item_before z other ≡ false). subst (λ (l : List PlanItem). IsLate x l) (sym (insert_in_front item_before other z zs b)) h)
    (cases_Bool (item_before z other))

late_all : (t : ℕ) (x : PlanItem) (xs ys : List PlanItem) → AreSpread t xs → x.arrival < t → IsLate x ys → IsLate x (with_all xs ys)
late_all t x [] ys spread lt late = late
late_all t x (other ∷ xs) ys spread lt late =
    let after : x.arrival < other.arrival = omega (arith, spread.0) in
    late_put x other (with_all xs ys) (first_greater arrival task_number other x after) (late_all (suc other.arrival) x xs ys spread.1 (omega arith) late)

put_first : (x : PlanItem) (zs : List PlanItem) → IsLate x zs → insert_by item_before x zs ≡ x ∷ zs
put_first x [] late = refl
put_first x (z ∷ zs) late = insert_in_front item_before x z zs late

late_next : (x : PlanItem) (xs ys : List PlanItem) → is_second_next (x ∷ xs) ys ≡ false → IsLate x ys
late_next x xs [] h = tt
late_next x xs (y ∷ ys) h = h

first_next : (t : ℕ) (x : PlanItem) (xs ys : List PlanItem) → AreSpread t (x ∷ xs) → is_second_next (x ∷ xs) ys ≡ false → with_all (x ∷ xs) ys ≡ x ∷ with_all xs ys
first_next t x xs ys spread h = put_first x (with_all xs ys) (late_all (suc x.arrival) x xs ys spread.1 (omega arith) (late_next x xs ys h))

-- what is left of jobs that are so
spread_less : (s t : ℕ) (xs : List PlanItem) → s ≤ t → AreSpread t xs → AreSpread s xs
spread_less s t [] le spread = tt
spread_less s t (x ∷ xs) le spread = (omega (arith, spread.0), spread.1)

pub spread_left : (xs : List PlanItem) (i : ℕ) → AreSpread 0 xs → AreSpread 0 (drop i xs)
spread_left xs zero spread = spread
spread_left [] (suc i) spread = tt
spread_left (x ∷ xs) (suc i) spread = spread_left xs i (spread_less 0 (suc x.arrival) xs (omega arith) spread.1)

-- the jobs from a place on: the one there, and the others
left_at : (xs : List PlanItem) (i : ℕ) (d : PlanItem) → i < length xs → drop i xs ≡ get_or xs i d ∷ drop (i + 1) xs
left_at xs i d lt = drop-cons xs i d lt ∙ ap (λ (n : ℕ). get_or xs i d ∷ drop n xs) (sym (add-one i))

-- one more job is put, of the second list
pub more_second : (out xs ys whole : List PlanItem) (i j : ℕ) (d : PlanItem) → AreSpread 0 xs → j < length ys → is_second_next (drop i xs) (drop j ys) ≡ true →
    out ++ with_all (drop i xs) (drop j ys) ≡ whole → (out ++ get_or ys j d ∷ []) ++ with_all (drop i xs) (drop (j + 1) ys) ≡ whole
more_second out xs ys whole i j d spread lt next all =
    let y = get_or ys j d in
    let left = left_at ys j d lt in
    let here = subst (λ (l : List PlanItem). is_second_next (drop i xs) l ≡ true) left next in
    append_assoc out (y ∷ []) (with_all (drop i xs) (drop (j + 1) ys))
    ∙ ap (λ (l : List PlanItem). out ++ l) (sym (ap (with_all (drop i xs)) left ∙ second_next 0 (drop i xs) y (drop (j + 1) ys) (spread_left xs i spread) here))
    ∙ all

-- and of the first
pub more_first : (out xs ys whole : List PlanItem) (i j : ℕ) (d : PlanItem) → AreSpread 0 xs → i < length xs → is_second_next (drop i xs) (drop j ys) ≡ false →
    out ++ with_all (drop i xs) (drop j ys) ≡ whole → (out ++ get_or xs i d ∷ []) ++ with_all (drop (i + 1) xs) (drop j ys) ≡ whole
more_first out xs ys whole i j d spread lt next all =
    let x = get_or xs i d in
    let left = left_at xs i d lt in
    let here = subst (λ (l : List PlanItem). is_second_next l (drop j ys) ≡ false) left next in
    let apart = subst (λ (l : List PlanItem). AreSpread 0 l) left (spread_left xs i spread) in
    append_assoc out (x ∷ []) (with_all (drop (i + 1) xs) (drop j ys))
    ∙ ap (λ (l : List PlanItem). out ++ l) (sym (ap (λ (l : List PlanItem). with_all l (drop j ys)) left ∙ first_next 0 x (drop (i + 1) xs) (drop j ys) apart here))
    ∙ all

some_left : (ys : List PlanItem) (j : ℕ) → j < length ys → is_second_next [] (drop j ys) ≡ true
some_left [] j lt = absurd (omega arith)
some_left (y ∷ ys) zero lt = refl
some_left (y ∷ ys) (suc j) lt = some_left ys j (omega arith)

-- where the first list has none left, the next job is the second's
pub second_alone : (xs ys : List PlanItem) (i j : ℕ) → length xs ≤ i → j < length ys → is_second_next (drop i xs) (drop j ys) ≡ true
second_alone xs ys i j out lt = ap (λ (l : List PlanItem). is_second_next l (drop j ys)) (drop_all i xs out) ∙ some_left ys j lt

-- the list of the next job has one left
pub second_some : (xs ys : List PlanItem) (j : ℕ) → is_second_next xs (drop j ys) ≡ true → j < length ys
second_some xs ys j next =
    ⊎_elim
    (λ (l : j < length ys). l)
    (λ (l : length ys ≤ j).
    let none : is_second_next xs [] ≡ true = subst (λ (zs : List PlanItem). is_second_next xs zs ≡ true) (drop_all j ys l) next in
    absurd (both_ways (is_second_next xs []) (refl_none xs) none))
    (cases_lt j (length ys))
  where
    refl_none : (zs : List PlanItem) → is_second_next zs [] ≡ false
    refl_none [] = refl
    refl_none (z ∷ zs) = refl

pub first_some : (xs ys : List PlanItem) (i j : ℕ) → (i < length xs) ⊎ (j < length ys) → is_second_next (drop i xs) (drop j ys) ≡ false → i < length xs
first_some xs ys i j some next =
    ⊎_elim
    (λ (l : i < length xs). l)
    (λ (l : length xs ≤ i).
    let other : j < length ys = ⊎_elim (λ (m : i < length xs). absurd (omega arith)) (λ (m : j < length ys). m) some in
    absurd (both_ways (is_second_next (drop i xs) (drop j ys)) next (second_alone xs ys i j l other)))
    (cases_lt i (length xs))

-- where none is left, all are put
pub all_put : (out xs ys whole : List PlanItem) (i j : ℕ) → length xs ≤ i → length ys ≤ j → out ++ with_all (drop i xs) (drop j ys) ≡ whole → out ≡ whole
all_put out xs ys whole i j first second all =
    sym (append-nil out)
    ∙ ap (λ (l : List PlanItem). out ++ l) (sym (ap (λ (l : List PlanItem). with_all l (drop j ys)) (drop_all i xs first) ∙ drop_all j ys second))
    ∙ all

-- jobs in front of others, put in order
pub sorted_front : (xs ys : List PlanItem) → sort_by item_before (xs ++ ys) ≡ with_all xs (sort_by item_before ys)
sorted_front [] ys = refl
sorted_front (x ∷ xs) ys = ap (insert_by item_before x) (sorted_front xs ys)

-- when the jobs of a task arrive
pub job_arrives : (n : ℕ) (a : Arrivals) (k : ℕ) (e : PlanItem) → Has (jobs_arriving n a k) e → e.arrival + a.step ≤ a.first + k * a.step
job_arrives n a zero e h = absurd h
job_arrives n a (suc k) e h =
    let last : PlanItem = record { job = record { task = n; number = suc k }; arrival = a.first + k * a.step; cost = a.cost } in
    ⊎_elim
    (λ (l : Has (jobs_arriving n a k) e). let before = job_arrives n a k e l in omega arith)
    (λ (q : e ≡ last). let same : e.arrival ≡ a.first + k * a.step = ap (λ (x : PlanItem). x.arrival) q in omega arith)
    (has_push (jobs_arriving n a k) last e h)

spread_push : (t : ℕ) (xs : List PlanItem) (x : PlanItem) → AreSpread t xs → t ≤ x.arrival → ((e : PlanItem) → Has xs e → e.arrival < x.arrival) → AreSpread t (xs ++ x ∷ [])
spread_push t [] x spread le late = (le, tt)
spread_push t (y ∷ xs) x spread le late =
    let here = late y (inl refl) in
    (spread.0, spread_push (suc y.arrival) xs x spread.1 (omega arith) (λ e is. late e (inr is)))

pub jobs_spread : (n : ℕ) (a : Arrivals) (k : ℕ) → 1 ≤ a.step → AreSpread 0 (jobs_arriving n a k)
jobs_spread n a zero some = tt
jobs_spread n a (suc k) some =
    spread_push 0 (jobs_arriving n a k) (record { job = record { task = n; number = suc k }; arrival = a.first + k * a.step; cost = a.cost }) (jobs_spread n a k some) (omega arith)
    (λ e is. let by = job_arrives n a k e is in omega arith)

-- jobs that are sorted are in order of arrival
in_order_put : (t : ℕ) (x : PlanItem) (ys : List PlanItem) → t ≤ x.arrival → ArriveFrom t ys → ArriveFrom t (insert_by item_before x ys)
in_order_put t x [] le order = (le, tt)
in_order_put t x (y ∷ ys) le order =
    ⊎_elim
    (λ (h : item_before y x ≡ true).
    subst (λ (l : List PlanItem). ArriveFrom t l) (sym (insert_behind item_before x y ys h)) (order.0, in_order_put y.arrival x ys (first_no_greater arrival task_number y x h) order.1))
    (λ (h : item_before y x ≡ false).
    subst (λ (l : List PlanItem). ArriveFrom t l) (sym (insert_in_front item_before x y ys h)) (le, (first_no_less arrival task_number y x h, order.1)))
    (cases_Bool (item_before y x))

pub sorted_in_order : (xs : List PlanItem) → ArriveFrom 0 (sort_by item_before xs)
sorted_in_order [] = tt
sorted_in_order (x ∷ xs) = in_order_put 0 x (sort_by item_before xs) (omega arith) (sorted_in_order xs)

-- each job of a list in order arrives no earlier than the one before
pub next_in_order : (t : ℕ) (xs : List PlanItem) (k : ℕ) (d : PlanItem) → ArriveFrom t xs → k < length xs → last_from t (take k xs) ≤ (get_or xs k d).arrival
next_in_order t [] k d order lt = absurd (omega arith)
next_in_order t (x ∷ xs) zero d order lt = order.0
next_in_order t (x ∷ xs) (suc k) d order lt = next_in_order x.arrival xs k d order.1 (omega arith)
