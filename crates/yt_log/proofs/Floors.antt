-- The floor of a resource: the least `within` of the tasks under it.
use Rattle.std.proofs.Common.{◌≡◌, ℕ, ◌+◌, ◌-◌, ◌<◌, ◌≤◌, true, false, cond, eqb, min, List, [], ◌∷◌, map, Some, None, refl, sym, ap, subst, ◌∙◌, inl, inr, ⊎_elim, arith, eqb-true, eq-eqb, ne_eqb}
use Rattle.std.proofs.lemmas.Bool.{cases_Bool, cases_lt, cond-true, cond-false, both_ways}
use Rattle.std.specs.List.{fold, reduce}
use Rattle.yt_set.specs.declared.task.Task.{Task}
use Rattle.yt_set.specs.Tasks.{within, users_of, floor_of}
use Rattle.yt_log.specs.Tasks.{Has}
use Rattle.yt_log.proofs.Forms.{demand}

-- the least of `most` and of what the tasks under a resource have for `within`
unfoldable pub least_within : List Task → ℕ → ℕ → ℕ
least_within [] resource most = most
least_within (task ∷ tasks) resource most =
    cond (eqb task.resource resource) (min (within task) (least_within tasks resource most)) (least_within tasks resource most)

-- the floor of a task's resource
abbrev pub floor_at : List Task → Task → ℕ
floor_at tasks task = least_within tasks task.resource (within task)

least_yes : (x : Task) (xs : List Task) (r most : ℕ) → eqb x.resource r ≡ true → least_within (x ∷ xs) r most ≡ min (within x) (least_within xs r most)
unfolding least_within
least_yes x xs r most e = cond-true (eqb x.resource r) (min (within x) (least_within xs r most)) (least_within xs r most) e

least_no : (x : Task) (xs : List Task) (r most : ℕ) → eqb x.resource r ≡ false → least_within (x ∷ xs) r most ≡ least_within xs r most
unfolding least_within
least_no x xs r most e = cond-false (eqb x.resource r) (min (within x) (least_within xs r most)) (least_within xs r most) e

least_none : (r most : ℕ) → least_within [] r most ≡ most
unfolding least_within
least_none r most = refl

-- the floor is at most what each task under the resource has
pub floor_least : (tasks : List Task) (r most : ℕ) (task : Task) → Has tasks task → task.resource ≡ r → least_within tasks r most ≤ within task
floor_least [] r most task is e = absurd is
floor_least (x ∷ xs) r most task is e =
    ⊎_elim
    (λ (q : task ≡ x).
    let s : eqb x.resource r ≡ true = eq-eqb x.resource r (ap (λ (y : Task). y.resource) (sym q) ∙ e) in
    let w : within task ≡ within x = ap (λ (y : Task). within y) q in
    let f = least_yes x xs r most s in
    omega arith)
    (λ (k : Has xs task).
    let h = floor_least xs r most task k e in
    ⊎_elim
    (λ (s : eqb x.resource r ≡ true). let f = least_yes x xs r most s in omega arith)
    (λ (s : eqb x.resource r ≡ false). let f = least_no x xs r most s in omega arith)
    (cases_Bool (eqb x.resource r)))
    is

-- the least of one more number
least_min : (xs : List Task) (r a b : ℕ) → least_within xs r (min a b) ≡ min b (least_within xs r a)
least_min [] r a b = let f = least_none r (min a b) in let g = least_none r a in omega arith
least_min (x ∷ xs) r a b =
    let h = least_min xs r a b in
    ⊎_elim
    (λ (s : eqb x.resource r ≡ true). let f = least_yes x xs r (min a b) s in let g = least_yes x xs r a s in omega arith)
    (λ (s : eqb x.resource r ≡ false). let f = least_no x xs r (min a b) s in let g = least_no x xs r a s in omega arith)
    (cases_Bool (eqb x.resource r))

users_yes : (x : Task) (xs : List Task) (r : ℕ) → eqb x.resource r ≡ true → users_of (x ∷ xs) r ≡ x ∷ users_of xs r
users_yes x xs r e = cond-true (eqb x.resource r) (x ∷ users_of xs r) (users_of xs r) e

users_no : (x : Task) (xs : List Task) (r : ℕ) → eqb x.resource r ≡ false → users_of (x ∷ xs) r ≡ users_of xs r
users_no x xs r e = cond-false (eqb x.resource r) (x ∷ users_of xs r) (users_of xs r) e

-- from a number on
fold_least : (xs : List Task) (r a : ℕ) → fold min a (map within (users_of xs r)) ≡ least_within xs r a
fold_least [] r a = sym (least_none r a)
fold_least (x ∷ xs) r a =
    ⊎_elim
    (λ (s : eqb x.resource r ≡ true).
    let f = least_yes x xs r a s in
    let g = fold_least xs r (min a (within x)) in
    let h = least_min xs r a (within x) in
    ap (λ (us : List Task). fold min a (map within us)) (users_yes x xs r s) ∙ g ∙ h ∙ sym f)
    (λ (s : eqb x.resource r ≡ false).
    ap (λ (us : List Task). fold min a (map within us)) (users_no x xs r s) ∙ fold_least xs r a ∙ sym (least_no x xs r a s))
    (cases_Bool (eqb x.resource r))

-- from the first user on
reduce_least : (xs : List Task) (r : ℕ) (task : Task) → Has xs task → task.resource ≡ r → reduce min (map within (users_of xs r)) ≡ Some (least_within xs r (within task))
reduce_least [] r task is e = absurd is
reduce_least (x ∷ xs) r task is e =
    ⊎_elim
    (λ (s : eqb x.resource r ≡ true).
    let f = least_yes x xs r (within task) s in
    let g = least_min xs r (within task) (within x) in
    let same : least_within xs r (within x) ≡ least_within (x ∷ xs) r (within task) = ⊎_elim
    (λ (q : task ≡ x).
    let w : within task ≡ within x = ap (λ (y : Task). within y) q in
    let m : least_within xs r (min (within task) (within x)) ≡ least_within xs r (within x) = ap (least_within xs r) (omega arith) in
    omega arith)
    (λ (k : Has xs task).
    let l = floor_least xs r (within x) task k e in
    let t : least_within xs r (min (within task) (within x)) ≡ least_within xs r (min (within x) (within task)) = ap (least_within xs r) (omega arith) in
    let h = least_min xs r (within x) (within task) in
    omega arith)
    is in
    ap (λ (us : List Task). reduce min (map within us)) (users_yes x xs r s) ∙ ap (λ (n : ℕ). Some n) (fold_least xs r (within x) ∙ same))
    (λ (s : eqb x.resource r ≡ false).
    let k : Has xs task = ⊎_elim
    (λ (q : task ≡ x). absurd (both_ways (eqb x.resource r) s (eq-eqb x.resource r (ap (λ (y : Task). y.resource) (sym q) ∙ e))))
    (λ (k : Has xs task). k)
    is in
    ap (λ (us : List Task). reduce min (map within us)) (users_no x xs r s) ∙ reduce_least xs r task k e ∙ ap (λ (n : ℕ). Some n) (sym (least_no x xs r (within task) s)))
    (cases_Bool (eqb x.resource r))

-- a resource that a task is under has this floor
pub floor_some : (tasks : List Task) (task : Task) → Has tasks task → 0 < task.resource → floor_of tasks task.resource ≡ Some (floor_at tasks task)
floor_some tasks task is held =
    cond-false (eqb task.resource 0) None (reduce min (map within (users_of tasks task.resource))) (ne_eqb task.resource 0 (λ e. absurd (omega arith)))
    ∙ reduce_least tasks task.resource task is refl

-- no resource has none
pub floor_none : (tasks : List Task) (r : ℕ) → r ≡ 0 → floor_of tasks r ≡ None
floor_none tasks r e = cond-true (eqb r 0) None (reduce min (map within (users_of tasks r))) (eq-eqb r 0 e)

-- a floor below `most` is what a task under the resource has
pub record IsFloor (tasks : List Task) (r floor : ℕ) : Type 0 where
  pub task : Task
  pub has : Has tasks task
  pub resource : task.resource ≡ r
  pub least : within task ≡ floor

floor_more : (x : Task) (xs : List Task) (r floor : ℕ) → IsFloor xs r floor → IsFloor (x ∷ xs) r floor
floor_more x xs r floor f = record { task = f.task; has = inr f.has; resource = f.resource; least = f.least }

pub floor_is : (tasks : List Task) (r most : ℕ) → least_within tasks r most < most → IsFloor tasks r (least_within tasks r most)
unfolding least_within
floor_is [] r most h = absurd (omega arith)
floor_is (x ∷ xs) r most h =
    let rest = least_within xs r most in
    let whole = cond (eqb x.resource r) (min (within x) rest) rest in
    let P : ℕ → Type 0 = λ n. IsFloor (x ∷ xs) r n in
    ⊎_elim
    (λ (e : eqb x.resource r ≡ true).
    let q : whole ≡ min (within x) rest = cond-true (eqb x.resource r) (min (within x) rest) rest e in
    ⊎_elim
    (λ (l : rest < within x). let m : rest ≡ whole = omega arith in subst P m (floor_more x xs r rest (floor_is xs r most (omega arith))))
    (λ (l : within x ≤ rest). let m : within x ≡ whole = omega arith in record { task = x; has = inl refl; resource = eqb-true x.resource r e; least = m })
    (cases_lt rest (within x)))
    (λ (e : eqb x.resource r ≡ false).
    let q : whole ≡ rest = cond-false (eqb x.resource r) (min (within x) rest) rest e in
    subst P (sym q) (floor_more x xs r rest (floor_is xs r most (omega arith))))
    (cases_Bool (eqb x.resource r))

-- each task under a resource leaves room in each span for what can arrive after its first tick and be due in the span
abbrev pub BlockingFits : List Task → Type 0
BlockingFits tasks =
    (task : Task) → Has tasks task → 0 < task.resource →
    (span : ℕ) → floor_at tasks task < span → span < within task → task.cost + demand tasks (span - 1) ≤ span
