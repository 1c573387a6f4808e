-- Segments in order of which none goes on with the one before it: their ticks tell them.
use Rattle.std.proofs.Common.{◌≡◌, ◌⊎◌, ℕ, suc, ◌<◌, ◌≤◌, ◌&&◌, ltb, leb, List, [], ◌∷◌, Some, None, refl, sym, ap, ap₂, subst, ◌∙◌, ⊎_elim, arith}
use Rattle.std.proofs.lemmas.Bool.{cases_lt, cases_order, cond-true, cond-false, and_from, and_left, and_right, le-leb, lt-leb, lt-ltb, le-ltb}
use Rattle.std.proofs.lemmas.Option.{none-some, same_Some}
use Rattle.yt_log.specs.declared.job.Job.{Job}
use Rattle.yt_log.specs.declared.job.Segment.{Segment}
use Rattle.yt_log.specs.Segments.{AreInOrder, job_at}
use Rattle.yt_log.specs.Tasks.{Has}
use Rattle.yt_schedule_laws.specs.LogSegments.{NoneGoOn}

-- the job of a tick of the first segment, and of one that the first segment hasn't
pub job_at_here : (x : Segment) (xs : List Segment) (t : ℕ) → x.from ≤ t → t < x.to → job_at (x ∷ xs) t ≡ Some x.job
unfolding job_at
job_at_here x xs t a b = cond-true (leb x.from t && ltb t x.to) (Some x.job) (job_at xs t) (and_from _ _ (le-leb x.from t a) (lt-ltb t x.to b))

pub job_at_before : (x : Segment) (xs : List Segment) (t : ℕ) → t < x.from → job_at (x ∷ xs) t ≡ job_at xs t
unfolding job_at
job_at_before x xs t a = cond-false (leb x.from t && ltb t x.to) (Some x.job) (job_at xs t) (and_left _ _ (lt-leb x.from t a))

pub job_at_after : (x : Segment) (xs : List Segment) (t : ℕ) → x.to ≤ t → job_at (x ∷ xs) t ≡ job_at xs t
unfolding job_at
job_at_after x xs t a = cond-false (leb x.from t && ltb t x.to) (Some x.job) (job_at xs t) (and_right _ _ (le-ltb t x.to a))

pub job_at_none : (t : ℕ) → job_at [] t ≡ None
unfolding job_at
job_at_none t = refl

-- segments in order end at `high`, and have no tick below `low`
within : (low high : ℕ) (xs : List Segment) → AreInOrder low xs high → low ≤ high
within low high [] h = h
within low high (x ∷ xs) h = let rest = within x.to high xs h.2 in omega (arith, h.0, h.1)

none_below : (low high : ℕ) (xs : List Segment) (t : ℕ) → AreInOrder low xs high → t < low → job_at xs t ≡ None
none_below low high [] t h lt = job_at_none t
none_below low high (x ∷ xs) t h lt = job_at_before x xs t (omega (arith, h.0)) ∙ none_below x.to high xs t h.2 (omega (arith, h.0, h.1))

none_go_on_rest : (x : Segment) (xs : List Segment) → NoneGoOn (x ∷ xs) → NoneGoOn xs
none_go_on_rest x [] h = tt
none_go_on_rest x (z ∷ zs) h = h.1

-- the tick at which a segment ends goes to another job
goes_on : (high : ℕ) (x : Segment) (xs : List Segment) → AreInOrder x.to xs high → NoneGoOn (x ∷ xs) → job_at xs x.to ≡ Some x.job → ⊥
goes_on high x [] order none e = none-some x.job (sym (job_at_none x.to) ∙ e)
goes_on high x (z ∷ zs) order none e =
    ⊎_elim
    (λ (l : x.to < z.from). none-some x.job (sym (job_at_before z zs x.to l ∙ none_below z.to high zs x.to order.2 (omega (arith, order.1))) ∙ e))
    (λ (l : z.from ≤ x.to).
    let meets : x.to ≡ z.from = omega (arith, order.0) in
    none.0 meets (same_Some x.job z.job (sym e ∙ job_at_here z zs x.to l (omega (arith, order.1)))))
    (cases_lt x.to z.from)

-- two lists have one job at each tick from `low` to below `high`
abbrev TellAlike : ℕ → ℕ → List Segment → List Segment → Type 0
TellAlike low high xs ys = (t : ℕ) → low ≤ t → t < high → job_at xs t ≡ job_at ys t

no_earlier : (low high : ℕ) (x : Segment) (xs : List Segment) (y : Segment) (ys : List Segment) → AreInOrder low (x ∷ xs) high → AreInOrder low (y ∷ ys) high
    → TellAlike low high (x ∷ xs) (y ∷ ys) → x.from < y.from → ⊥
no_earlier low high x xs y ys p q alike lt =
    let w = within x.to high xs p.2 in
    none-some x.job
    (sym (job_at_before y ys x.from lt ∙ none_below y.to high ys x.from q.2 (omega (arith, q.1)))
    ∙ sym (alike x.from p.0 (omega (arith, p.1)))
    ∙ job_at_here x xs x.from (omega arith) p.1)

no_shorter : (low high : ℕ) (x : Segment) (xs : List Segment) (y : Segment) (ys : List Segment) → AreInOrder low (x ∷ xs) high → AreInOrder low (y ∷ ys) high
    → NoneGoOn (x ∷ xs) → TellAlike low high (x ∷ xs) (y ∷ ys) → x.from ≡ y.from → x.job ≡ y.job → x.to < y.to → ⊥
no_shorter low high x xs y ys p q none alike from job lt =
    let w = within y.to high ys q.2 in
    goes_on high x xs p.2 none
    (sym (job_at_after x xs x.to (omega arith))
    ∙ alike x.to (omega (arith, p.0, p.1)) (omega arith)
    ∙ job_at_here y ys x.to (omega (arith, p.1)) lt
    ∙ ap (λ (j : Job). Some j) (sym job))

segment_is : (x y : Segment) → x.from ≡ y.from → x.to ≡ y.to → x.job ≡ y.job → x ≡ y
segment_is x y from to job =
    let made : ℕ → ℕ → Job → Segment = λ f t j. record { from = f; to = t; job = j } in
    ap₂ (λ (f t : ℕ). made f t x.job) from to ∙ ap (λ (j : Job). made y.from y.to j) job

first_is : (low high : ℕ) (x : Segment) (xs : List Segment) (y : Segment) (ys : List Segment) → AreInOrder low (x ∷ xs) high → AreInOrder low (y ∷ ys) high
    → NoneGoOn (x ∷ xs) → NoneGoOn (y ∷ ys) → TellAlike low high (x ∷ xs) (y ∷ ys) → x ≡ y
first_is low high x xs y ys p q m n alike =
    let back : TellAlike low high (y ∷ ys) (x ∷ xs) = λ t a b. sym (alike t a b) in
    let from : x.from ≡ y.from =
    ⊎_elim
    (λ (e : x.from ≡ y.from). e)
    (λ (o : (x.from < y.from) ⊎ (y.from < x.from)). ⊎_elim
    (λ (lt : x.from < y.from). absurd (no_earlier low high x xs y ys p q alike lt))
    (λ (lt : y.from < x.from). absurd (no_earlier low high y ys x xs q p back lt))
    o)
    (cases_order x.from y.from) in
    let w = within x.to high xs p.2 in
    let job : x.job ≡ y.job =
    same_Some x.job y.job (sym (job_at_here x xs x.from (omega arith) p.1) ∙ alike x.from p.0 (omega (arith, p.1)) ∙ job_at_here y ys x.from (omega arith) (omega (arith, q.1))) in
    let to : x.to ≡ y.to =
    ⊎_elim
    (λ (e : x.to ≡ y.to). e)
    (λ (o : (x.to < y.to) ⊎ (y.to < x.to)). ⊎_elim
    (λ (lt : x.to < y.to). absurd (no_shorter low high x xs y ys p q m alike from job lt))
    (λ (lt : y.to < x.to). absurd (no_shorter low high y ys x xs q p n back (sym from) (sym job) lt))
    o)
    (cases_order x.to y.to) in
    segment_is x y from to job

-- no segments tell what some tell
none_or_some : (low high : ℕ) (y : Segment) (ys : List Segment) → AreInOrder low (y ∷ ys) high → TellAlike low high [] (y ∷ ys) → ⊥
none_or_some low high y ys q alike =
    let w = within y.to high ys q.2 in
    none-some y.job (sym (job_at_none y.from) ∙ alike y.from q.0 (omega (arith, q.1)) ∙ job_at_here y ys y.from (omega arith) q.1)

-- lists that tell the same are one
pub lists_are_one : (low high : ℕ) (xs ys : List Segment) → AreInOrder low xs high → AreInOrder low ys high → NoneGoOn xs → NoneGoOn ys → TellAlike low high xs ys → xs ≡ ys
lists_are_one low high [] [] p q m n alike = refl
lists_are_one low high [] (y ∷ ys) p q m n alike = absurd (none_or_some low high y ys q alike)
lists_are_one low high (x ∷ xs) [] p q m n alike = absurd (none_or_some low high x xs p (λ t a b. sym (alike t a b)))
lists_are_one low high (x ∷ xs) (y ∷ ys) p q m n alike =
    let first = first_is low high x xs y ys p q m n alike in
    let to : y.to ≡ x.to = ap (λ (s : Segment). s.to) (sym first) in
    let rest : xs ≡ ys =
    lists_are_one x.to high xs ys p.2 (subst (λ (k : ℕ). AreInOrder k ys high) to q.2) (none_go_on_rest x xs m) (none_go_on_rest y ys n)
    (λ t a b. sym (job_at_after x xs t a) ∙ alike t (omega (arith, p.0, p.1)) b ∙ job_at_after y ys t (omega arith)) in
    ap₂ (λ (s : Segment) (ss : List Segment). s ∷ ss) first rest

-- a segment of the list has its ticks
pub record IsThere (low high : ℕ) (xs : List Segment) (s : Segment) : Type 0 where
  pub after : low ≤ s.from
  pub some : s.from < s.to
  pub before : s.to ≤ high
  pub runs : (t : ℕ) → s.from ≤ t → t < s.to → job_at xs t ≡ Some s.job

pub is_there : (low high : ℕ) (xs : List Segment) → AreInOrder low xs high → (s : Segment) → Has xs s → IsThere low high xs s
is_there low high [] order s is = absurd is
is_there low high (x ∷ xs) order s is =
    ⊎_elim
    (λ (e : s ≡ x). subst (IsThere low high (x ∷ xs)) (sym e) (record {
      after = order.0;
      some = order.1;
      before = within x.to high xs order.2;
      runs = λ t a b. job_at_here x xs t a b;
    }))
    (λ (k : Has xs s).
    let r = is_there x.to high xs order.2 s k in
    let after = r.after in
    record {
      after = omega (arith, order.0, order.1);
      some = r.some;
      before = r.before;
      runs = λ t a b. job_at_after x xs t (omega arith) ∙ r.runs t a b;
    })
    is

-- the tick behind it goes to another job
pub ends : (low high : ℕ) (xs : List Segment) → AreInOrder low xs high → NoneGoOn xs → (s : Segment) → Has xs s → job_at xs s.to ≡ Some s.job → ⊥
ends low high [] order none s is e = absurd is
ends low high (x ∷ xs) order none s is e =
    ⊎_elim
    (λ (q : s ≡ x). goes_on high x xs order.2 none (sym (job_at_after x xs x.to (omega arith)) ∙ subst (λ (y : Segment). job_at (x ∷ xs) y.to ≡ Some y.job) q e))
    (λ (k : Has xs s).
    let r = is_there x.to high xs order.2 s k in
    let after = r.after in
    let some = r.some in
    ends x.to high xs order.2 (none_go_on_rest x xs none) s k (sym (job_at_after x xs s.to (omega arith)) ∙ e))
    is

-- so does the tick before it
pub begins : (low high : ℕ) (xs : List Segment) → AreInOrder low xs high → NoneGoOn xs → (s : Segment) → Has xs s → (t : ℕ) → suc t ≡ s.from → job_at xs t ≡ Some s.job → ⊥
begins low high [] order none s is t at e = absurd is
begins low high (x ∷ xs) order none s is t at e =
    ⊎_elim
    (λ (q : s ≡ x).
    let from : s.from ≡ x.from = ap (λ (y : Segment). y.from) q in
    none-some s.job (sym (job_at_before x xs t (omega arith) ∙ none_below x.to high xs t order.2 (omega (arith, order.1))) ∙ e))
    (λ (k : Has xs s).
    let r = is_there x.to high xs order.2 s k in
    let after = r.after in
    let some = r.some in
    ⊎_elim
    (λ (lt : t < x.to).
    let meets : s.from ≡ x.to = omega arith in
    let same : s.job ≡ x.job = same_Some s.job x.job (sym e ∙ job_at_here x xs t (omega (arith, order.1)) lt) in
    goes_on high x xs order.2 none (ap (job_at xs) (sym meets) ∙ r.runs s.from (omega arith) some ∙ ap (λ (j : Job). Some j) same))
    (λ (ge : x.to ≤ t). begins x.to high xs order.2 (none_go_on_rest x xs none) s k t at (sym (job_at_after x xs t ge) ∙ e))
    (cases_lt t x.to))
    is
