-- Lines in order are settled by the lines of each output.
use Rattle.std.proofs.Common.{◌≡◌, ◌⊎◌, ℕ, ◌<◌, ◌≤◌, true, false, cond, eqb, ltb, ◌&&◌, List, [], ◌∷◌, refl, sym, ap, subst, ◌∙◌, inl, inr, ⊎_elim, arith, eq-eqb, ne_eqb, eqb-true, ltb-true, lt-ltb}
use Rattle.std.proofs.lemmas.Bool.{cases_eq, cases_lt, cases_Bool, cond-true, cond-false, both_ways, or_cases, and_parts, or_left, or_right, and_from, false_from_ne_true}
use Rattle.yt_order.specs.Sorting.{insert_by, sort_by}
use Rattle.yt_log.specs.Tasks.{Has}
use Rattle.yt_log.proofs.Lemmas.{has_insert, has_sorted}
use Rattle.yt_serial.specs.declared.shown.OutLine.{OutLine}
use Rattle.yt_serial.specs.Told.{line_before}
use Rattle.yt_serial.specs.Lines.{lines_of, AreInLineOrder}

-- a line comes before another by its time, and then by its output
before_parts : (a b : OutLine) → line_before a b ≡ true → (a.time < b.time) ⊎ ((a.time ≡ b.time) × (a.output < b.output))
before_parts a b h =
    ⊎_elim
    (λ (l : ltb a.time b.time ≡ true). inl (ltb-true a.time b.time l))
    (λ (k : (eqb a.time b.time && ltb a.output b.output) ≡ true).
    let p = and_parts (eqb a.time b.time) (ltb a.output b.output) k in
    inr (eqb-true a.time b.time p.0, ltb-true a.output b.output p.1))
    (or_cases (ltb a.time b.time) (eqb a.time b.time && ltb a.output b.output) h)

before_time : (a b : OutLine) → a.time < b.time → line_before a b ≡ true
before_time a b lt = or_left (ltb a.time b.time) (eqb a.time b.time && ltb a.output b.output) (lt-ltb a.time b.time lt)

before_output : (a b : OutLine) → a.time ≡ b.time → a.output < b.output → line_before a b ≡ true
before_output a b e lt =
    or_right (ltb a.time b.time) (eqb a.time b.time && ltb a.output b.output)
    (and_from (eqb a.time b.time) (ltb a.output b.output) (eq-eqb a.time b.time e) (lt-ltb a.output b.output lt))

-- which of two lines is later, or of one time and output
not_before : (a b : OutLine) → line_before a b ≡ false → (b.time < a.time) ⊎ ((b.time ≡ a.time) × (b.output ≤ a.output))
not_before a b h =
    ⊎_elim
    (λ (lt : b.time < a.time). inl lt)
    (λ (ge : a.time ≤ b.time).
    ⊎_elim
    (λ (e : a.time ≡ b.time).
    ⊎_elim
    (λ (l : a.output < b.output). absurd (both_ways (line_before a b) h (before_output a b e l)))
    (λ (k : b.output ≤ a.output). inr (sym e, k))
    (cases_lt a.output b.output))
    (λ (ne : a.time ≡ b.time → ⊥). absurd (both_ways (line_before a b) h (before_time a b (omega arith))))
    (cases_eq a.time b.time))
    (cases_lt b.time a.time)

pub from_not : (a b : OutLine) → (b.time < a.time) ⊎ ((b.time ≡ a.time) × (b.output ≤ a.output)) → line_before a b ≡ false
from_not a b h =
    false_from_ne_true (line_before a b) (λ t.
    ⊎_elim
    (λ (x : b.time < a.time). ⊎_elim (λ (y : a.time < b.time). absurd (omega arith)) (λ (y : (a.time ≡ b.time) × (a.output < b.output)). let e = y.0 in absurd (omega arith)) (before_parts a b t))
    (λ (x : (b.time ≡ a.time) × (b.output ≤ a.output)).
    let e = x.0 in
    let o = x.1 in
    ⊎_elim (λ (y : a.time < b.time). absurd (omega arith)) (λ (y : (a.time ≡ b.time) × (a.output < b.output)). let k = y.1 in absurd (omega arith)) (before_parts a b t))
    h)

-- not before is kept along a chain
not_before_chain : (a b c : OutLine) → line_before b a ≡ false → line_before c b ≡ false → line_before c a ≡ false
not_before_chain a b c h k =
    from_not c a
    (⊎_elim
    (λ (x : a.time < b.time). ⊎_elim (λ (y : b.time < c.time). inl (omega arith)) (λ (y : (b.time ≡ c.time) × (b.output ≤ c.output)). let e = y.0 in inl (omega arith)) (not_before c b k))
    (λ (x : (a.time ≡ b.time) × (a.output ≤ b.output)).
    let e = x.0 in
    let o = x.1 in
    ⊎_elim (λ (y : b.time < c.time). inl (omega arith)) (λ (y : (b.time ≡ c.time) × (b.output ≤ c.output)). let f = y.0 in let p = y.1 in inr (omega arith, omega arith)) (not_before c b k))
    (not_before b a h))

pub lines_same : (n : ℕ) (l : OutLine) (lines : List OutLine) → l.output ≡ n → lines_of n (l ∷ lines) ≡ l ∷ lines_of n lines
lines_same n l lines e = cond-true (eqb l.output n) (l ∷ lines_of n lines) (lines_of n lines) (eq-eqb l.output n e)

pub lines_other : (n : ℕ) (l : OutLine) (lines : List OutLine) → (l.output ≡ n → ⊥) → lines_of n (l ∷ lines) ≡ lines_of n lines
lines_other n l lines e = cond-false (eqb l.output n) (l ∷ lines_of n lines) (lines_of n lines) (ne_eqb l.output n e)

-- one more line in front keeps what is the same behind it
pub lines_front : (n : ℕ) (l : OutLine) (xs ys : List OutLine) → lines_of n xs ≡ lines_of n ys → lines_of n (l ∷ xs) ≡ lines_of n (l ∷ ys)
lines_front n l xs ys e = ap (λ (ls : List OutLine). cond (eqb l.output n) (l ∷ ls) ls) e

pub has_lines : (n : ℕ) (lines : List OutLine) (l : OutLine) → Has (lines_of n lines) l → Has lines l
has_lines n [] l h = h
has_lines n (x ∷ lines) l h =
    ⊎_elim
    (λ (e : x.output ≡ n).
    ⊎_elim (λ (q : l ≡ x). inl q) (λ (k : Has (lines_of n lines) l). inr (has_lines n lines l k)) (subst (λ (ls : List OutLine). Has ls l) (lines_same n x lines e) h))
    (λ (ne : x.output ≡ n → ⊥). inr (has_lines n lines l (subst (λ (ls : List OutLine). Has ls l) (lines_other n x lines ne) h)))
    (cases_eq x.output n)

pub lines_has : (n : ℕ) (lines : List OutLine) (l : OutLine) → Has lines l → l.output ≡ n → Has (lines_of n lines) l
lines_has n [] l h e = h
lines_has n (x ∷ lines) l h e =
    ⊎_elim
    (λ (q : l ≡ x). subst (λ (ls : List OutLine). Has ls l) (sym (lines_same n x lines (ap (λ (y : OutLine). y.output) (sym q) ∙ e))) (inl q))
    (λ (k : Has lines l).
    ⊎_elim
    (λ (s : x.output ≡ n). subst (λ (ls : List OutLine). Has ls l) (sym (lines_same n x lines s)) (inr (lines_has n lines l k e)))
    (λ (ne : x.output ≡ n → ⊥). subst (λ (ls : List OutLine). Has ls l) (sym (lines_other n x lines ne)) (lines_has n lines l k e))
    (cases_eq x.output n))
    h

-- of lists in order that have the same lines of each output, both have the same first line
first_not_before : (y : OutLine) (ys : List OutLine) (x : OutLine) → AreInLineOrder (y ∷ ys) → Has (y ∷ ys) x → line_before x y ≡ false
first_not_before y ys x order h =
    ⊎_elim
    (λ (e : x ≡ y). from_not x y (inr (ap (λ (l : OutLine). l.time) (sym e), let o = ap (λ (l : OutLine). l.output) e in omega arith)))
    (λ (k : Has ys x). order.0 x k)
    h

same_head : (x y : OutLine) (xs ys : List OutLine) → x ∷ xs ≡ y ∷ ys → (x ≡ y) × (xs ≡ ys)
same_head x y xs ys e = (ap (head_or x) e, ap tail_of e)
  where
    head_or : OutLine → List OutLine → OutLine
    head_or d [] = d
    head_or d (l ∷ ls) = l

    tail_of : List OutLine → List OutLine
    tail_of [] = []
    tail_of (l ∷ ls) = ls

pub same_lines : (xs ys : List OutLine) → AreInLineOrder xs → AreInLineOrder ys → ((n : ℕ) → lines_of n xs ≡ lines_of n ys) → xs ≡ ys
same_lines [] [] p q same = refl
same_lines [] (y ∷ ys) p q same = absurd (subst (λ (ls : List OutLine). Has ls y) (sym (same y.output)) (lines_has y.output (y ∷ ys) y (inl refl) refl))
same_lines (x ∷ xs) [] p q same = absurd (subst (λ (ls : List OutLine). Has ls x) (same x.output) (lines_has x.output (x ∷ xs) x (inl refl) refl))
same_lines (x ∷ xs) (y ∷ ys) p q same =
    let x_in : Has (y ∷ ys) x = has_lines x.output (y ∷ ys) x (subst (λ (ls : List OutLine). Has ls x) (same x.output) (lines_has x.output (x ∷ xs) x (inl refl) refl)) in
    let y_in : Has (x ∷ xs) y = has_lines y.output (x ∷ xs) y (subst (λ (ls : List OutLine). Has ls y) (sym (same y.output)) (lines_has y.output (y ∷ ys) y (inl refl) refl)) in
    let a = not_before x y (first_not_before y ys x q x_in) in
    let b = not_before y x (first_not_before x xs y p y_in) in
    let outputs : x.output ≡ y.output =
    ⊎_elim
    (λ (l : y.time < x.time). ⊎_elim (λ (k : x.time < y.time). absurd (omega arith)) (λ (k : (x.time ≡ y.time) × (x.output ≤ y.output)). let e = k.0 in absurd (omega arith)) b)
    (λ (l : (y.time ≡ x.time) × (y.output ≤ x.output)).
    let e = l.0 in
    let o = l.1 in
    ⊎_elim (λ (k : x.time < y.time). absurd (omega arith)) (λ (k : (x.time ≡ y.time) × (x.output ≤ y.output)). let u = k.1 in omega arith) b)
    a in
    let heads = same_head x y (lines_of y.output xs) (lines_of y.output ys) (sym (lines_same y.output x xs outputs) ∙ same y.output ∙ lines_same y.output y ys refl) in
    let rest : (n : ℕ) → lines_of n xs ≡ lines_of n ys = λ n.
    ⊎_elim
    (λ (e : x.output ≡ n).
    (same_head x y (lines_of n xs) (lines_of n ys) (sym (lines_same n x xs e) ∙ same n ∙ lines_same n y ys (sym outputs ∙ e))).1)
    (λ (ne : x.output ≡ n → ⊥).
    sym (lines_other n x xs ne) ∙ same n ∙ lines_other n y ys (λ e. ne (outputs ∙ e)))
    (cases_eq x.output n) in
    ap (λ (l : OutLine). l ∷ xs) heads.0 ∙ ap (λ (ls : List OutLine). y ∷ ls) (same_lines xs ys p.1 q.1 rest)

-- the times of lines rise
abbrev pub TimesRise : List OutLine → Type 0
TimesRise [] = Unit {0}
TimesRise (l ∷ lines) = ((x : OutLine) → Has lines x → l.time ≤ x.time) × TimesRise lines

-- a line put into lines in order
insert_order : (x : OutLine) (ys : List OutLine) → AreInLineOrder ys → AreInLineOrder (insert_by line_before x ys)
insert_order x [] p = ((λ y h. absurd h), tt)
insert_order x (y ∷ ys) p =
    ⊎_elim
    (λ (b : line_before y x ≡ true).
    subst AreInLineOrder (sym (cond-true (line_before y x) (y ∷ insert_by line_before x ys) (x ∷ y ∷ ys) b)) (
      (λ z h. ⊎_elim
          (λ (e : z ≡ x). subst (λ (w : OutLine). line_before w y ≡ false) (sym e) (from_not x y (⊎_elim (λ (l : y.time < x.time). inl l) (λ (k : (y.time ≡ x.time) × (y.output < x.output)). let o = k.1 in inr (k.0, omega arith)) (before_parts y x b))))
          (λ (k : Has ys z). p.0 z k)
          (has_insert line_before x ys z h)),
      insert_order x ys p.1,
    ))
    (λ (b : line_before y x ≡ false).
    subst AreInLineOrder (sym (cond-false (line_before y x) (y ∷ insert_by line_before x ys) (x ∷ y ∷ ys) b)) (
      (λ z h. ⊎_elim
          (λ (e : z ≡ y). subst (λ (w : OutLine). line_before w x ≡ false) (sym e) b)
          (λ (k : Has ys z). not_before_chain x y z b (p.0 z k))
          h),
      p,
    ))
    (cases_Bool (line_before y x))

-- it stays in front of the later ones of its output
insert_lines : (n : ℕ) (x : OutLine) (ys : List OutLine) → ((y : OutLine) → Has ys y → y.output ≡ x.output → x.time ≤ y.time) → lines_of n (insert_by line_before x ys) ≡ lines_of n (x ∷ ys)
insert_lines n x [] first = refl
insert_lines n x (y ∷ ys) first =
    ⊎_elim
    (λ (b : line_before y x ≡ true).
    let differ : y.output ≡ x.output → ⊥ = λ e.
    let le = first y (inl refl) e in
    ⊎_elim (λ (l : y.time < x.time). absurd (omega arith)) (λ (k : (y.time ≡ x.time) × (y.output < x.output)). let o = k.1 in absurd (omega arith)) (before_parts y x b) in
    ap (lines_of n) (cond-true (line_before y x) (y ∷ insert_by line_before x ys) (x ∷ y ∷ ys) b)
    ∙ lines_front n y (insert_by line_before x ys) (x ∷ ys) (insert_lines n x ys (λ z h e. first z (inr h) e))
    ∙ swap differ)
    (λ (b : line_before y x ≡ false). ap (lines_of n) (cond-false (line_before y x) (y ∷ insert_by line_before x ys) (x ∷ y ∷ ys) b))
    (cases_Bool (line_before y x))
  where
    swap : (y.output ≡ x.output → ⊥) → lines_of n (y ∷ x ∷ ys) ≡ lines_of n (x ∷ y ∷ ys)
    swap differ =
        ⊎_elim
        (λ (e : y.output ≡ n).
        let other : x.output ≡ n → ⊥ = λ f. differ (e ∙ sym f) in
        lines_same n y (x ∷ ys) e ∙ ap (λ (ls : List OutLine). y ∷ ls) (lines_other n x ys other) ∙ sym (lines_other n x (y ∷ ys) other ∙ lines_same n y ys e))
        (λ (ne : y.output ≡ n → ⊥).
        lines_other n y (x ∷ ys) ne ∙ sym (lines_front n x (y ∷ ys) ys (lines_other n y ys ne)))
        (cases_eq y.output n)

pub sort_order : (xs : List OutLine) → AreInLineOrder (sort_by line_before xs)
sort_order [] = tt
sort_order (x ∷ xs) = insert_order x (sort_by line_before xs) (sort_order xs)

-- sorting keeps the lines of each output, where their times rise
pub sort_lines : (xs : List OutLine) → ((n : ℕ) → TimesRise (lines_of n xs)) → (n : ℕ) → lines_of n (sort_by line_before xs) ≡ lines_of n xs
sort_lines [] rise n = refl
sort_lines (x ∷ xs) rise n =
    insert_lines n x (sort_by line_before xs) (λ y h e. first y (has_sorted line_before xs y h) e)
    ∙ lines_front n x (sort_by line_before xs) xs (sort_lines xs rest n)
  where
    first : (y : OutLine) → Has xs y → y.output ≡ x.output → x.time ≤ y.time
    first y h e =
        (subst TimesRise (lines_same x.output x xs refl) (rise x.output)).0 y (lines_has x.output xs y h e)

    rest : (k : ℕ) → TimesRise (lines_of k xs)
    rest k =
        ⊎_elim
        (λ (e : x.output ≡ k). (subst TimesRise (lines_same k x xs e) (rise k)).1)
        (λ (ne : x.output ≡ k → ⊥). subst TimesRise (lines_other k x xs ne) (rise k))
        (cases_eq x.output k)

-- lines in order that have the lines of each output are the sorted list
pub sorted_is : (lines xs : List OutLine) → AreInLineOrder lines → ((n : ℕ) → TimesRise (lines_of n xs)) → ((n : ℕ) → lines_of n lines ≡ lines_of n xs) → lines ≡ sort_by line_before xs
sorted_is lines xs order rise same = same_lines lines (sort_by line_before xs) order (sort_order xs) (λ n. same n ∙ sym (sort_lines xs rise n))
