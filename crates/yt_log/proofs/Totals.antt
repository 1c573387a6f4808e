-- Sums over the items that pass a test.
use Rattle.std.proofs.Common.{◌≡◌, ℕ, zero, suc, ◌+◌, ◌<◌, ◌≤◌, ◌⊎◌, Bool, true, false, cond, List, [], ◌∷◌, refl, sym, ap, subst, ◌∙◌, inl, inr, ⊎_elim, arith, zero-le}
use Rattle.std.proofs.lemmas.Bool.{cases_Bool, cases_lt, cond-true, cond-false}
use Rattle.yt_log.specs.declared.plan.PlanItem.{PlanItem}
use Rattle.yt_log.specs.Tasks.{Has}

-- the sum of f over the items that pass
pub total : (PlanItem → Bool) → (PlanItem → ℕ) → List PlanItem → ℕ
total p f [] = 0
total p f (i ∷ is) = cond (p i) (f i) 0 + total p f is

term_le : (b c : Bool) (m n : ℕ) → (b ≡ true → (c ≡ true) × (m ≤ n)) → cond b m 0 ≤ cond c n 0
term_le false c m n h = zero-le
term_le true c m n h = let k : (c ≡ true) × (m ≤ n) = h refl in let e : cond c n 0 ≡ n = cond-true c n 0 k.0 in rw e k.1

pub total_le : (p q : PlanItem → Bool) (f g : PlanItem → ℕ) (xs : List PlanItem) → ((i : PlanItem) → Has xs i → p i ≡ true → (q i ≡ true) × (f i ≤ g i)) → total p f xs ≤ total q g xs
unfolding total
total_le p q f g [] h = zero-le
total_le p q f g (x ∷ xs) h =
    let head = term_le (p x) (q x) (f x) (g x) (h x (inl refl)) in
    let rest = total_le p q f g xs (λ i m. h i (inr m)) in
    omega arith

pub total_lt : (p : PlanItem → Bool) (f g : PlanItem → ℕ) (xs : List PlanItem) → ((i : PlanItem) → Has xs i → p i ≡ true → f i ≤ g i) → (m : PlanItem) → Has xs m → p m ≡ true → f m < g m → total p f xs < total p g xs
unfolding total
total_lt p f g [] h m is pm lt = absurd is
total_lt p f g (x ∷ xs) h m is pm lt =
    ⊎_elim
    (λ (e : m ≡ x).
    let px : p x ≡ true = ap p (sym e) ∙ pm in
    let lx : f x < g x = let P : PlanItem → Type 0 = λ i. f i < g i in subst P e lt in
    let a : cond (p x) (f x) 0 ≡ f x = cond-true (p x) (f x) 0 px in
    let b : cond (p x) (g x) 0 ≡ g x = cond-true (p x) (g x) 0 px in
    let rest = total_le p p f g xs (λ i k pi. (pi, h i (inr k) pi)) in
    omega arith)
    (λ (k : Has xs m).
    let head = term_le (p x) (p x) (f x) (g x) (λ px. (px, h x (inl refl) px)) in
    let rest = total_lt p f g xs (λ i n pi. h i (inr n) pi) m k pm lt in
    omega arith)
    is

term_split : (b c d : Bool) (m : ℕ) → (b ≡ true → (c ≡ true) ⊎ (d ≡ true)) → cond b m 0 ≤ cond c m 0 + cond d m 0
term_split false c d m h = zero-le
term_split true c d m h =
    ⊎_elim
    (λ (e : c ≡ true). let k : cond c m 0 ≡ m = cond-true c m 0 e in omega arith)
    (λ (e : d ≡ true). let k : cond d m 0 ≡ m = cond-true d m 0 e in omega arith)
    (h refl)

pub total_split : (p q r : PlanItem → Bool) (f : PlanItem → ℕ) (xs : List PlanItem) → ((i : PlanItem) → Has xs i → p i ≡ true → (q i ≡ true) ⊎ (r i ≡ true)) → total p f xs ≤ total q f xs + total r f xs
unfolding total
total_split p q r f [] h = zero-le
total_split p q r f (x ∷ xs) h =
    let head = term_split (p x) (q x) (r x) (f x) (h x (inl refl)) in
    let rest = total_split p q r f xs (λ i m. h i (inr m)) in
    omega arith

pub total_none : (p : PlanItem → Bool) (f : PlanItem → ℕ) (xs : List PlanItem) → ((i : PlanItem) → Has xs i → p i ≡ true → ⊥) → total p f xs ≤ 0
unfolding total
total_none p f [] h = zero-le
total_none p f (x ∷ xs) h =
    ⊎_elim
    (λ (e : p x ≡ true). absurd (h x (inl refl) e))
    (λ (e : p x ≡ false). let k : cond (p x) (f x) 0 ≡ 0 = cond-false (p x) (f x) 0 e in let rest = total_none p f xs (λ i m. h i (inr m)) in omega arith)
    (cases_Bool (p x))

-- the sum over a list with one more item in front
pub total_yes : (p : PlanItem → Bool) (f : PlanItem → ℕ) (x : PlanItem) (xs : List PlanItem) → p x ≡ true → total p f (x ∷ xs) ≡ f x + total p f xs
unfolding total
total_yes p f x xs e = let k : cond (p x) (f x) 0 ≡ f x = cond-true (p x) (f x) 0 e in omega arith

pub total_no : (p : PlanItem → Bool) (f : PlanItem → ℕ) (x : PlanItem) (xs : List PlanItem) → p x ≡ false → total p f (x ∷ xs) ≡ total p f xs
unfolding total
total_no p f x xs e = let k : cond (p x) (f x) 0 ≡ 0 = cond-false (p x) (f x) 0 e in omega arith

pub total-nil : (p : PlanItem → Bool) (f : PlanItem → ℕ) → total p f [] ≡ 0
unfolding total
total-nil p f = refl

-- what rises with each tick from x to t has risen by as much
pub climbs : (φ : ℕ → ℕ) (x t : ℕ) → x ≤ t → ((u : ℕ) → x ≤ u → u < t → φ u < φ (suc u)) → t + φ x ≤ x + φ t
climbs φ x zero h step = let e : x ≡ 0 = omega arith in let P : ℕ → Type 0 = λ y. 0 + φ y ≤ y + φ 0 in subst P (sym e) (omega arith)
climbs φ x (suc t) h step =
    ⊎_elim
    (λ (lt : x < suc t). let rest = climbs φ x t (omega arith) (λ u a b. step u a (omega arith)) in let last = step t (omega arith) (omega arith) in omega arith)
    (λ (ge : suc t ≤ x). let e : x ≡ suc t = omega arith in let P : ℕ → Type 0 = λ y. suc t + φ y ≤ y + φ (suc t) in subst P (sym e) (omega arith))
    (cases_lt x (suc t))

-- the sums over two tests that no item passes both of
term_join : (b c d : Bool) (m : ℕ) → (c ≡ true → b ≡ true) → (d ≡ true → b ≡ true) → (c ≡ true → d ≡ true → ⊥) → cond c m 0 + cond d m 0 ≤ cond b m 0
term_join b false false m h k l = zero-le
term_join b true false m h k l = let e : cond b m 0 ≡ m = cond-true b m 0 (h refl) in omega arith
term_join b false true m h k l = let e : cond b m 0 ≡ m = cond-true b m 0 (k refl) in omega arith
term_join b true true m h k l = absurd (l refl refl)

pub total_join : (p q r : PlanItem → Bool) (f : PlanItem → ℕ) (xs : List PlanItem) → ((i : PlanItem) → q i ≡ true → p i ≡ true) → ((i : PlanItem) → r i ≡ true → p i ≡ true) → ((i : PlanItem) → q i ≡ true → r i ≡ true → ⊥) → total q f xs + total r f xs ≤ total p f xs
unfolding total
total_join p q r f [] h k l = zero-le
total_join p q r f (x ∷ xs) h k l =
    let head = term_join (p x) (q x) (r x) (f x) (h x) (k x) (l x) in
    let rest = total_join p q r f xs h k l in
    omega arith

pub total_has : (p : PlanItem → Bool) (f : PlanItem → ℕ) (xs : List PlanItem) (m : PlanItem) → Has xs m → p m ≡ true → f m ≤ total p f xs
total_has p f [] m is pm = absurd is
total_has p f (x ∷ xs) m is pm =
    ⊎_elim
    (λ (e : m ≡ x).
    let a = total_yes p f x xs (ap p (sym e) ∙ pm) in
    let b : f m ≡ f x = ap f e in
    omega arith)
    (λ (k : Has xs m).
    let rest = total_has p f xs m k pm in
    ⊎_elim
    (λ (e : p x ≡ true). let a = total_yes p f x xs e in omega arith)
    (λ (e : p x ≡ false). let a = total_no p f x xs e in omega arith)
    (cases_Bool (p x)))
    is
