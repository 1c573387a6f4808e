-- Which fault decides: no fault of the list comes before it.
use Rattle.std.proofs.Common.{◌≡◌, ◌↔◌, ℕ, zero, suc, ◌<◌, ◌≤◌, ◌⊎◌, List, [], ◌∷◌, Bool, true, false, cond, None, Some, Contains, refl, sym, ap, ◌∙◌, subst, inl, inr, ⊎_elim, arith}
use Rattle.std.specs.List.{All}
use Rattle.std.specs.Prelude.{nat_lt, ◌==◌, ◌&&◌}
use Rattle.std.proofs.lemmas.Bool.{both_ways, and_parts, and_from, or_cases, or_left, or_right, false_from_ne_true, ltb-true, lt-ltb, eqb-true, eq-eqb}
use Rattle.std.proofs.lemmas.List.Elements.{All-nil, All-cons}
use Rattle.std.proofs.lemmas.Option.{none-some, same_Some}
use Rattle.yt_name_faults.specs.declared.fault.NameFault.{NameFault}
use Rattle.yt_name_faults.specs.First.{fault_place, fault_rank, is_before, is_same_place, decides, lesser, least_with, first_fault}
use Rattle.yt_name_faults.proofs.Lemmas.{no_fault}
use Rattle.yt_graph_laws.specs.Deciding.{FirstFaultIsFirst}

-- that one comes before another, by numbers
abbrev Before : NameFault → NameFault → Type 0
Before f g =
    ((fault_place f).line < (fault_place g).line)
    ⊎ (((fault_place f).line ≡ (fault_place g).line) × ((fault_place f).col < (fault_place g).col)
    ⊎ (((fault_place f).line ≡ (fault_place g).line) × ((fault_place f).col ≡ (fault_place g).col) × (fault_rank f < fault_rank g)))

before_is : (f g : NameFault) → decides f g ≡ true → Before f g
unfolding decides
before_is f g e =
    let p = fault_place f in
    let q = fault_place g in
    let here : Bool = nat_lt p.line q.line in
    ⊎_elim
    (λ (a : is_before p q ≡ true). ⊎_elim
    (λ (l : nat_lt p.line q.line ≡ true). inl (ltb-true p.line q.line l))
    (λ (r : ((p.line == q.line) && nat_lt p.col q.col) ≡ true). let parts = and_parts (p.line == q.line) (nat_lt p.col q.col) r in inr (inl (eqb-true p.line q.line parts.0, ltb-true p.col q.col parts.1)))
    (or_cases (nat_lt p.line q.line) ((p.line == q.line) && nat_lt p.col q.col) a))
    (λ (b : (is_same_place p q && nat_lt (fault_rank f) (fault_rank g)) ≡ true).
    let parts = and_parts (is_same_place p q) (nat_lt (fault_rank f) (fault_rank g)) b in
    let same = and_parts (p.line == q.line) (p.col == q.col) parts.0 in
    inr (inr (eqb-true p.line q.line same.0, eqb-true p.col q.col same.1, ltb-true (fault_rank f) (fault_rank g) parts.1)))
    (or_cases (is_before p q) (is_same_place p q && nat_lt (fault_rank f) (fault_rank g)) e)

is_before_from : (f g : NameFault) → Before f g → decides f g ≡ true
unfolding decides
is_before_from f g h =
    let p = fault_place f in
    let q = fault_place g in
    let early : Bool = is_before p q in
    let late : Bool = is_same_place p q && nat_lt (fault_rank f) (fault_rank g) in
    let column : Bool = (p.line == q.line) && nat_lt p.col q.col in
    ⊎_elim
    (λ (a : p.line < q.line). or_left early late (or_left (nat_lt p.line q.line) column (lt-ltb p.line q.line a)))
    (λ r. ⊎_elim
    (λ (b : (p.line ≡ q.line) × (p.col < q.col)). or_left early late (or_right (nat_lt p.line q.line) column (and_from (p.line == q.line) (nat_lt p.col q.col) (eq-eqb p.line q.line b.0) (lt-ltb p.col q.col b.1))))
    (λ (c : (p.line ≡ q.line) × (p.col ≡ q.col) × (fault_rank f < fault_rank g)).
    or_right early late (and_from (is_same_place p q) (nat_lt (fault_rank f) (fault_rank g)) (and_from (p.line == q.line) (p.col == q.col) (eq-eqb p.line q.line c.0) (eq-eqb p.col q.col c.1)) (lt-ltb (fault_rank f) (fault_rank g) c.2)))
    r)
    h

-- two numbers are in one order or the other, or are the same
order : (a b : ℕ) → (a < b) ⊎ ((a ≡ b) ⊎ (b < a))
order zero zero = inr (inl refl)
order zero (suc b) = inl (omega arith)
order (suc a) zero = inr (inr (omega arith))
order (suc a) (suc b) =
    ⊎_elim
    (λ (h : a < b). inl (omega arith))
    (λ r. ⊎_elim (λ (e : a ≡ b). inr (inl (ap suc e))) (λ (h : b < a). inr (inr (omega arith))) r)
    (order a b)

-- that one comes no sooner than another
abbrev Late : NameFault → NameFault → Type 0
Late f g =
    ((fault_place g).line < (fault_place f).line)
    ⊎ (((fault_place g).line ≡ (fault_place f).line) × ((fault_place g).col < (fault_place f).col)
    ⊎ (((fault_place g).line ≡ (fault_place f).line) × ((fault_place g).col ≡ (fault_place f).col) × (fault_rank g ≤ fault_rank f)))

late_is : (f g : NameFault) → decides f g ≡ false → Late f g
late_is f g e =
    let p = fault_place f in
    let q = fault_place g in
    let never : Before f g → ⊥ = λ b. both_ways (decides f g) e (is_before_from f g b) in
    ⊎_elim
    (λ (h : p.line < q.line). absurd (never (inl h)))
    (λ r. ⊎_elim
    (λ (l : p.line ≡ q.line). ⊎_elim
    (λ (h : p.col < q.col). absurd (never (inr (inl (l, h)))))
    (λ s. ⊎_elim
    (λ (c : p.col ≡ q.col). ⊎_elim
    (λ (h : fault_rank f < fault_rank g). absurd (never (inr (inr (l, c, h)))))
    (λ t. inr (inr (sym l, sym c, ⊎_elim (λ (k : fault_rank f ≡ fault_rank g). omega arith) (λ (k : fault_rank g < fault_rank f). omega arith) t)))
    (order (fault_rank f) (fault_rank g)))
    (λ (h : q.col < p.col). inr (inl (sym l, h)))
    s)
    (order p.col q.col))
    (λ (h : q.line < p.line). inl h)
    r)
    (order p.line q.line)

late_from : (f g : NameFault) → decides f g ≡ true → Late g f
late_from f g e =
    ⊎_elim (λ a. inl a) (λ r. ⊎_elim (λ b. inr (inl b)) (λ c. let k = c.2 in inr (inr (c.0, c.1, omega arith))) r) (before_is f g e)

-- what a later one comes before, an earlier one comes before too
sooner : (f g m : NameFault) → Late f g → Before f m → Before g m
sooner f g m (inl a) (inl b) = inl (omega arith)
sooner f g m (inl a) (inr (inl b)) = let k = b.0 in inl (omega arith)
sooner f g m (inl a) (inr (inr b)) = let k = b.0 in inl (omega arith)
sooner f g m (inr (inl a)) (inl b) = let k = a.0 in inl (omega arith)
sooner f g m (inr (inl a)) (inr (inl b)) = let k = a.1 in let l = b.1 in inr (inl (a.0 ∙ b.0, omega arith))
sooner f g m (inr (inl a)) (inr (inr b)) = let k = a.1 in let l = b.1 in inr (inl (a.0 ∙ b.0, omega arith))
sooner f g m (inr (inr a)) (inl b) = let k = a.0 in inl (omega arith)
sooner f g m (inr (inr a)) (inr (inl b)) = let k = a.1 in let l = b.1 in inr (inl (a.0 ∙ b.0, omega arith))
sooner f g m (inr (inr a)) (inr (inr b)) = let k = a.2 in let l = b.2 in inr (inr (a.0 ∙ b.0, a.1 ∙ b.1, omega arith))

-- where a fault doesn't come before another, a later one doesn't either
keeps_late : (f g m : NameFault) → Late g f → decides f m ≡ false → decides g m ≡ false
keeps_late f g m late e = false_from_ne_true (decides g m) (λ h. both_ways (decides f m) e (is_before_from f m (sooner g f m late (before_is g m h))))

not_self : (f : NameFault) → decides f f ≡ false
not_self f = false_from_ne_true (decides f f) (λ h. by (before_is f f h))
  where
    by : Before f f → ⊥
    by (inl a) = absurd (omega arith)
    by (inr (inl a)) = let k = a.1 in absurd (omega arith)
    by (inr (inr a)) = let k = a.2 in absurd (omega arith)

-- what decides of a fault and more: it is there, and none comes before it
record IsLeast (f : NameFault) (fs : List NameFault) (m : NameFault) : Type 0 where
  there : (m ≡ f) ⊎ Contains fs m
  first : decides f m ≡ false
  others : All (λ x. decides x m ≡ false) fs

contains_first : (f : NameFault) (fs : List NameFault) → Contains (f ∷ fs) f
contains_first f fs = (0, omega arith, refl)

contains_rest : (f m : NameFault) (fs : List NameFault) → Contains fs m → Contains (f ∷ fs) m
contains_rest f m fs (k, lt, at) = (suc k, omega arith, at)

in_list : (f m : NameFault) (fs : List NameFault) → (m ≡ f) ⊎ Contains fs m → Contains (f ∷ fs) m
in_list f m fs h = ⊎_elim (λ (e : m ≡ f). subst (λ x. Contains (x ∷ fs) m) e (contains_first m fs)) (λ c. contains_rest f m fs c) h

-- one fault more, where the one of both that decides goes on
least_then : (g f m : NameFault) (gs : List NameFault) (b : Bool) → decides g f ≡ b → ((x : NameFault) → least_with gs (Some x) ≡ Some m → IsLeast x gs m) →
    least_with gs (Some (cond b g f)) ≡ Some m → IsLeast f (g ∷ gs) m
least_then g f m gs true d each h =
    let rest = each g h in
    record {
      there = inr (in_list g m gs rest.there);
      first = keeps_late g f m (late_from g f d) rest.first;
      others = All-cons (λ x. decides x m ≡ false) g gs rest.first rest.others;
    }
least_then g f m gs false d each h =
    let rest = each f h in
    record {
      there = ⊎_elim (λ (s : m ≡ f). inl s) (λ c. inr (contains_rest g m gs c)) rest.there;
      first = rest.first;
      others = All-cons (λ x. decides x m ≡ false) g gs (keeps_late f g m (late_is g f d) rest.first) rest.others;
    }

least_is : (fs : List NameFault) (f m : NameFault) → least_with fs (Some f) ≡ Some m → IsLeast f fs m
unfolding least_with lesser
least_is [] f m e =
    let same : f ≡ m = same_Some f m e in
    record { there = inl (sym same); first = subst (λ x. decides f x ≡ false) same (not_self f); others = All-nil (λ x. decides x m ≡ false) }
least_is (g ∷ gs) f m e = least_then g f m gs (decides g f) refl (λ x h. least_is gs x m h) e

pub first_fault_is_first : FirstFaultIsFirst
unfolding least_with lesser
first_fault_is_first = record { member = member; first = first; none = none }
  where
    member : (faults : List NameFault) (m : NameFault) → first_fault faults ≡ Some m → Contains faults m
    member [] m e = absurd (none-some m e)
    member (f ∷ fs) m e = in_list f m fs (least_is fs f m e).there

    first : (faults : List NameFault) (m : NameFault) → first_fault faults ≡ Some m → All (λ fault. decides fault m ≡ false) faults
    first [] m e = absurd (none-some m e)
    first (f ∷ fs) m e = let least = least_is fs f m e in All-cons (λ x. decides x m ≡ false) f fs least.first least.others

    none : (faults : List NameFault) → (first_fault faults ≡ None) ↔ (faults ≡ [])
    none faults = (no_fault faults, λ e. ap first_fault e)
