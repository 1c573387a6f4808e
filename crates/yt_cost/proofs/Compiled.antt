-- What is kept of a graph's ports one after the other, and the first fault.
use Rattle.std.proofs.Common.{◌≡◌, ℕ, zero, suc, ◌+◌, ◌-◌, ◌<◌, ◌≤◌, ◌⊎◌, inl, inr, Bool, true, false, List, [], ◌∷◌, ◌++◌, length, drop, Option, None, Some, refl, sym, ap, ◌∙◌, subst, arith, length-append}
use Rattle.std.specs.Prelude.{nat_lt, if◌then◌else◌, map, slice_get, slice_index}
use Rattle.std.specs.List.{All}
use Rattle.std.specs.Option.{option_map, option_or}
use Rattle.std.proofs.lemmas.Bool.Decides.{nat_tests}
use Rattle.std.proofs.Math.Seq.{drop-length}
use Rattle.std.proofs.lemmas.List.Elements.{All-get_or}
use Rattle.std.proofs.lemmas.Option.{none-some, same_Some, slice_get_within, slice_get-map, get_or_from_slice_get}
use Rattle.yt_list.specs.Numbered.{numbered, numbered_or}
use Rattle.yt_list.proofs.Lemmas.{numbered_or_place, numbered_there}
pub use Rattle.yt_list.proofs.Lemmas.{drop_at}
use Rattle.yt_graph.specs.declared.port.OutHead.{OutHead}
use Rattle.yt_graph.specs.declared.port.Port.{Port}
use Rattle.yt_graph.specs.Picture.{PortTree, GraphTree, port_tree}
use Rattle.yt_graph.specs.Cost.{greatest_cost, greatest_sends}
use Rattle.yt_graph.specs.WellFormed.{IsFinePort, IsWellFormed}
use Rattle.yt_cost.specs.CodeFit.{block_calls, HasNoCalls, IsHandlerFit}
use Rattle.yt_cost.specs.Faults.{IsWithinLimits, crowded_out, port_fault, ports_fault}

-- the port at a place of a graph's picture
pub port_is : (ports : List Port) (k : ℕ) (port : Port) → slice_get ports k ≡ Some port → slice_get (map port_tree ports) k ≡ Some (port_tree port)
port_is ports k port is = slice_get-map port_tree ports k ∙ ap (option_map port_tree) is

-- a port of a well-formed graph is well formed
pub fine_port : (g : GraphTree) (k : ℕ) (p : PortTree) → IsWellFormed g → slice_get g.ports k ≡ Some p → IsFinePort g p
fine_port g k p well there =
    subst (IsFinePort g) (get_or_from_slice_get g.ports k p p there) (All-get_or (IsFinePort g) g.ports k p (slice_get_within g.ports k p there) well.each_port)

-- a port of a graph without calls can be compiled where it takes no more ticks than it may
pub port_fits : (g : GraphTree) (k : ℕ) (p : PortTree) → IsWellFormed g → HasNoCalls g → slice_get g.ports k ≡ Some p → greatest_cost p ≤ 1000000 → IsHandlerFit g p
port_fits g k p well calls there cost =
    let P : PortTree → Type 0 = λ q. block_calls q.body ≡ false in
    record {
      well_formed = fine_port g k p well there;
      no_calls = subst P (get_or_from_slice_get g.ports k p p there) (All-get_or P g.ports k p (slice_get_within g.ports k p there) calls);
      cost = cost;
    }

pub length-push : {X : Type 0} (xs : List X) (x : X) → length (xs ++ x ∷ []) ≡ length xs + 1
length-push xs x = length-append xs (x ∷ [])

-- an item of a list with one more is one of the list, or the new one
from_push : {X : Type 0} (xs : List X) (x : X) (n : ℕ) (y : X) → slice_get (xs ++ x ∷ []) n ≡ Some y → (slice_get xs n ≡ Some y) ⊎ ((n ≡ length xs) × (x ≡ y))
from_push [] x zero y e = inr (refl, same_Some x y e)
from_push [] x (suc n) y e = absurd (none-some y e)
from_push (z ∷ xs) x zero y e = inl e
from_push (z ∷ xs) x (suc n) y e =
    elim (from_push xs x n y e) [ inl h ↦ inl h | inr h ↦ inr (omega (arith, h.0), h.1) ]

-- what relates the items of two lists by their places relates them with one more item
pub each_more : {A B : Type 0} (R : A → B → Type 0) (xs : List A) (ys : List B) (x : A) (y : B) → ((n : ℕ) (a : A) → slice_get xs n ≡ Some a → (b : B) → slice_get ys n ≡ Some b → R a b) → slice_get xs (length ys) ≡ Some x → R x y → (n : ℕ) (a : A) → slice_get xs n ≡ Some a → (b : B) → slice_get (ys ++ y ∷ []) n ≡ Some b → R a b
each_more R xs ys x y each there new n a at b is =
    elim (from_push ys y n b is) [
      | inl h ↦ each n a at b h
      | inr h ↦
          let same : x ≡ a = same_Some x a (sym there ∙ (ap (slice_get xs) (sym h.0) ∙ at)) in
          subst (R a) h.1 (subst (λ z. R z y) same new)
    ]

-- and so by their numbers
pub by_numbers : {A B : Type 0} (R : A → B → Type 0) (xs : List A) (ys : List B) → ((k : ℕ) (a : A) → slice_get xs k ≡ Some a → (b : B) → slice_get ys k ≡ Some b → R a b) → (n : ℕ) (a : A) → numbered xs n ≡ Some a → (b : B) → numbered ys n ≡ Some b → R a b
by_numbers R xs ys each n a at b is = each (n - 1) a (numbered_there xs n a at).1 b (numbered_there ys n b is).1

-- the one item of a number
pub same_number : {X : Type 0} (xs : List X) (n : ℕ) (x y : X) → slice_get xs (n - 1) ≡ Some x → numbered xs n ≡ Some y → x ≡ y
same_number xs n x y here at = let there = (numbered_there xs n y at).1 in cc

index_before : (xs : List ℕ) (x k : ℕ) → k < length xs → slice_index (xs ++ x ∷ []) k ≡ slice_index xs k
index_before [] x k lt = absurd (omega arith)
index_before (y ∷ xs) x zero lt = refl
index_before (y ∷ xs) x (suc k) lt = index_before xs x k (omega arith)

index_last : (xs : List ℕ) (x : ℕ) → slice_index (xs ++ x ∷ []) (length xs) ≡ x
index_last [] x = refl
index_last (y ∷ xs) x = index_last xs x

at_most : (a b : ℕ) → a ≤ b + 1 → (a ≤ b) ⊎ (a ≡ b + 1)
at_most a b le = elim_lt (nat_lt b a) refl
  where
    elim_lt : (t : Bool) → nat_lt b a ≡ t → (a ≤ b) ⊎ (a ≡ b + 1)
    elim_lt true e = inr (grind (arith, nat_tests))
    elim_lt false e = inl (grind (arith, nat_tests))

-- the numbers of outs with one more out
pub outs_more : (f : ℕ → ℕ) (xs : List ℕ) (x n : ℕ) → length xs ≡ n → x ≡ f (n + 1) → ((out : ℕ) → 1 ≤ out → out ≤ n → numbered_or xs out 0 ≡ f out) → (out : ℕ) → 1 ≤ out → out ≤ n + 1 → numbered_or (xs ++ x ∷ []) out 0 ≡ f out
outs_more f xs x n count is each out low high =
    elim (at_most out n high) [
      | inl h ↦
          numbered_or_place (xs ++ x ∷ []) out 0 low
          ∙ index_before xs x (out - 1) (omega (arith, h))
          ∙ sym (numbered_or_place xs out 0 low) ∙ each out low h
      | inr h ↦
          let place : out - 1 ≡ length xs = omega (arith, h) in
          numbered_or_place (xs ++ x ∷ []) out 0 low
          ∙ ap (slice_index (xs ++ x ∷ [])) place ∙ (index_last xs x ∙ (is ∙ ap f (sym h)))
    ]

-- the items from a place on begin with one where the place is there
first_of_drop : {X : Type 0} (xs : List X) (i : ℕ) → i < length xs → (x : X) × (drop i xs ≡ x ∷ drop (i + 1) xs)
first_of_drop [] i lt = absurd (omega arith)
first_of_drop (x ∷ xs) zero lt = (x, refl)
first_of_drop (x ∷ xs) (suc i) lt =
    let h = first_of_drop xs i (omega arith) in
    let next : suc (i + 1) ≡ suc i + 1 = omega arith in
    (h.0, h.1 ∙ ap (λ n. h.0 ∷ drop n (x ∷ xs)) next)

-- an out within the limit is not the first one past it
pub not_crowded : (p : PortTree) (outs : List OutHead) (i : ℕ) → i < length outs → greatest_sends p (i + 1) ≤ 64 → crowded_out p (i + 1 + 1) (drop (i + 1) outs) ≡ crowded_out p (i + 1) (drop i outs)
not_crowded p outs i lt le =
    let test : nat_lt 64 (greatest_sends p (i + 1)) ≡ false = grind (arith, nat_tests) in
    sym (ap (crowded_out p (i + 1)) (first_of_drop outs i lt).1 ∙ ap (λ b. if b then Some (i + 1) else crowded_out p (i + 1 + 1) (drop (i + 1) outs)) test)

pub crowded : (p : PortTree) (outs : List OutHead) (i : ℕ) → i < length outs → 64 < greatest_sends p (i + 1) → crowded_out p (i + 1) (drop i outs) ≡ Some (i + 1)
crowded p outs i lt more =
    let test : nat_lt 64 (greatest_sends p (i + 1)) ≡ true = grind (arith, nat_tests) in
    ap (crowded_out p (i + 1)) (first_of_drop outs i lt).1 ∙ ap (λ b. if b then Some (i + 1) else crowded_out p (i + 1 + 1) (drop (i + 1) outs)) test

-- a port without a fault is not the first with one
pub next_fault : (number : ℕ) (p : PortTree) (rest : List PortTree) → port_fault number p ≡ None → ports_fault number (p ∷ rest) ≡ ports_fault (number + 1) rest
next_fault number p rest e = ap (λ o. option_or o (ports_fault (number + 1) rest)) e

-- behind all ports there is no fault
pub none_left : (number : ℕ) (ports : List Port) (i : ℕ) → i ≡ length ports → ports_fault number (map port_tree (drop i ports)) ≡ None
none_left number ports i end =
    ap (λ ps. ports_fault number (map port_tree ps)) (ap (λ n. drop n ports) end ∙ drop-length ports)

-- a choice that is nothing
if_none : {X : Type 0} (b : Bool) (x : X) (o : Option X) → (if b then Some x else o) ≡ None → (b ≡ false) × (o ≡ None)
if_none true x o e = absurd (none-some x (sym e))
if_none false x o e = (refl, e)

or_none : {X : Type 0} (a b : Option X) → option_or a b ≡ None → (a ≡ None) × (b ≡ None)
or_none None b e = (refl, e)
or_none (Some x) b e = absurd (none-some x (sym e))

map_none : {X Y : Type 0} (f : X → Y) (o : Option X) → option_map f o ≡ None → o ≡ None
map_none f None e = refl
map_none f (Some x) e = absurd (none-some (f x) (sym e))

first_or_more : (a b : ℕ) → a ≤ b → (a ≡ b) ⊎ (a + 1 ≤ b)
first_or_more a b le = elim (at_most (suc a) b (omega arith)) [ inl h ↦ inr (omega (arith, h)) | inr h ↦ inl (omega (arith, h)) ]

few : (n : ℕ) → nat_lt 64 n ≡ false → n ≤ 64
few n e = grind (arith, nat_tests)

-- where no out is past the limit, each is within it
none_crowded : (p : PortTree) (out : ℕ) (outs : List OutHead) → crowded_out p out outs ≡ None → (k : ℕ) → out ≤ k → k < out + length outs → greatest_sends p k ≤ 64
none_crowded p out [] e k low high = absurd (omega arith)
none_crowded p out (o ∷ rest) e k low high =
    let parts = if_none (nat_lt 64 (greatest_sends p out)) out (crowded_out p (out + 1) rest) e in
    elim (first_or_more out k low) [
      | inl h ↦ subst (λ n. greatest_sends p n ≤ 64) h (few (greatest_sends p out) parts.0)
      | inr h ↦ none_crowded p (out + 1) rest parts.1 k h (omega arith)
    ]

port_within : (number : ℕ) (p : PortTree) → port_fault number p ≡ None → IsWithinLimits p
port_within number p e =
    let parts = if_none (nat_lt 1000000 (greatest_cost p)) _ _ e in
    let none = map_none _ (crowded_out p 1 p.outs) parts.1 in
    record {
      ticks = grind (arith, nat_tests, parts.0);
      sends = λ out low high. none_crowded p 1 p.outs none out low (omega arith);
    }

-- where no port has a fault, each is within the limits
pub all_within : (number : ℕ) (ports : List PortTree) → ports_fault number ports ≡ None → All IsWithinLimits ports
all_within number [] e k d lt = absurd (omega arith)
all_within number (p ∷ rest) e zero d lt =
    let parts = or_none (port_fault number p) (ports_fault (number + 1) rest) e in
    port_within number p parts.0
all_within number (p ∷ rest) e (suc k) d lt =
    let parts = or_none (port_fault number p) (ports_fault (number + 1) rest) e in
    all_within (number + 1) rest parts.1 k d (omega arith)
