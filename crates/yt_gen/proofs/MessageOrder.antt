-- Messages sorted by their time and their input are in order.
use Rattle.std.proofs.Common.{◌≡◌, ℕ, Bool, true, false, cond, List, Ordering, is_lt, refl, subst}
use Rattle.std.specs.Prelude.{◌&&◌, ◌||◌, ◌==◌, nat_lt}
use Rattle.std.specs.Fn.{Called, ComputesKey}
use Rattle.std.specs.List.Sorted.{IsSortedBy, IsSortedByKey, IsStableBy, IsStableByKey}
use Rattle.std.specs.Ordering.{nat_cmp, ordering_then}
use Rattle.std.specs.declared.cmp.Ordering.TheVariants.{Less, Equal, Greater}
use Rattle.std.proofs.lemmas.Fn.{always_returns_same}
use Rattle.yt_order.specs.Sorting.{sort_by}
use Rattle.yt_order.proofs.Lemmas.{two_numbers_compare}
use Rattle.yt_gen.specs.TraceText.{message_before}
use Rattle.yt_gen.specs.declared.message.Message.{Message}
use Rattle.yt_gen.proofs.OneOrder.{one_order}
use denote.Param.Members.{Mut}
use denote.Ref.{Bor}

-- what decides is the first number, and where it is the same the second
first_decides : (a b c d : Bool) → is_lt (ordering_then (cond a Less (cond b Equal Greater)) (cond c Less (cond d Equal Greater))) ≡ (a || (b && c))
first_decides true b c d = refl
first_decides false true true d = refl
first_decides false true false true = refl
first_decides false true false false = refl
first_decides false false c d = refl

-- pairs of numbers by their order
abbrev pair_cmp : ℕ × ℕ → ℕ × ℕ → Ordering
pair_cmp a b = ordering_then (nat_cmp a.0 b.0) (nat_cmp a.1 b.1)

-- the time and the input of a message
abbrev key : Message → ℕ × ℕ
key m = (m.time, m.input)

key_before : (x y : Message) → is_lt (pair_cmp (key x) (key y)) ≡ message_before x y
key_before x y = first_decides (nat_lt x.time y.time) (x.time == y.time) (nat_lt x.input y.input) (x.input == y.input)

one_test : (λ x y. is_lt (pair_cmp (key x) (key y))) ≡ message_before
one_test = λ i x y. key_before x y i

-- what a stable sort by a closure leaves that gives this key
pub in_order : {F : Type 0} {g : Mut F (Bor Message × Unit {0}) (ℕ × ℕ)} {f : F} (xs ys : List Message) →
    ((k : Message → ℕ × ℕ) → ComputesKey g k f → IsSortedByKey k pair_cmp ys) →
    ((k : Message → ℕ × ℕ) → ComputesKey g k f → IsStableByKey k pair_cmp xs ys) →
    ((a : Bor Message × Unit {0}) (r : ℕ × ℕ) (f' : F) → Called g f a r f' → (r ≡ key a.0.now) × (f' ≡ f)) → ys ≡ sort_by message_before xs
in_order {g = g} {f = f} xs ys up stable calls =
    let computes : ComputesKey g key f = always_returns_same g (λ a r. r ≡ key a.0.now) f calls in
    one_order message_before (two_numbers_compare Message (λ m. m.time) (λ m. m.input)) xs ys
    (subst (λ (lt : Message → Message → Bool). IsSortedBy lt ys) one_test (up key computes))
    (subst (λ (lt : Message → Message → Bool). IsStableBy lt xs ys) one_test (stable key computes))
