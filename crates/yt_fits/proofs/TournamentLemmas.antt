-- Numbers of which the least is at hand.
use Rattle.std.proofs.Common.{◌≡◌, ℕ, zero, suc, ◌+◌, ◌-◌, ◌*◌, ◌/◌, ◌<◌, ◌≤◌, ◌⊎◌, inl, inr, List, length, slice_set, sym, ap, subst, ◌∙◌, ⊎_elim, arith}
use Rattle.std.proofs.lemmas.Bool.{cases_eq, cases_lt}
use Rattle.std.proofs.lemmas.List.{get_or-set_other, get_or-set_same}
use Rattle.yt_fits.specs.declared.tournament.Entrant.{Entrant}
use Rattle.yt_fits.specs.Inside.Tournaments.{IsEntrant, IsLesser, IsPlayed, entrant_at, number_at}

abbrev nobody : Entrant
nobody = record { number = 0; place = 0 }

halves : (n : ℕ) → (n ≡ 2 * (n / 2)) ⊎ (n ≡ 2 * (n / 2) + 1)
halves n = ⊎_elim (λ (e : n ≡ 2 * (n / 2)). inl e) (λ (ne : n ≡ 2 * (n / 2) → ⊥). inr (omega arith)) (cases_eq n (2 * (n / 2)))

abbrev IsOver : List Entrant → ℕ → Type 0
IsOver nodes n = (entrant_at nodes 1).number ≤ (entrant_at nodes n).number

-- who stands at the top has no greater number than any other
top_least : (nodes : List Entrant) (fuel node : ℕ) → IsPlayed nodes → node ≤ fuel → 1 ≤ node → node < 128 → (entrant_at nodes 1).number ≤ (entrant_at nodes node).number
top_least nodes zero node played small some few = absurd (omega arith)
top_least nodes (suc fuel) node played small some few =
    ⊎_elim
    (λ (one : node ≡ 1). subst (IsOver nodes) (sym one) (omega arith))
    (λ (ne : node ≡ 1 → ⊥).
    let above : (entrant_at nodes 1).number ≤ (entrant_at nodes (node / 2)).number = top_least nodes fuel (node / 2) played (omega arith) (omega arith) (omega arith) in
    let is = (played.told (node / 2) (omega arith) (omega arith)).lesser (omega arith) in
    let left = is.below_left in
    let right = is.below_right in
    ⊎_elim
    (λ (even : node ≡ 2 * (node / 2)). subst (IsOver nodes) (sym even) (omega arith))
    (λ (odd : node ≡ 2 * (node / 2) + 1). subst (IsOver nodes) (sym odd) (omega arith))
    (halves node))
    (cases_eq node 1)

pub least_of : (nodes : List Entrant) (place : ℕ) → IsPlayed nodes → place < 64 → (entrant_at nodes 1).number ≤ number_at nodes place
least_of nodes place played few = top_least nodes (64 + place) (64 + place) played (omega arith) (omega arith) (omega arith)

-- and stands at a place
record Winner (nodes : List Entrant) (node : ℕ) : Type 0 where
  place : ℕ
  within : place < 64
  is : entrant_at nodes node ≡ entrant_at nodes (64 + place)

winner : (nodes : List Entrant) (fuel node : ℕ) → IsPlayed nodes → 128 ≤ node + fuel → 1 ≤ node → node < 128 → Winner nodes node
winner nodes zero node played far some few = absurd (omega arith)
winner nodes (suc fuel) node played far some few =
    ⊎_elim
    (λ (h : node < 64).
    ⊎_elim
    (λ (left : entrant_at nodes node ≡ entrant_at nodes (2 * node)).
    let w = winner nodes fuel (2 * node) played (omega arith) (omega arith) (omega arith) in
    passes (2 * node) left w)
    (λ (right : entrant_at nodes node ≡ entrant_at nodes (2 * node + 1)).
    let w = winner nodes fuel (2 * node + 1) played (omega arith) (omega arith) (omega arith) in
    passes (2 * node + 1) right w)
    ((played.told node some few).lesser h).one)
    (λ (h : 64 ≤ node).
    let same : node ≡ 64 + (node - 64) = omega arith in
    record { place = node - 64; within = omega arith; is = ap (entrant_at nodes) same })
    (cases_lt node 64)
  where
    passes : (child : ℕ) → entrant_at nodes node ≡ entrant_at nodes child → Winner nodes child → Winner nodes node
    passes child same w = record { place = w.place; within = w.within; is = same ∙ w.is }

pub record IsTop (nodes : List Entrant) (entrant : Entrant) : Type 0 where
  pub within : entrant.place < 64
  pub there : number_at nodes entrant.place ≡ entrant.number

pub top_is : (nodes : List Entrant) → IsPlayed nodes → IsTop nodes (entrant_at nodes 1)
top_is nodes played =
    let w = winner nodes 127 1 played (omega arith) (omega arith) (omega arith) in
    let small = w.within in
    let named : (entrant_at nodes (64 + w.place)).place ≡ 64 + w.place - 64 = (played.told (64 + w.place) (omega arith) (omega arith)).place (omega arith) in
    let place : (entrant_at nodes 1).place ≡ (entrant_at nodes (64 + w.place)).place = ap (λ (e : Entrant). e.place) w.is in
    let same : (entrant_at nodes 1).place ≡ w.place = omega arith in
    record {
      within = omega arith;
      there = ap (λ (k : ℕ). number_at nodes k) same ∙ ap (λ (e : Entrant). e.number) (sym w.is);
    }

-- where another stands at a node, the rest stay
still : (nodes : List Entrant) (m n : ℕ) (e f : Entrant) → IsEntrant nodes n f → (2 * n ≡ m → ⊥) → (2 * n + 1 ≡ m → ⊥) → IsEntrant (slice_set nodes m e) n f
still nodes m n e f is even odd =
    let left : entrant_at (slice_set nodes m e) (2 * n) ≡ entrant_at nodes (2 * n) = get_or-set_other nodes m (2 * n) e nobody even in
    let right : entrant_at (slice_set nodes m e) (2 * n + 1) ≡ entrant_at nodes (2 * n + 1) = get_or-set_other nodes m (2 * n + 1) e nobody odd in
    record {
      lesser = λ h.
          subst (λ (l : Entrant). IsLesser f l (entrant_at (slice_set nodes m e) (2 * n + 1))) (sym left)
          (subst (λ (r : Entrant). IsLesser f (entrant_at nodes (2 * n)) r) (sym right) (is.lesser h));
      place = is.place;
    }

-- and only who stands above it may be told wrongly
pub told_again : (nodes : List Entrant) (m n : ℕ) (e : Entrant) → length nodes ≡ 128 → 1 ≤ m → m < 128 → IsEntrant nodes m e → 1 ≤ n → (n ≡ m / 2 → ⊥) → ((n ≡ m → ⊥) → IsEntrant nodes n (entrant_at nodes n))
    → IsEntrant (slice_set nodes m e) n (entrant_at (slice_set nodes m e) n)
told_again nodes m n e size some few is here ne old = ⊎_elim new same (cases_eq n m)
  where
    new : n ≡ m → IsEntrant (slice_set nodes m e) n (entrant_at (slice_set nodes m e) n)
    new at =
        let inside : m < length nodes = omega arith in
        let read : entrant_at (slice_set nodes m e) m ≡ e = get_or-set_same nodes m e nobody inside in
        let stays = still nodes m m e e is (λ (h : 2 * m ≡ m). omega arith) (λ (h : 2 * m + 1 ≡ m). omega arith) in
        subst (λ (k : ℕ). IsEntrant (slice_set nodes m e) k (entrant_at (slice_set nodes m e) k)) (sym at)
        (subst (λ (f : Entrant). IsEntrant (slice_set nodes m e) m f) (sym read) stays)

    same : (n ≡ m → ⊥) → IsEntrant (slice_set nodes m e) n (entrant_at (slice_set nodes m e) n)
    same other =
        let read : entrant_at (slice_set nodes m e) n ≡ entrant_at nodes n = get_or-set_other nodes m n e nobody other in
        let stays = still nodes m n e (entrant_at nodes n) (old other) (λ (h : 2 * n ≡ m). ne (omega arith)) (λ (h : 2 * n + 1 ≡ m). ne (omega arith)) in
        subst (λ (f : Entrant). IsEntrant (slice_set nodes m e) n f) (sym read) stays

pub number_still : (nodes : List Entrant) (m place : ℕ) (e : Entrant) → (64 + place ≡ m → ⊥) → number_at (slice_set nodes m e) place ≡ number_at nodes place
number_still nodes m place e ne = ap (λ (f : Entrant). f.number) (get_or-set_other nodes m (64 + place) e nobody ne)

pub number_new : (nodes : List Entrant) (m place : ℕ) (e : Entrant) → m < length nodes → 64 + place ≡ m → number_at (slice_set nodes m e) place ≡ e.number
number_new nodes m place e inside at =
    ap (λ (k : ℕ). (entrant_at (slice_set nodes m e) k).number) at ∙ ap (λ (f : Entrant). f.number) (get_or-set_same nodes m e nobody inside)

-- at a node above the places the lesser of the two below stands rightly
pub lesser_there : (nodes : List Entrant) (node : ℕ) (e : Entrant) → node < 64 → IsLesser e (entrant_at nodes (2 * node)) (entrant_at nodes (2 * node + 1)) → IsEntrant nodes node e
lesser_there nodes node e few is = record { lesser = λ h. is; place = λ (h : 64 ≤ node). absurd (omega arith) }

-- and at a place one who names it
pub place_there : (nodes : List Entrant) (node place : ℕ) (e : Entrant) → node ≡ 64 + place → e.place ≡ place → IsEntrant nodes node e
place_there nodes node place e at is = record { lesser = λ (h : node < 64). absurd (omega arith); place = λ h. omega arith }
