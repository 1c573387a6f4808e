-- Numbers at 64 places, of which the least is at hand.
use Rattle.std.specs.Prelude.{◌≡◌, ℕ, ◌+◌, ◌-◌, ◌*◌, ◌^◌, ◌<◌, ◌≤◌, ◌⊎◌, List, length, slice_index_or}
use Rattle.yt_fits.specs.declared.tournament.Entrant.{Entrant}

-- who stands at a node; the nodes from 64 on are the places
abbrev pub entrant_at : List Entrant → ℕ → Entrant
entrant_at nodes node = slice_index_or nodes node (record { number = 0; place = 0 })

-- the number at a place, from 0
abbrev pub number_at : List Entrant → ℕ → ℕ
number_at nodes place = (entrant_at nodes (64 + place)).number

-- it is one of the two, and of these the lesser
pub record IsLesser (entrant left right : Entrant) : Type 0 where
  pub one : (entrant ≡ left) ⊎ (entrant ≡ right)
  pub below_left : entrant.number ≤ left.number
  pub below_right : entrant.number ≤ right.number

-- at a place stands one who names it, at a node above the places the lesser of the two below
pub record IsEntrant (nodes : List Entrant) (node : ℕ) (entrant : Entrant) : Type 0 where
  pub lesser : node < 64 → IsLesser entrant (entrant_at nodes (2 * node)) (entrant_at nodes (2 * node + 1))
  pub place : 64 ≤ node → entrant.place ≡ node - 64

-- so does one at each node
pub record IsPlayed (nodes : List Entrant) : Type 0 where
  pub size : length nodes ≡ 128
  pub told : (node : ℕ) → 1 ≤ node → node < 128 → IsEntrant nodes node (entrant_at nodes node)

-- the number at a place that isn't used
abbrev pub never : ℕ
never = 2 ^ 64 - 1
