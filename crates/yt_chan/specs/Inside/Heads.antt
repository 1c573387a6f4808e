-- The first waiting message of each target, in the order in which they are placed.
use Rattle.std.specs.Prelude.{◌≡◌, ◌⊎◌, ℕ, ◌<◌, ◌≤◌, Bool, true, false, nat_lt, ◌==◌, ◌&&◌, ◌||◌, List, length, slice_index_or}
use Rattle.std.specs.List.{Contains}
use Rattle.yt_order.specs.Falling.{IsFallingBy, IsLeastBy}
use Rattle.yt_chan.specs.Limits.{most_outputs, most_ports}
use Rattle.yt_chan.specs.declared.heads.Head.{Head}
use Rattle.yt_chan.specs.declared.target.Arrived.{Arrived}
use Rattle.yt_chan.specs.declared.target.Arrived.TheVariants.{Port, Output}

-- a target comes before another: ports by number, then outputs by number
unfoldable pub target_before : Arrived → Arrived → Bool
target_before (Port a) (Port b) = nat_lt a b
target_before (Port a) (Output b) = true
target_before (Output a) (Port b) = false
target_before (Output a) (Output b) = nat_lt a b

-- a head comes before another: by its tick, then by its target
unfoldable pub comes_before : Head → Head → Bool
comes_before a b = nat_lt a.time b.time || (a.time == b.time && target_before a.target b.target)

-- a target's number is in the limits
abbrev pub IsWithin : Arrived → Type 0
IsWithin (Port n) = n ≤ most_ports
IsWithin (Output n) = n ≤ most_outputs

-- each head comes before those in front of it
abbrev pub IsFalling : List Head → Type 0
IsFalling heads = IsFallingBy comes_before heads

-- each target is in the limits, and has one head at most
pub record AreApart (heads : List Head) : Type 0 where
  pub within : (head : Head) → Contains heads head → IsWithin head.target
  pub one : (a b : Head) → Contains heads a → Contains heads b → a.target ≡ b.target → a ≡ b

-- a head that none comes before
abbrev pub IsFirst : List Head → Head → Type 0
IsFirst heads first = IsLeastBy comes_before heads first

-- one list has the heads of another, and besides one that the other may have or not
pub record HasAlso (heads : List Head) (head : Head) (more : List Head) : Type 0 where
  pub added : Contains more head
  pub kept : (other : Head) → Contains heads other → Contains more other
  pub only : (other : Head) → Contains more other → (other ≡ head) ⊎ Contains heads other

-- a place at which a head can be put: it comes before those in front of the place, and those from there on come before it
pub record IsPlaceFor (heads : List Head) (head : Head) (place : ℕ) : Type 0 where
  pub bound : place ≤ length heads
  pub before : (k : ℕ) (d : Head) → k < place → comes_before head (slice_index_or heads k d) ≡ true
  pub after : (k : ℕ) (d : Head) → place ≤ k → k < length heads → comes_before (slice_index_or heads k d) head ≡ true
