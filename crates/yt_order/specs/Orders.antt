-- Strict orders, as tests of which of two things comes before the other.
use Rattle.std.specs.Prelude.{◌≡◌, Bool, true, false}

-- what comes before another comes before all that the other does, nothing comes before itself, and two things of which neither comes before the other are one
pub record IsStrictOrder {X : Type 0} (comes : X → X → Bool) : Type 0 where
  pub on : (a b c : X) → comes a b ≡ true → comes b c ≡ true → comes a c ≡ true
  pub itself : (a : X) → comes a a ≡ false
  pub either : (a b : X) → comes a b ≡ false → comes b a ≡ false → a ≡ b
