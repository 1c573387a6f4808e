-- Tests that hold together.
use Rattle.std.proofs.Common.{◌≡◌, Bool, true, ◌&&◌, arith}
use Rattle.std.proofs.lemmas.Grind.{common_steps}

-- both parts of a test of two
pub both : (a b : Bool) → (a && b) ≡ true → (a ≡ true) × (b ≡ true)
both a b h = (grind (arith, common_steps), grind (arith, common_steps))
