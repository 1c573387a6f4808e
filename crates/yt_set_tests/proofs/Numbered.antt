-- What holds of all things of a list holds of the one of a number, from 1.
use Rattle.std.proofs.Common.{◌≡◌, ℕ, ◌-◌, List, Some, subst}
use Rattle.std.specs.List.{All}
use Rattle.std.proofs.lemmas.List.Elements.{All-get_or}
use Rattle.std.proofs.lemmas.Option.{get_or_from_slice_get, slice_get_within}
use Rattle.yt_list.specs.Numbered.{numbered}
use Rattle.yt_list.proofs.Lemmas.{numbered_there}

pub numbered_all : {X : Type 0} (P : X → Type 0) (xs : List X) (n : ℕ) (x : X) → All P xs → numbered xs n ≡ Some x → P x
numbered_all P xs n x all is =
    let there = (numbered_there xs n x is).1 in
    subst P (get_or_from_slice_get xs (n - 1) x x there) (All-get_or P xs (n - 1) x (slice_get_within xs (n - 1) x there) all)
