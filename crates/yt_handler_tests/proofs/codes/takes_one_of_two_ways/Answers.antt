use Rattle.std.proofs.Common.{rules, ◌∷◌, [], refl, arith}
use Rattle.yt_handler_tests.proofs.Shapes.{shape}
use Rattle.yt_handler_tests.proofs.codes.takes_one_of_two_ways.Goals as goal

pub code-requires : goal.code-requires
code-requires g c = (
  omega arith,
  record {
    shapes = shape 0 0 ∷ shape 1 0 ∷ shape 0 0 ∷ shape 1 0 ∷ shape 0 0 ∷ shape 0 0 ∷ shape 1 0 ∷ shape 0 0 ∷ [];
    first = refl;
    fine = search rules;
    params_are_locals = omega arith;
    few_locals = omega arith;
  },
)
