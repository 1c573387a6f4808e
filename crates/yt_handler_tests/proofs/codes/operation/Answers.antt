use Rattle.std.proofs.Common.{rules, ◌∷◌, [], refl, arith}
use Rattle.yt_handler_tests.proofs.Shapes.{shape}
use Rattle.yt_handler_tests.proofs.codes.operation.Goals as goal

pub code-requires : goal.code-requires
code-requires c = (
  omega arith,
  record {
    shapes = shape 0 0 ∷ shape 1 0 ∷ shape 2 0 ∷ shape 1 0 ∷ shape 0 0 ∷ [];
    first = refl;
    fine = search rules;
    params_are_locals = omega arith;
    few_locals = omega arith;
  },
)
