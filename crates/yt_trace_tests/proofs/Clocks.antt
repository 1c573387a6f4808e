-- The graph of two inputs is well formed.
use Rattle.std.specs.Prelude.{codes}
use Rattle.std.proofs.Common.{List, [], ◌∷◌, refl, arith}
use Rattle.std.proofs.lemmas.List.Elements.{All-cons, All-nil}
use Rattle.yt_graph.specs.declared.graph.Input.{Input}
use Rattle.yt_graph.specs.declared.graph.Output.{Output}
use Rattle.yt_graph.specs.declared.graph.Var.{Var}
use Rattle.yt_graph.specs.Picture.{PortTree}
use Rattle.yt_graph.specs.WellFormed.{IsFineInput, IsWellFormed}
use Rattle.yt_trace_tests.specs.Clock.{clock, input_of}

abbrev tick : Input
tick = input_of (codes "tick") 1 10

abbrev tock : Input
tock = input_of (codes "tock") 0 4

pub clock_is_well_formed : IsWellFormed clock
clock_is_well_formed = record {
  counts = record { inputs = omega arith; outputs = omega arith; groups = omega arith; vars = omega arith; ports = omega arith; processes = ([], omega arith, record { of_ports = λ k d lt. absurd (omega arith); of_vars = λ k d lt. absurd (omega arith) }) };
  names = (refl, (refl, tt));
  group_names = λ k d lt. absurd (omega arith);
  processes = λ k d lt. absurd (omega arith);
  own_groups = λ k d lt. absurd (omega arith);
  port_names = tt;
  var_names = tt;
  each_input = All-cons IsFineInput tick (tock ∷ []) (refl, omega arith, (omega arith, omega arith)) (All-cons IsFineInput tock [] (refl, omega arith, (omega arith, omega arith)) (All-nil IsFineInput));
  each_output = λ k d lt. absurd (omega arith);
  each_var = λ k d lt. absurd (omega arith);
  each_port = λ k d lt. absurd (omega arith);
}
