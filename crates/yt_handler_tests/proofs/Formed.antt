-- The tests' graphs are well formed.
use Rattle.std.proofs.Common.{rules, ◌≡◌, ℕ, ◌≤◌, List, [], ◌∷◌, length, sym, subst, arith}
use Rattle.std.specs.Prelude.{Bool, true, false, ◌==◌, cond, codes, bytes_eq}
use Rattle.std.specs.List.{All, list_any}
use Rattle.yt_graph.specs.declared.graph.Var.{Var}
use Rattle.yt_graph.specs.Picture.{BlockTree, PortTree, GraphTree}
use Rattle.yt_graph.specs.WellFormed.{NamesProcesses, IsCounted, IsWellFormed}
use Rattle.yt_handler_tests.specs.Arithmetic.{arithmetic_graph}
use Rattle.yt_handler_tests.specs.Graphs.{var_of, port_of, graph_of, graph_of_two, IsPlain, IsLone}

-- the only process of these graphs
abbrev the_process : List (List ℕ)
the_process = codes "p" ∷ []

abbrev IsOfIt : Var → Type 0
IsOfIt v = list_any (bytes_eq v.process) the_process ≡ true

-- no variable, one, or three
abbrev some_vars : (none one : Bool) → List Var
some_vars none one = cond none [] (cond one (var_of (codes "s") ∷ []) (var_of (codes "s") ∷ var_of (codes "t") ∷ var_of (codes "u") ∷ []))

vars_of_it : (none one : Bool) → All IsOfIt (some_vars none one)
vars_of_it true one = search rules
vars_of_it false true = search rules
vars_of_it false false = search rules

few_vars : (none one : Bool) → length (some_vars none one) ≤ 256
few_vars true one = omega arith
few_vars false true = omega arith
few_vars false false = omega arith

abbrev IsPortOfIt : PortTree → Type 0
IsPortOfIt p = list_any (bytes_eq p.process) the_process ≡ true

one_process : (vars : ℕ) (ports : List PortTree) → All IsPortOfIt ports → NamesProcesses (graph_of vars ports) the_process
one_process vars ports of_ports = record { of_ports = of_ports; of_vars = vars_of_it (vars == 0) (vars == 1) }

counted_lone : (vars : ℕ) (g : GraphTree) → IsLone vars g → IsCounted g
counted_lone vars g h =
    subst IsCounted (sym h.is) (record {
      inputs = omega arith;
      outputs = omega arith;
      groups = omega arith;
      vars = few_vars (vars == 0) (vars == 1);
      ports = omega arith;
      processes = (the_process, omega arith, one_process vars (port_of vars (codes "a") h.body ∷ []) (search rules));
    })

pub lone_well_formed : (vars : ℕ) (g : GraphTree) → IsLone vars g → IsWellFormed g
lone_well_formed vars g h = record {
  counts = counted_lone vars g h;
  names = search rules;
  group_names = search rules;
  processes = search rules;
  own_groups = search rules;
  port_names = search rules;
  var_names = search rules;
  each_input = search rules;
  each_output = search rules;
  each_var = search rules;
  each_port = search rules;
}

pub two_well_formed : (g : GraphTree) (first second : BlockTree) → g ≡ graph_of_two first second → IsPlain 0 8 first → IsPlain 0 8 second → IsWellFormed g
two_well_formed g first second is a b = subst IsWellFormed (sym is) (record {
  counts = record {
    inputs = omega arith;
    outputs = omega arith;
    groups = omega arith;
    vars = omega arith;
    ports = omega arith;
    processes = (the_process, omega arith, one_process 0 (port_of 0 (codes "a") first ∷ port_of 0 (codes "b") second ∷ []) (search rules));
  };
  names = search rules;
  group_names = search rules;
  processes = search rules;
  own_groups = search rules;
  port_names = search rules;
  var_names = search rules;
  each_input = search rules;
  each_output = search rules;
  each_var = search rules;
  each_port = search rules;
})

pub arithmetic_well_formed : IsWellFormed arithmetic_graph
arithmetic_well_formed = record {
  counts = record {
    inputs = omega arith;
    outputs = omega arith;
    groups = omega arith;
    vars = omega arith;
    ports = omega arith;
    processes = (the_process, omega arith, record { of_ports = search rules; of_vars = search rules });
  };
  names = search rules;
  group_names = search rules;
  processes = search rules;
  own_groups = search rules;
  port_names = search rules;
  var_names = search rules;
  each_input = search rules;
  each_output = search rules;
  each_var = search rules;
  each_port = search rules;
}
