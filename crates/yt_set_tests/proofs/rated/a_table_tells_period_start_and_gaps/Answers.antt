use Rattle.std.proofs.Common.{rules, refl, [], ◌∷◌, sym, subst, arith}
use Rattle.std.specs.Prelude.{codes}
use Rattle.yt_graph.specs.declared.port.Feed.TheVariants.{Out}
use Rattle.yt_graph.specs.WellFormed.{NamesProcesses, IsCounted, IsWellFormed}
use Rattle.yt_rates.specs.Tables.{AreRatesOf}
use Rattle.yt_set_tests.specs.Rated.{port_of, three, rated_graph}
use Rattle.yt_set_tests.proofs.rated.a_table_tells_period_start_and_gaps.Goals as goal

-- the ports are of one process
one_process : NamesProcesses rated_graph (codes "p" ∷ [])
one_process = record { of_ports = search rules; of_vars = search rules }

counted : IsCounted rated_graph
counted = record {
  inputs = omega arith;
  outputs = omega arith;
  groups = omega arith;
  vars = omega arith;
  ports = omega arith;
  processes = (codes "p" ∷ [], omega arith, one_process);
}

formed : IsWellFormed rated_graph
formed = record {
  counts = counted;
  names = search rules;
  group_names = search rules;
  processes = search rules;
  own_groups = search rules;
  port_names = search rules;
  var_names = search rules;
  each_input = search rules;
  each_output = search rules;
  each_var = search rules;
  each_port = search rules;
}

pub compile-requires-clause-well_formed : goal.compile-requires-clause-well_formed
compile-requires-clause-well_formed g c = subst IsWellFormed (sym c.in_ok-graph.ensures) formed

pub rates-requires-clause-well_formed : goal.rates-requires-clause-well_formed
rates-requires-clause-well_formed g c = subst IsWellFormed (sym c.in_ok-graph.ensures) formed

-- the second port has one out
pub gap-requires-clause-last_out : goal.gap-requires-clause-last_out
gap-requires-clause-last_out g c x is =
    let rates_of = subst (λ g. AreRatesOf g c.in-Ok-rates.table) c.in_ok-graph.ensures c.in-Ok-rates.ensures.rates in
    let second = rates_of.each 2 (port_of (codes "b") (Out 1 1) 2 three) refl x is in
    omega (arith, second.outs.count)
