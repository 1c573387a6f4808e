use Rattle.std.proofs.Common.{◌≡◌, ◌++◌, drop, length}
use Rattle.yt_graph.specs.Picture.{exprs_tree}
use Rattle.yt_graph.specs.Meaning.{all_values}
use Rattle.yt_mean.specs.Inside.Within.{AreExprsWithin}
use Rattle.yt_mean.proofs.value.values.Given as goal

abbrev pub invariant-loop-e : goal.invariant-loop-e
invariant-loop-e l = record {
  within : AreExprsWithin (length l.locals) (length l.vars) (exprs_tree (drop l.e-index l.es));
  so_far : l.all ++ all_values (exprs_tree (drop l.e-index l.es)) l.locals l.vars ≡ all_values (exprs_tree l.es) l.locals l.vars;
}
