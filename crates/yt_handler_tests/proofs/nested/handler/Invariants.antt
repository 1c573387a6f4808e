use Rattle.std.proofs.Common.{◌≡◌, ◌+◌}
use Rattle.std.specs.Prelude.{false}
use Rattle.yt_graph.specs.Picture.{block_tree}
use Rattle.yt_cost.specs.CodeFit.{block_calls}
use Rattle.yt_handler_tests.specs.Graphs.{IsPlain}
use Rattle.yt_handler_tests.proofs.nested.handler.Given as goal

abbrev pub invariant-loop-max : goal.invariant-loop-max
invariant-loop-max l = record {
  plain : IsPlain 0 (l.max-index + 2) (block_tree l.body.items);
  no_calls : block_calls (block_tree l.body.items) ≡ false;
}
