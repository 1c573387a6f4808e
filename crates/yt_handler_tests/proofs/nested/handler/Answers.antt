use Rattle.std.proofs.Common.{◌+◌, arith}
use Rattle.yt_graph.specs.Picture.{block_tree}
use Rattle.yt_handler_tests.proofs.Plain.{plain_loop, plain_deeper}
use Rattle.yt_handler_tests.proofs.nested.handler.Goals as goal

pub returns-clause-plain : goal.returns-clause-plain
returns-clause-plain c =
    plain_deeper 0 (c.loop-max.max-index + 2) 8 (block_tree c.loop-max.body.items) (omega arith) c.loop-max.invariant.plain

pub loop-max-preserved : goal.loop-max-preserved
loop-max-preserved c =
    let i = c.loop-max.max-index in
    let looped = plain_loop (i + 2) _ (block_tree c.loop-max.body.items) c.loop-max.invariant.plain c.loop-max.invariant.no_calls c.if-max-lt1.false c.if-max-gt10000.false in
    record {
      plain = rw c.in_ok-body-2.ensures (plain_deeper 0 (i + 2 + 1) (i + 1 + 2) _ (omega arith) looped.0);
      no_calls = rw c.in_ok-body-2.ensures looped.1;
    }
