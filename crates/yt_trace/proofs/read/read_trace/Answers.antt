use Rattle.std.proofs.Common.{Ok, List, [], sym, ap, subst, ◌∙◌}
use Rattle.yt_graph.specs.declared.graph.Input.{Input}
use Rattle.yt_graph.specs.Picture.{graph_tree}
use Rattle.yt_trace.specs.declared.message.Message.{Message}
use Rattle.yt_trace.specs.Traces.{KeepsPeriodsOf}
use Rattle.yt_trace.specs.Inside.Reading.{TraceSoFar}
use Rattle.yt_trace.proofs.Reading.{fault_is, read_is}
use Rattle.yt_trace.proofs.read.read_trace.Goals as goal

-- a reader of no line
abbrev fresh : List Input → TraceSoFar
fresh inputs = record { inputs = inputs; trace = [] }

pub returns-in-Ok-clause-ok : goal.returns-in-Ok-clause-ok
returns-in-Ok-clause-ok c =
    let begun = c.in_ok-reader.ensures ∙ ap fresh c.as_slice.ensures in
    (read_is (graph_tree c.args.graph.now) c.args.text.now c.in_ok-reader.reader c.in-Ok.reader begun c.in-Ok.ensures.ok).0 ∙ ap (λ (t : List Message). Ok t) (sym c.finish.ensures.trace)

pub returns-in-Ok-clause-keeps : goal.returns-in-Ok-clause-keeps
returns-in-Ok-clause-keeps c =
    let begun = c.in_ok-reader.ensures ∙ ap fresh c.as_slice.ensures in
    let same = (read_is (graph_tree c.args.graph.now) c.args.text.now c.in_ok-reader.reader c.in-Ok.reader begun c.in-Ok.ensures.ok).1 in
    subst (λ (xs : List Input). KeepsPeriodsOf xs c.finish.result) same c.finish.ensures.keeps

pub returns-in-Err-clause-err : goal.returns-in-Err-clause-err
returns-in-Err-clause-err c =
    let begun = c.in_ok-reader.ensures ∙ ap fresh c.as_slice.ensures in
    (c.in-Err.error, c.new-in-Err.ensures, fault_is (graph_tree c.args.graph.now) c.args.text.now c.in_ok-reader.reader c.in-Err.error begun c.in-Err.ensures.err)
