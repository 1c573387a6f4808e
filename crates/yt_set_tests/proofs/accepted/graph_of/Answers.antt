use Rattle.std.proofs.Common.{[], sym, subst, arith}
use Rattle.std.proofs.lemmas.List.Elements.{All-nil}
use Rattle.yt_graph.specs.AstPicture.{ast_tree}
use Rattle.yt_names.specs.Laws.{IsFineHead, AreFineHeads}
use Rattle.yt_cost.specs.CodeFit.{HasNoCalls}
use Rattle.yt_admit.proofs.Lemmas.{resolved_lacks_calls}
use Rattle.yt_set_tests.proofs.accepted.graph_of.Goals as goal

pub returns-in-Ok-resolve : goal.returns-in-Ok-resolve
returns-in-Ok-resolve c =
    let heads : AreFineHeads [] = (omega arith, All-nil IsFineHead) in
    (c.in-Ok-resolve.ensures.well_formed c.in-Ok-parse.ensures.writable heads, subst HasNoCalls (sym c.in-Ok-resolve.ensures.ok.1) (resolved_lacks_calls (ast_tree c.in-Ok-parse.ast)))
