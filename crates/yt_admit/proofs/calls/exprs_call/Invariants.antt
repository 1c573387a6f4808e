use Rattle.std.proofs.Common.{◌≡◌, drop}
use Rattle.yt_graph.specs.AstPicture.{ast_exprs_tree}
use Rattle.yt_admit.specs.Calls.{exprs_call}
use Rattle.yt_admit.proofs.calls.exprs_call.Given as goal

-- what is left decides
abbrev pub invariant-loop-expr : goal.invariant-loop-expr
invariant-loop-expr l = exprs_call (ast_exprs_tree (drop l.expr-index l.exprs)) ≡ exprs_call (ast_exprs_tree l.exprs)
