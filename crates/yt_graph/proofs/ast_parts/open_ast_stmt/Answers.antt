use Rattle.std.proofs.Common.{sym, ap, ◌∙◌}
use Rattle.yt_graph.specs.AstPicture.{when_else, ast_expr_tree, ast_block_tree}
use Rattle.yt_graph.proofs.AstPictures.{only_is, else_is, repeat_is}
use Rattle.yt_graph.proofs.ast_parts.open_ast_stmt.Goals as goal

pub returns-in-None : goal.returns-in-None
returns-in-None c =
    sym (only_is c.args.s.now c.in-If.test c.in-If.yes c.in-If.no c.deref-in-None.result.now c.in-If.is c.in-None.is c.deref-in-None.ensures.value)

pub returns-in-Some : goal.returns-in-Some
returns-in-Some c =
    let i = c.in-If in
    ap (λ b. when_else (ast_expr_tree i.test) (ast_block_tree b) (ast_block_tree c.deref-in-Some-2.result.now)) c.deref-in-Some.ensures.value
    ∙ ap (λ b. when_else (ast_expr_tree i.test) (ast_block_tree i.yes.items) (ast_block_tree b)) c.deref-in-Some-2.ensures.value
    ∙ sym (else_is c.args.s.now i.test i.yes c.in-Some.second i.no i.is c.in-Some.is)

pub returns-in-Repeat : goal.returns-in-Repeat
returns-in-Repeat c =
    let i = c.in-Repeat in
    sym (repeat_is c.args.s.now i.count i.max i.body c.deref-in-Repeat.result.now i.is c.deref-in-Repeat.ensures.value)
