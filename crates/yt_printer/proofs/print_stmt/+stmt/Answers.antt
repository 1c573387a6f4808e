use Rattle.std.proofs.Common.{◌≡◌, ◌+◌, ◌++◌, subst}
use Rattle.yt_graph.specs.AstPicture.{AstStmtTree, ast_expr_tree, ast_block_tree}
use Rattle.yt_grammar.specs.CanonicalText.{braced, expr_layout, stmt_layout, stmts_layout, text_of}
use Rattle.yt_printer.proofs.printing.Texts.{ok_when, else_text, repeat_text}
use Rattle.yt_printer.proofs.print_stmt.+stmt.Goals as goal

pub print_stmt-returns-in_ok-print_block-in-Else-2 : goal.print_stmt-returns-in_ok-print_block-in-Else-2
print_stmt-returns-in_ok-print_block-in-Else-2 t c =
    let i = c.in-Else in
    let n = c.args.braces in
    let e = expr_layout (ast_expr_tree i.test.now) in
    let f = braced n (stmts_layout (n + 1) (ast_block_tree i.first.now)) in
    let s = braced n (stmts_layout (n + 1) (ast_block_tree i.second.now)) in
    ok_when _ _ _ (λ last. subst (λ (tree : AstStmtTree). c.put-in-Else-2.new.self ≡ c.args.out.now ++ text_of (stmt_layout n tree)) i.ensures
    (else_text n e f s _ _ _ _ _ _ _ c.in_ok-put_indent.ensures c.in_ok-print_test-in-Else.ensures c.in_ok-print_block-in-Else.ensures c.in_ok-put-in-Else.ensures c.in_ok-print_block-in-Else-2.ensures last))
    c.put-in-Else-2.ensures

pub print_stmt-returns-in_ok-print_block-in-Repeat : goal.print_stmt-returns-in_ok-print_block-in-Repeat
print_stmt-returns-in_ok-print_block-in-Repeat t c =
    let i = c.in-Repeat in
    let n = c.args.braces in
    let e = expr_layout (ast_expr_tree i.count.now) in
    let f = braced n (stmts_layout (n + 1) (ast_block_tree i.body.now)) in
    ok_when _ _ _ (λ last. subst (λ (tree : AstStmtTree). c.put-in-Repeat.new.self ≡ c.args.out.now ++ text_of (stmt_layout n tree)) i.ensures
    (repeat_text n e f i.max.value _ _ _ _ _ c.in_ok-put_indent.ensures c.in_ok-print_count-in-Repeat.ensures c.in_ok-print_block-in-Repeat.ensures last))
    c.put-in-Repeat.ensures
