use Rattle.std.proofs.Common.{◌≡◌, false, refl, sym}
use Rattle.yt_graph.specs.AstPicture.{AstExprTree, number, name, minus, negation, two_sides, paren, call_of, ast_expr_tree}
use Rattle.yt_grammar.specs.Writable.{is_expr}
use Rattle.yt_grammar.proofs.writable.+exprs.Goals as goal

-- no expression has no depth
no_room : (e : AstExprTree) → is_expr 0 e ≡ false
no_room (number n) = refl
no_room (name w) = refl
no_room (minus e) = refl
no_room (negation e) = refl
no_room (two_sides op l r) = refl
no_room (paren e) = refl
no_room (call_of w args) = refl

pub expr_ok-returns-then-room-eq0 : goal.expr_ok-returns-then-room-eq0
expr_ok-returns-then-room-eq0 t c = rw c.if-room-eq0.true (sym (no_room (ast_expr_tree c.args.e.now)))
