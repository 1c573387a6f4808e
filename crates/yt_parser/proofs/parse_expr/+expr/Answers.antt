use Rattle.std.proofs.Common.{suc, ◌≡◌, ◌+◌, ◌-◌, ◌≤◌, ◌<◌, true, Some, ap, sym, ◌∙◌, arith}
use Rattle.std.proofs.lemmas.Result.{err_from_is_err_and}
use Rattle.yt_graph.specs.AstPicture.{ast_expr_tree}
use Rattle.yt_graph.specs.AstWellFormed.{ast_expr_depth}
use Rattle.yt_grammar.specs.declared.sign.Mark.TheVariants.{Comma}
use Rattle.yt_grammar.specs.Inside.Reading.{got, at_mark, op_at, expr_reader}
use Rattle.yt_parser.proofs.parsing.Loops.{goes_on-first, goes_on-picture}
use Rattle.yt_parser.proofs.parsing.Exprs.{expr_reader-levels, rank_reader-chain, chain-link, chain-stop, exprs_of-map, ast_exprs_depth-more}
use Rattle.yt_parser.proofs.parse_expr.+expr.Goals as goal

pub args-returns-clause-read : goal.args-returns-clause-read
args-returns-clause-read t c =
    rw (c.in_ok-mark.ensures.read, c.in_ok-args.ensures.read, c.in_ok-mark-2.ensures.read) (ap (λ es. got es c.mark-2.new.self) (exprs_of-map c.in_ok-args.args.exprs.items))

pub chain-returns-in_err-left-clause-read : goal.chain-returns-in_err-left-clause-read
chain-returns-in_err-left-clause-read t c =
    let p = err_from_is_err_and c.from_residual.result c.from_residual.ensures.1 in
    let turn : c.turns_at-turns.result - c.links.counter ≡ suc (c.turns_at-turns.result - (c.links.counter + 1)) = omega arith in
    let next : op_at c.args.rank c.links.cursor ≡ Some c.in-Some.op = cc in
    let fits : ast_expr_depth (ast_expr_tree c.links.left.expr) ≤ c.args.room = omega (arith, c.links.left.exact) in
    rw (p.1, p.2, ← c.turns_at-turns.ensures, ← c.links.invariant.2) (chain-stop (expr_reader c.args.room) c.args.room c.args.rank _ _ (ast_expr_tree c.links.left.expr) c.in-Some.op c.links.cursor c.link.new.cursor c.in_err-left.field-0.0 turn next fits c.in_err-left.ensures.read)

pub chain-links-preserved : goal.chain-links-preserved
chain-links-preserved t c =
    let turn : c.turns_at-turns.result - c.links.counter ≡ suc (c.turns_at-turns.result - (c.links.counter + 1)) = omega arith in
    let next : op_at c.args.rank c.links.cursor ≡ Some c.in-Some.op = cc in
    let fits : ast_expr_depth (ast_expr_tree c.links.left.expr) ≤ c.args.room = omega (arith, c.links.left.exact) in (
      omega (arith, c.in_ok-left.ensures.less),
      c.in_ok-left.ensures.depth,
      sym (chain-link (expr_reader c.args.room) c.args.room c.args.rank _ _ (ast_expr_tree c.links.left.expr) (ast_expr_tree c.in_ok-left.left.expr) c.in-Some.op c.links.cursor c.link.new.cursor turn next fits c.in_ok-left.ensures.read) ∙ c.links.invariant.2,
    )

pub expr-returns-clause-read : goal.expr-returns-clause-read
expr-returns-clause-read t c = rw (expr_reader-levels c.args.levels c.args.rank c.args.cursor.now c.requires.some) c.ranked.ensures.read

pub exprs-exprs-init : goal.exprs-exprs-init
exprs-exprs-init t c =
    let list = c.in_ok-push.ensures.ok in (
      omega (arith, c.in_ok-first.ensures.less),
      c.in_ok-first.ensures.depth,
      rw (list, c.new-exprs.ensures) (omega (arith, c.in_ok-first.first.exact)),
      rw (list, c.new-exprs.ensures) (goes_on-first (expr_reader c.args.levels 7) _ _ _ c.in_ok-first.ensures.read),
    )

pub exprs-exprs-preserved : goal.exprs-exprs-preserved
exprs-exprs-preserved t c =
    let test : at_mark Comma c.exprs.cursor ≡ true = cc in
    let list = c.in_ok-push-2.ensures.ok in (
      omega (arith, c.in_ok-next.ensures.less),
      omega (arith, c.in_ok-next.ensures.depth),
      rw (list, ast_exprs_depth-more) (omega (arith, c.in_ok-next.next.exact)),
      rw list (goes_on-picture ast_expr_tree _ _ _ _ _ _ _ c.exprs.invariant.3 test c.in_ok-next.ensures.read c.in_ok-next.ensures.less),
    )

pub ranked-returns-in_ok-left-in_default-clause-read : goal.ranked-returns-in_ok-left-in_default-clause-read
ranked-returns-in_ok-left-in_default-clause-read t c =
    let some : 1 < c.args.rank = omega arith in
    let other : (c.args.rank ≡ 5 → ⊥) = λ (e : c.args.rank ≡ 5). absurd (omega arith) in
    rw (rank_reader-chain (expr_reader c.args.room) c.args.room c.args.rank c.args.cursor.now some other, c.in_ok-left-in_default.ensures.read) c.chain.ensures.read
