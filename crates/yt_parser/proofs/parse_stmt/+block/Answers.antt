use Rattle.std.proofs.Common.{◌≡◌, true, ap, arith}
use Rattle.std.proofs.lemmas.Result.{err_from_is_err_and}
use Rattle.yt_graph.specs.AstPicture.{ast_stmt_tree}
use Rattle.yt_grammar.specs.Inside.Reading.{got, at_stmt, stmt_reader, block_of, block_reader}
use Rattle.yt_parser.proofs.parsing.Loops.{goes_on-begin, goes_on-picture}
use Rattle.yt_parser.proofs.parsing.Stmts.{block_reader-levels, block_of-map, made-stop}
use Rattle.yt_parser.proofs.parse_stmt.+block.Goals as goal

pub block-returns-in_err-stmts-clause-read : goal.block-returns-in_err-stmts-clause-read
block-returns-in_err-stmts-clause-read t c =
    let p = err_from_is_err_and c.from_residual.result c.from_residual.ensures.1 in
    rw (p.1, p.2, block_reader-levels c.args.blocks c.args.cursor.now c.requires) (made-stop block_of _ _ _ c.in_err-stmts.ensures.read)

pub block-returns-clause-read : goal.block-returns-clause-read
block-returns-clause-read t c =
    rw (block_reader-levels c.args.blocks c.args.cursor.now c.requires, c.in_ok-stmts.ensures.read, c.into_vec.ensures) (ap (λ b. got b c.braced.new.cursor) (block_of-map c.in_ok-stmts.stmts))

pub stmts-stmts-init : goal.stmts-stmts-init
stmts-stmts-init t c = (omega arith, rw c.new-stmts.ensures (goes_on-begin (at_stmt c.args.blocks) (stmt_reader (block_reader c.args.blocks) c.args.blocks) c.args.cursor.now))

pub stmts-stmts-preserved : goal.stmts-stmts-preserved
stmts-stmts-preserved t c =
    let test : at_stmt c.args.blocks c.stmts.cursor ≡ true = cc in (
      omega (arith, c.in_ok-next.ensures.less),
      rw c.in_ok-push.ensures.ok (goes_on-picture ast_stmt_tree _ _ _ _ _ _ _ c.stmts.invariant.1 test c.in_ok-next.ensures.read c.in_ok-next.ensures.less),
    )
