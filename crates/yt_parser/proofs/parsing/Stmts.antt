-- Reading statements and blocks, step by step.
use Rattle.std.proofs.Common.{ℕ, zero, suc, ◌≡◌, ◌-◌, ◌<◌, List, [], ◌∷◌, map, refl, ap, arith}
use Rattle.yt_graph.specs.declared.ast_stmt.AstStmt.{AstStmt}
use Rattle.yt_graph.specs.AstPicture.{more_stmts, ast_stmt_tree, ast_block_tree}
use Rattle.yt_parser.specs.declared.cursor.Stop.{Stop}
use Rattle.yt_parser.specs.declared.cursor.Stop.TheVariants.{Syntax, Memory}
use Rattle.yt_grammar.specs.Lexemes.{Tok}
use Rattle.yt_grammar.specs.Inside.Reading.{Reading, made, in_braces, many, at_stmt, stmt_reader, block_of, block_reader}
use Rattle.yt_parser.specs.Inside.Results.{IsStop}

-- a block in which some may stand
pub block_reader-levels : (blocks : ℕ) (s : List Tok) → 0 < blocks → block_reader blocks s ≡ made block_of (in_braces (many (at_stmt (blocks - 1)) (stmt_reader (block_reader (blocks - 1)) (blocks - 1))) s)
unfolding block_reader
block_reader-levels zero s h = absurd (omega arith)
block_reader-levels (suc n) s h =
    let e : suc n - 1 ≡ n = omega arith in
    rw e refl

-- the tree of a list of statements, by their pictures
pub block_of-map : (ss : List AstStmt) → block_of (map ast_stmt_tree ss) ≡ ast_block_tree ss
block_of-map [] = refl
block_of-map (s ∷ ss) = ap (more_stmts (ast_stmt_tree s)) (block_of-map ss)

-- what is made of a thing stops where the thing does
pub made-stop : {X Y : Type 0} (f : X → Y) (r : Reading X) (e : Stop) (rest : List Tok) → IsStop r e rest → IsStop (made f r) e rest
made-stop f r Syntax rest h = rw h refl
made-stop f r Memory rest h = record {}
