-- Reading a graph: parts, and then the end.
use Rattle.std.proofs.Common.{◌≡◌, ◌==◌, true, false, List, [], ◌∷◌, length, refl, arith}
use Rattle.std.proofs.lemmas.Bool.Decides.{nat_tests}
use Rattle.yt_graph.specs.AstPicture.{ItemTree}
use Rattle.yt_parser.specs.declared.cursor.Stop.{Stop}
use Rattle.yt_parser.specs.declared.cursor.Stop.TheVariants.{Syntax, Memory}
use Rattle.yt_grammar.specs.Lexemes.{Tok}
use Rattle.yt_grammar.specs.Inside.Reading.{got, stuck, many, at_item, item_reader, graph_reader}
use Rattle.yt_parser.specs.Inside.Results.{IsStop}

-- nothing comes behind the parts
pub graph_reader-end : (s : List Tok) (items : List ItemTree) (rest : List Tok) → many at_item item_reader s ≡ got items rest → (length rest == 0) ≡ true → graph_reader s ≡ got items rest
unfolding graph_reader
graph_reader-end s items [] e h = rw e refl
graph_reader-end s items (t ∷ ts) e h = absurd (grind (arith, nat_tests))

-- something comes behind them
pub graph_reader-more : (s : List Tok) (items : List ItemTree) (rest : List Tok) → many at_item item_reader s ≡ got items rest → (length rest == 0) ≡ false → graph_reader s ≡ stuck rest
unfolding graph_reader
graph_reader-more s items [] e h = absurd cc
graph_reader-more s items (t ∷ ts) e h = rw e refl

-- reading a part stops
pub graph_reader-stop : (s rest : List Tok) (e : Stop) → IsStop (many at_item item_reader s) e rest → IsStop (graph_reader s) e rest
unfolding graph_reader
graph_reader-stop s rest Syntax h = rw h refl
graph_reader-stop s rest Memory h = record {}
