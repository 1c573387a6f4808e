-- What reading a graph comes to, in the words of the grammar.
use Rattle.std.proofs.Common.{ℕ, ◌≡◌, List, [], ◌∷◌, length, None, Some, refl}
use Rattle.yt_lexer.specs.Places.{place_of}
use Rattle.yt_graph.specs.declared.place.Place.{Place}
use Rattle.yt_graph.specs.AstPicture.{ItemTree}
use Rattle.yt_grammar.specs.Lexemes.{Tok, AreTokens}
use Rattle.yt_grammar.specs.Grammar.{Spells}
use Rattle.yt_grammar.specs.Inside.Reading.{got, stuck, graph_reader}
use Rattle.yt_parser.specs.Inside.Signs.{place_next}
use Rattle.yt_parser.specs.Parses.{place_before, IsSyntaxFault}
use Rattle.yt_grammar.proofs.Lemmas.{graph_read, graph_only, graph_stuck}

-- what is read is spelled
pub read-spelled : (s : List Tok) (items : List ItemTree) (rest : List Tok) → AreTokens s → graph_reader s ≡ got items rest → Spells s items
read-spelled s items rest fine e = (fine, (graph_read s items rest e).1)

-- reading is stuck at a fault
pub stuck-fault : (text : List ℕ) (s rest : List Tok) (place : Place) → AreTokens s → graph_reader s ≡ stuck rest → place ≡ place_before text rest → IsSyntaxFault text s place
stuck-fault text s rest place fine e p =
    let h = graph_stuck s rest fine e in
    record { front = h.0; rest = rest; splits = h.1; stuck = h.2; placed = p }

-- nothing else is spelled where something is read, and nothing where reading is stuck
pub read-only : (s : List Tok) (items others : List ItemTree) (rest : List Tok) → graph_reader s ≡ got items rest → Spells s others → items ≡ others
read-only s items others rest e h = let k = graph_only s others h.1 in cc

pub stuck-none : (s : List Tok) (others : List ItemTree) (rest : List Tok) → graph_reader s ≡ stuck rest → Spells s others → {A : Type 0} → A
stuck-none s others rest e h = let k = graph_only s others h.1 in absurd cc

-- the place of a fault, as the cursor tells it
pub place-some : (text : List ℕ) (s : List Tok) (place : Place) → place_next s ≡ Some place → place ≡ place_before text s
place-some text [] place e = absurd cc
place-some text (t ∷ ts) place e = cc

pub place-none : (text : List ℕ) (s : List Tok) → place_next s ≡ None → place_of text (length text) ≡ place_before text s
place-none text [] e = refl
place-none text (t ∷ ts) e = absurd cc
