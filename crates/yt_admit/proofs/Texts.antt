-- A text has a tree, or else a first fault of tokens or of syntax, and only one of them.
use Rattle.std.proofs.Common.{◌≡◌, ℕ, List, [], ◌∷◌, ◌++◌, Option, None, Some, refl, sym, subst, append-nil, append_assoc}
use Rattle.yt_graph.specs.declared.place.Place.{Place}
use Rattle.yt_graph.specs.AstPicture.{ItemTree}
use Rattle.yt_lexer.specs.declared.token.Token.{Token}
use Rattle.yt_lexer.specs.declared.token.LexFault.{LexFault}
use Rattle.yt_lexer.specs.Lexes.{Lexes}
use Rattle.yt_lexer.proofs.Lemmas.{lexes_once}
use Rattle.yt_grammar.specs.Grammar.{Spells, IsStuckAt}
use Rattle.yt_grammar.specs.Lexemes.{Tok, toks_of}
use Rattle.yt_parser.specs.Parses.{IsSyntaxFault, place_before}
use Rattle.yt_grammar.specs.Inside.Reading.{Reading, got, stuck, graph_reader}
use Rattle.yt_parser.proofs.Lemmas.{lexes-tokens}
use Rattle.yt_grammar.proofs.Lemmas.{graph_only, graph_read, graph_stuck}
use Rattle.yt_admit.specs.Trees.{IsTreeOf}
use Rattle.yt_admit.proofs.Lexed.{lexed}

-- a text ends behind its tokens, or it has a fault
pub not_both_ends : (text : List ℕ) (front tokens : List Token) (fault : LexFault) → Lexes text 0 front (Some fault) → Lexes text 0 tokens None → ⊥
not_both_ends text front tokens fault is too =
    let clash : ◌≡◌ {A = Option LexFault} (Some fault) None = (lexes_once text 0 front tokens (Some fault) None is too).1 in
    cc

-- a text has one tree
pub same_tree : (text : List ℕ) (a b : List ItemTree) → IsTreeOf text a → IsTreeOf text b → a ≡ b
same_tree text a b h k =
    let same : h.tokens ≡ k.tokens = (lexes_once text 0 h.tokens k.tokens None None h.lexed k.lexed).0 in
    let here : Spells (toks_of text k.tokens) a = subst (λ (ts : List Token). Spells (toks_of text ts) a) same h.spelled in
    let read_a = graph_only (toks_of text k.tokens) a here.1 in
    let read_b = graph_only (toks_of text k.tokens) b (k.spelled).1 in
    cc

-- no tokens spell a tree that are stuck
stuck_spells : (front rest : List Tok) (items : List ItemTree) → IsStuckAt front rest → Spells (front ++ rest) items → ⊥
stuck_spells front [] items at spells = at.1 items (subst (λ (ts : List Tok). Spells ts items) (append-nil front) spells)
stuck_spells front (t ∷ rest) items at spells =
    let whole : front ++ t ∷ rest ≡ (front ++ t ∷ []) ++ rest = sym (append_assoc front (t ∷ []) rest) in
    at.1 (record { rest = rest; items = items; spells = subst (λ (ts : List Tok). Spells ts items) whole spells })

-- a text with a fault of syntax has no tree
pub not_stuck : (text : List ℕ) (tokens : List Token) (place : Place) → Lexes text 0 tokens None → IsSyntaxFault text (toks_of text tokens) place → (items : List ItemTree) → IsTreeOf text items → ⊥
not_stuck text tokens place is fault items tree =
    let same : tree.tokens ≡ tokens = (lexes_once text 0 tree.tokens tokens None None tree.lexed is).0 in
    let here : Spells (toks_of text tokens) items = subst (λ (ts : List Token). Spells (toks_of text ts) items) same tree.spelled in
    stuck_spells fault.front fault.rest items fault.stuck (subst (λ (ts : List Tok). Spells ts items) fault.splits here)

-- a text without a fault of tokens has a tree, or a fault of syntax
some_reading : (text : List ℕ) (tokens : List Token) → Lexes text 0 tokens None → ((place : Place) → IsSyntaxFault text (toks_of text tokens) place → ⊥) → ((items : List ItemTree) → IsTreeOf text items → ⊥) → ⊥
some_reading text tokens is no_fault no_tree = by (graph_reader (toks_of text tokens)) refl
  where
    by : (r : Reading (List ItemTree)) → graph_reader (toks_of text tokens) ≡ r → ⊥
    by (got items rest) e =
        no_tree items (record { tokens = tokens; lexed = is; spelled = (lexes-tokens text 0 tokens is, (graph_read (toks_of text tokens) items rest e).1) })
    by (stuck rest) e =
        let at = graph_stuck (toks_of text tokens) rest (lexes-tokens text 0 tokens is) e in
        no_fault (place_before text rest) (record { front = at.0; rest = rest; splits = at.1; stuck = at.2; placed = refl })

-- each text has one of them
pub some_end : (text : List ℕ) → ((front : List Token) (fault : LexFault) → Lexes text 0 front (Some fault) → ⊥) →
    ((tokens : List Token) (place : Place) → Lexes text 0 tokens None → IsSyntaxFault text (toks_of text tokens) place → ⊥) → ((items : List ItemTree) → IsTreeOf text items → ⊥) → ⊥
some_end text no_fault no_stop no_tree = let all = lexed text in by all.tokens all.end all.lexed
  where
    by : (tokens : List Token) (end : Option LexFault) → Lexes text 0 tokens end → ⊥
    by tokens None is = some_reading text tokens is (λ place. no_stop tokens place is) no_tree
    by tokens (Some fault) is = no_fault tokens fault is
