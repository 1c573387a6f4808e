-- What parsing a text's tokens answers.
use Rattle.std.specs.Prelude.{◌≡◌, ℕ, List, [], ◌∷◌, ◌++◌, length, Result, Ok, Err}
use Rattle.yt_graph.specs.declared.place.Place.{Place}
use Rattle.yt_graph.specs.declared.ast.Ast.{Ast}
use Rattle.yt_graph.specs.AstPicture.{ItemTree, ast_tree}
use Rattle.yt_lexer.specs.Places.{place_of}
use Rattle.yt_parser.specs.declared.parser.ParseFault.{ParseFault}
use Rattle.yt_parser.specs.declared.parser.ParseFault.TheVariants.{Syntax, Memory}
use Rattle.yt_grammar.specs.Lexemes.{Tok}
use Rattle.yt_grammar.specs.Grammar.{IsStuckAt}

-- the place of the first of these tokens, or of the end of the text where there is none
abbrev pub place_before : List ℕ → List Tok → Place
place_before text [] = place_of text (length text)
place_before text (t ∷ rest) = t.place

-- a fault of syntax: all tokens up to a place are the front of some that spell a tree, and no tree goes on with the next
pub record IsSyntaxFault (text : List ℕ) (toks : List Tok) (place : Place) : Type 0 where
  pub front : List Tok
  pub rest : List Tok
  pub splits : toks ≡ front ++ rest
  pub stuck : IsStuckAt front rest
  pub placed : place ≡ place_before text rest

-- want of memory, or a fault of syntax
abbrev pub IsParseFault : List ℕ → List Tok → ParseFault → Type 0
IsParseFault text toks Memory = Unit {0}
IsParseFault text toks (Syntax place) = IsSyntaxFault text toks place

-- the answer is this tree, or memory ran out
abbrev pub GivesTree : Result Ast ParseFault → List ItemTree → Type 0
GivesTree (Ok ast) items = ast_tree ast ≡ items
GivesTree (Err Memory) items = Unit {0}
GivesTree (Err (Syntax place)) items = ⊥
