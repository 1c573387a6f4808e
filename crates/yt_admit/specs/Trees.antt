-- Why a verdict on a graph's text comes, by the tree that the text spells.
use Rattle.std.specs.Prelude.{◌≡◌, ℕ, true, false, List, None, Some}
use Rattle.yt_graph.specs.declared.place.Place.{Place}
use Rattle.yt_graph.specs.AstPicture.{ItemTree}
use Rattle.yt_lexer.specs.declared.token.LexFault.{LexFault}
use Rattle.yt_lexer.specs.declared.token.Token.{Token}
use Rattle.yt_lexer.specs.Lexes.{Lexes}
use Rattle.yt_grammar.specs.Grammar.{Spells}
use Rattle.yt_grammar.specs.Lexemes.{toks_of}
use Rattle.yt_parser.specs.Parses.{IsSyntaxFault}
use Rattle.yt_answer.specs.declared.verdict.Verdict.{Verdict}
use Rattle.yt_answer.specs.declared.verdict.Verdict.TheVariants.{Graph, NotYet}
use Rattle.yt_answer.specs.Due.{not_yet_line}
use Rattle.yt_admit.specs.Calls.{has_call}
use Rattle.yt_admit.specs.Lines.{IsLexLine, syntax_line}

-- the tree that a graph's text spells
pub record IsTreeOf (text : List ℕ) (items : List ItemTree) : Type 0 where
  pub tokens : List Token
  pub lexed : Lexes text 0 tokens None
  pub spelled : Spells (toks_of text tokens) items

-- why a verdict on a graph's text comes, where `Asked` says why one on its tree does: the text has a first fault of tokens or, where
-- there is none, of syntax; its tree calls an operator, which isn't built yet; or its tree calls none
pub data TreeCause (text : List ℕ) (Asked : List ItemTree → Type 0) : Type 0 where
  not_lexed : (front : List Token) (fault : LexFault) → Lexes text 0 front (Some fault) → TreeCause text Asked
  not_spelled : (tokens : List Token) (place : Place) → Lexes text 0 tokens None → IsSyntaxFault text (toks_of text tokens) place → TreeCause text Asked
  calls_operator : (items : List ItemTree) → IsTreeOf text items → has_call items ≡ true → TreeCause text Asked
  tree : (items : List ItemTree) → IsTreeOf text items → has_call items ≡ false → Asked items → TreeCause text Asked

-- the verdict, where `of` is that on the tree
abbrev pub tree_verdict : {text : List ℕ} {Asked : List ItemTree → Type 0} → ((items : List ItemTree) → Asked items → Verdict) → TreeCause text Asked → Verdict
tree_verdict of (not_lexed front fault is) = Graph
tree_verdict of (not_spelled tokens place lexed is) = Graph
tree_verdict of (calls_operator items is call) = NotYet
tree_verdict of (tree items is no_call why) = of items why

-- its text, where `of` is that of the verdict on the tree
abbrev pub IsTreeText : {text : List ℕ} {Asked : List ItemTree → Type 0} → ((items : List ItemTree) → Asked items → List ℕ → Type 0) → TreeCause text Asked → List ℕ → Type 0
IsTreeText of (not_lexed front fault is) told = IsLexLine told fault
IsTreeText of (not_spelled tokens place lexed is) told = told ≡ syntax_line place
IsTreeText of (calls_operator items is call) told = told ≡ not_yet_line
IsTreeText of (tree items is no_call why) told = of items why told

-- why a graph's text gives no tree that is judged further
abbrev pub Unread : List ℕ → Type 0
Unread text = TreeCause text (λ items. ⊥)

-- the verdict on such a text
abbrev pub unread_verdict : {text : List ℕ} → Unread text → Verdict
unread_verdict cause = tree_verdict (λ items why. absurd why) cause

-- its text
abbrev pub IsUnreadText : {text : List ℕ} → Unread text → List ℕ → Type 0
IsUnreadText cause told = IsTreeText (λ items why line. ⊥) cause told
