-- Trees that say the same, wherever their names and numbers stand.
use Rattle.std.specs.Prelude.{◌≡◌, ℕ, List, map, option_map, None}
use Rattle.yt_graph.specs.declared.place.Place.{Place}
use Rattle.yt_graph.specs.declared.ast.Word.{Word}
use Rattle.yt_graph.specs.declared.ast.Num.{Num}
use Rattle.yt_graph.specs.declared.ast.Path.{Path}
use Rattle.yt_graph.specs.declared.ast.Source.{Source}
use Rattle.yt_graph.specs.declared.ast.Source.TheVariants.{Input, Out}
use Rattle.yt_graph.specs.declared.ast.VarDecl.{VarDecl}
use Rattle.yt_graph.specs.declared.ast.OutDecl.{OutDecl}
use Rattle.yt_graph.specs.AstPicture.{AstExprTree, number, name, minus, negation, two_sides, paren, call_of, AstExprsTree, no_values, more_values, AstStmtTree, let_local, assign, send_on, when_only, when_else, turns, AstBlockTree, no_stmts, more_stmts, PortDeclTree, ItemTree, input, output, resource, process}
use Rattle.yt_lexer.specs.declared.token.Token.{Token}
use Rattle.yt_lexer.specs.Lexes.{Lexes}
use Rattle.yt_grammar.specs.Lexemes.{Tok, toks_of}
use Rattle.yt_grammar.specs.Grammar.{Spells}
use Rattle.yt_grammar.specs.CanonicalText.{canonical_text}

-- the first place of a text
abbrev pub start : Place
start = record { line = 1; col = 1 }

-- the same word at the first place
abbrev pub word_at_start : Word → Word
word_at_start w = record { text = w.text; place = start }

-- the same number
abbrev pub num_at_start : Num → Num
num_at_start n = record { value = n.value; place = start }

-- the same path, with each name at the first place
abbrev pub path_at_start : Path → Path
path_at_start p = record { process = word_at_start p.process; port = word_at_start p.port; out = word_at_start p.out }

-- the same source
abbrev pub source_at_start : Source → Source
source_at_start (Input w) = Input (word_at_start w)
source_at_start (Out p) = Out (path_at_start p)

-- the same variable
abbrev pub var_at_start : VarDecl → VarDecl
var_at_start v = record { name = word_at_start v.name; start = v.start }

-- the same out
abbrev pub out_at_start : OutDecl → OutDecl
out_at_start o = record { name = word_at_start o.name; width = num_at_start o.width; every = option_map num_at_start o.every }

abbrev mutual
  -- the same expression
  pub expr_at_start : AstExprTree → AstExprTree
  expr_at_start (number n) = number n
  expr_at_start (name w) = name (word_at_start w)
  expr_at_start (minus e) = minus (expr_at_start e)
  expr_at_start (negation e) = negation (expr_at_start e)
  expr_at_start (two_sides op l r) = two_sides op (expr_at_start l) (expr_at_start r)
  expr_at_start (paren e) = paren (expr_at_start e)
  expr_at_start (call_of w args) = call_of (word_at_start w) (exprs_at_start args)

  -- the same expressions
  pub exprs_at_start : AstExprsTree → AstExprsTree
  exprs_at_start no_values = no_values
  exprs_at_start (more_values e rest) = more_values (expr_at_start e) (exprs_at_start rest)

abbrev mutual
  -- the same statement
  pub stmt_at_start : AstStmtTree → AstStmtTree
  stmt_at_start (let_local w e) = let_local (word_at_start w) (expr_at_start e)
  stmt_at_start (assign w e) = assign (word_at_start w) (expr_at_start e)
  stmt_at_start (send_on w es) = send_on (word_at_start w) (exprs_at_start es)
  stmt_at_start (when_only e first) = when_only (expr_at_start e) (stmts_at_start first)
  stmt_at_start (when_else e first second) = when_else (expr_at_start e) (stmts_at_start first) (stmts_at_start second)
  stmt_at_start (turns e most body) = turns (expr_at_start e) (num_at_start most) (stmts_at_start body)

  -- the same statements
  pub stmts_at_start : AstBlockTree → AstBlockTree
  stmts_at_start no_stmts = no_stmts
  stmts_at_start (more_stmts s rest) = more_stmts (stmt_at_start s) (stmts_at_start rest)

-- the same port
abbrev pub port_at_start : PortDeclTree → PortDeclTree
port_at_start p =
    record { name = word_at_start p.name; source = source_at_start p.source; params = map word_at_start p.params; outs = map out_at_start p.outs; body = stmts_at_start p.body }

-- the same part of a graph
abbrev pub item_at_start : ItemTree → ItemTree
item_at_start (input i) = input (record { name = word_at_start i.name; width = num_at_start i.width; period = num_at_start i.period })
item_at_start (output o) = output (record { name = word_at_start o.name; path = path_at_start o.path })
item_at_start (resource r) = resource (record { name = word_at_start r.name })
item_at_start (process p) = process (record { name = word_at_start p.name; inside = option_map word_at_start p.inside; vars = map var_at_start p.vars; ports = map port_at_start p.ports })

-- the tree with each place set to line 1, column 1
abbrev pub without_places : List ItemTree → List ItemTree
without_places items = map item_at_start items

-- some tokens spell the tree
abbrev pub IsWritten : List ItemTree → Type 0
IsWritten items = (toks : List Tok) × Spells toks items

-- the text is read without fault, and its tokens spell this tree but for places
pub record ReadsAs (text : List ℕ) (items : List ItemTree) : Type 0 where
  pub tokens : List Token
  pub lexed : Lexes text 0 tokens None
  pub read : List ItemTree
  pub spelled : Spells (toks_of text tokens) read
  pub same : without_places read ≡ without_places items

-- the canonical text of each tree that some tokens spell is read as the same tree
abbrev pub PrintedIsRead : Type 0
PrintedIsRead = (items : List ItemTree) → IsWritten items → ReadsAs (canonical_text items) items
