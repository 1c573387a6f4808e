-- The canonical text of a syntax tree: how its tokens are laid out, and the bytes of that.
use Rattle.std.specs.Prelude.{ℕ, ◌+◌, ℤ, pos, negsuc, zero, suc, List, [], ◌∷◌, ◌++◌, Option, None, Some}
use Rattle.std.specs.Fmt.{signed_decimal}
use Rattle.std.specs.List.{flat_map}
use Rattle.yt_graph.specs.declared.ast.Word.{Word}
use Rattle.yt_graph.specs.declared.ast.Num.{Num}
use Rattle.yt_graph.specs.declared.ast.Path.{Path}
use Rattle.yt_graph.specs.declared.ast.Source.{Source}
use Rattle.yt_graph.specs.declared.ast.Source.TheVariants.{Input, Out}
use Rattle.yt_graph.specs.declared.ast.VarDecl.{VarDecl}
use Rattle.yt_graph.specs.declared.ast.OutDecl.{OutDecl}
use Rattle.yt_graph.specs.AstPicture.{AstExprTree, number, name, minus, negation, two_sides, paren, call_of, AstExprsTree, no_values, more_values, AstStmtTree, let_local, assign, send_on, when_only, when_else, turns, AstBlockTree, no_stmts, more_stmts, PortDeclTree, ItemTree, input, output, resource, process}
use Rattle.yt_grammar.specs.declared.sign.Keyword.TheVariants as keys
use Rattle.yt_grammar.specs.declared.sign.Mark.TheVariants.{LeftBrace, RightBrace, LeftParen, RightParen, Comma, Dot, Assign, Minus}
use Rattle.yt_grammar.specs.Lexemes.{keyword_text, mark_text, Lexeme, word, key, mark, digits}
use Rattle.yt_grammar.specs.Grammar.{op_lexeme}

-- a piece of a text: a token, a space, a line feed, or two spaces for each open brace
pub data Piece : Type 0 where
  say : Lexeme → Piece
  space : Piece
  feed : Piece
  indent : ℕ → Piece

-- the token of a name
abbrev pub word_piece : Word → Piece
word_piece w = say (word w.text)

-- the token of a number
abbrev pub number_piece : Num → Piece
number_piece n = say (digits n.value)

abbrev mutual
  -- an expression
  pub expr_layout : AstExprTree → List Piece
  expr_layout (number n) = say (digits n) ∷ []
  expr_layout (name w) = word_piece w ∷ []
  expr_layout (minus e) = say (mark Minus) ∷ expr_layout e
  expr_layout (negation e) = say (key keys.Not) ∷ space ∷ expr_layout e
  expr_layout (two_sides op l r) = expr_layout l ++ space ∷ say (op_lexeme op) ∷ space ∷ expr_layout r
  expr_layout (paren e) = say (mark LeftParen) ∷ expr_layout e ++ say (mark RightParen) ∷ []
  expr_layout (call_of w args) = word_piece w ∷ say (mark LeftParen) ∷ exprs_layout args ++ say (mark RightParen) ∷ []

  -- expressions with a comma and a space between them
  pub exprs_layout : AstExprsTree → List Piece
  exprs_layout no_values = []
  exprs_layout (more_values e rest) = expr_layout e ++ more_layout rest

  -- expressions that follow another
  pub more_layout : AstExprsTree → List Piece
  more_layout no_values = []
  more_layout (more_values e rest) = say (mark Comma) ∷ space ∷ expr_layout e ++ more_layout rest

-- lines in braces, of which the second one is indented for so many braces
abbrev pub braced : ℕ → List Piece → List Piece
braced n lines = say (mark LeftBrace) ∷ feed ∷ lines ++ indent n ∷ say (mark RightBrace) ∷ []

abbrev mutual
  -- the lines of a statement that stands in so many braces
  pub stmt_layout : ℕ → AstStmtTree → List Piece
  stmt_layout n (let_local w e) = indent n ∷ say (key keys.Let) ∷ space ∷ word_piece w ∷ space ∷ say (mark Assign) ∷ space ∷ expr_layout e ++ feed ∷ []
  stmt_layout n (assign w e) = indent n ∷ word_piece w ∷ space ∷ say (mark Assign) ∷ space ∷ expr_layout e ++ feed ∷ []
  stmt_layout n (send_on w es) =
      indent n ∷ say (key keys.Send) ∷ space ∷ word_piece w ∷ space ∷ say (mark LeftParen) ∷ exprs_layout es ++ say (mark RightParen) ∷ feed ∷ []
  stmt_layout n (when_only e first) =
      indent n ∷ say (key keys.If) ∷ space ∷ expr_layout e ++ space ∷ braced n (stmts_layout (n + 1) first) ++ feed ∷ []
  stmt_layout n (when_else e first second) =
      indent n ∷ say (key keys.If) ∷ space ∷ expr_layout e ++ space ∷ braced n (stmts_layout (n + 1) first)
      ++ space ∷ say (key keys.Else) ∷ space ∷ braced n (stmts_layout (n + 1) second) ++ feed ∷ []
  stmt_layout n (turns e most body) =
      indent n ∷ say (key keys.Repeat) ∷ space ∷ expr_layout e ++ space ∷ say (key keys.Max) ∷ space ∷ number_piece most
      ∷ space ∷ braced n (stmts_layout (n + 1) body) ++ feed ∷ []

  -- the lines of statements
  pub stmts_layout : ℕ → AstBlockTree → List Piece
  stmts_layout n no_stmts = []
  stmts_layout n (more_stmts s rest) = stmt_layout n s ++ stmts_layout n rest

-- what names an out from anywhere
abbrev pub path_layout : Path → List Piece
path_layout p = word_piece p.process ∷ say (mark Dot) ∷ word_piece p.port ∷ say (mark Dot) ∷ word_piece p.out ∷ []

-- what a port gets its messages from
abbrev pub source_layout : Source → List Piece
source_layout (Input w) = word_piece w ∷ []
source_layout (Out p) = path_layout p

-- a parameter that follows another
abbrev pub next_param_layout : Word → List Piece
next_param_layout w = say (mark Comma) ∷ space ∷ word_piece w ∷ []

-- parameters with a comma and a space between them
abbrev pub params_layout : List Word → List Piece
params_layout [] = []
params_layout (w ∷ ws) = word_piece w ∷ flat_map next_param_layout ws

-- every how many jobs messages pass, where it is written
abbrev pub every_layout : Option Num → List Piece
every_layout None = []
every_layout (Some m) = space ∷ say (key keys.Every) ∷ space ∷ number_piece m ∷ []

-- an out, behind a space
abbrev pub out_layout : OutDecl → List Piece
out_layout o =
    space ∷ say (key keys.Out) ∷ space ∷ word_piece o.name ∷ say (mark LeftParen) ∷ number_piece o.width ∷ say (mark RightParen) ∷ every_layout o.every

-- a start value: a number from 0 on, behind `-` where the value is negative
abbrev pub start_layout : ℤ → List Piece
start_layout (pos n) = say (digits (pos n)) ∷ []
start_layout (negsuc n) = say (mark Minus) ∷ say (digits (pos (suc n))) ∷ []

-- the line of a variable
abbrev pub var_layout : VarDecl → List Piece
var_layout v = indent 1 ∷ say (key keys.Var) ∷ space ∷ word_piece v.name ∷ space ∷ say (mark Assign) ∷ space ∷ start_layout v.start ++ feed ∷ []

-- a port's name, source and parameters
abbrev pub head_layout : PortDeclTree → List Piece
head_layout p =
    indent 1 ∷ say (key keys.Port) ∷ space ∷ word_piece p.name ∷ space ∷ say (key keys.From) ∷ space ∷ source_layout p.source
    ++ space ∷ say (mark LeftParen) ∷ params_layout p.params ++ say (mark RightParen) ∷ []

-- the lines of a port
abbrev pub port_layout : PortDeclTree → List Piece
port_layout p = head_layout p ++ flat_map out_layout p.outs ++ space ∷ braced 1 (stmts_layout 2 p.body) ++ feed ∷ []

-- the resource that a process is in, where it is written
abbrev pub inside_layout : Option Word → List Piece
inside_layout None = []
inside_layout (Some w) = space ∷ say (key keys.In) ∷ space ∷ word_piece w ∷ []

-- the lines of a part of a graph
abbrev pub item_layout : ItemTree → List Piece
item_layout (input i) =
    say (key keys.Input) ∷ space ∷ word_piece i.name ∷ say (mark LeftParen) ∷ number_piece i.width ∷ say (mark RightParen)
    ∷ space ∷ say (key keys.Period) ∷ space ∷ number_piece i.period ∷ feed ∷ []
item_layout (output o) = say (key keys.Output) ∷ space ∷ word_piece o.name ∷ space ∷ say (key keys.From) ∷ space ∷ path_layout o.path ++ feed ∷ []
item_layout (resource r) = say (key keys.Resource) ∷ space ∷ word_piece r.name ∷ feed ∷ []
item_layout (process p) =
    say (key keys.Process) ∷ space ∷ word_piece p.name ∷ inside_layout p.inside
    ++ space ∷ braced 0 (flat_map var_layout p.vars ++ flat_map port_layout p.ports) ++ feed ∷ []

-- the lines of a graph
abbrev pub layout_of : List ItemTree → List Piece
layout_of items = flat_map item_layout items

-- the bytes of a token
abbrev pub lexeme_text : Lexeme → List ℕ
lexeme_text (word bytes) = bytes
lexeme_text (key k) = keyword_text k
lexeme_text (mark m) = mark_text m
lexeme_text (digits n) = signed_decimal n

-- two spaces for each brace
abbrev pub indent_text : ℕ → List ℕ
indent_text zero = []
indent_text (suc n) = 32 ∷ 32 ∷ indent_text n

-- the bytes of a piece
abbrev pub piece_text : Piece → List ℕ
piece_text (say l) = lexeme_text l
piece_text space = 32 ∷ []
piece_text feed = 10 ∷ []
piece_text (indent n) = indent_text n

-- the bytes of pieces, one after another
abbrev pub text_of : List Piece → List ℕ
text_of pieces = flat_map piece_text pieces

-- the text of a graph
abbrev pub canonical_text : List ItemTree → List ℕ
canonical_text items = text_of (layout_of items)
