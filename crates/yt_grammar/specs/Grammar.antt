-- The grammar, by the cases of the syntax tree: which tokens spell it.
use Rattle.std.specs.Prelude.{◌≡◌, ℕ, ◌+◌, ◌≤◌, ℤ, neg_ℤ, ◌⊎◌, List, [], ◌∷◌, ◌++◌, Option, None, Some}
use Rattle.yt_graph.specs.declared.expr.Op2.{Op2}
use Rattle.yt_graph.specs.declared.expr.Op2.TheVariants.{Or, And, Lt, Le, Gt, Ge, Eq, Ne, Add, Sub, Mul, Div, Rem}
use Rattle.yt_graph.specs.declared.ast.Word.{Word}
use Rattle.yt_graph.specs.declared.ast.Num.{Num}
use Rattle.yt_graph.specs.declared.ast.Path.{Path}
use Rattle.yt_graph.specs.declared.ast.Source.{Source}
use Rattle.yt_graph.specs.declared.ast.Source.TheVariants.{Input, Out}
use Rattle.yt_graph.specs.declared.ast.VarDecl.{VarDecl}
use Rattle.yt_graph.specs.declared.ast.OutDecl.{OutDecl}
use Rattle.yt_graph.specs.AstPicture.{AstExprTree, number, name, minus, negation, two_sides, paren, call_of, AstExprsTree, no_values, more_values, AstStmtTree, let_local, assign, send_on, when_only, when_else, turns, AstBlockTree, no_stmts, more_stmts, PortDeclTree, ItemTree, input, output, resource, process}
use Rattle.yt_graph.specs.AstWellFormed.{ast_expr_depth, ast_block_depth, IsWritable}
use Rattle.yt_graph.specs.Limits.{most_expr_depth, most_block_depth}
use Rattle.yt_grammar.specs.declared.sign.Keyword.TheVariants as keys
use Rattle.yt_grammar.specs.declared.sign.Mark.TheVariants.{Comma, Dot, Assign, Plus, Minus, Star, Slash, Percent, Less, LessEqual, Greater, GreaterEqual, Equal, NotEqual}
use Rattle.yt_grammar.specs.Lexemes.{Lexeme, key, mark, digits, Tok, AreTokens}
use Rattle.yt_grammar.specs.Forms.{Form, nothing, ◌▹◌, says, keyword, symbol, named, counted, each, listed, braces, parens}

-- what an operator is written as
abbrev pub op_lexeme : Op2 → Lexeme
op_lexeme Or = key keys.Or
op_lexeme And = key keys.And
op_lexeme Lt = mark Less
op_lexeme Le = mark LessEqual
op_lexeme Gt = mark Greater
op_lexeme Ge = mark GreaterEqual
op_lexeme Eq = mark Equal
op_lexeme Ne = mark NotEqual
op_lexeme Add = mark Plus
op_lexeme Sub = mark Minus
op_lexeme Mul = mark Star
op_lexeme Div = mark Slash
op_lexeme Rem = mark Percent

-- how loosely an operator binds
abbrev pub op_rank : Op2 → ℕ
op_rank Or = 7
op_rank And = 6
op_rank Lt = 4
op_rank Le = 4
op_rank Gt = 4
op_rank Ge = 4
op_rank Eq = 4
op_rank Ne = 4
op_rank Add = 3
op_rank Sub = 3
op_rank Mul = 2
op_rank Div = 2
op_rank Rem = 2

-- the loosest of these ranks
abbrev pub loosest : ℕ
loosest = 7

-- the loosest left side of an operator: all but comparisons group to the left
abbrev pub left_rank : Op2 → ℕ
left_rank Or = 7
left_rank And = 6
left_rank Lt = 3
left_rank Le = 3
left_rank Gt = 3
left_rank Ge = 3
left_rank Eq = 3
left_rank Ne = 3
left_rank Add = 3
left_rank Sub = 3
left_rank Mul = 2
left_rank Div = 2
left_rank Rem = 2

-- the loosest right side of an operator
abbrev pub right_rank : Op2 → ℕ
right_rank Or = 6
right_rank And = 5
right_rank Lt = 3
right_rank Le = 3
right_rank Gt = 3
right_rank Ge = 3
right_rank Eq = 3
right_rank Ne = 3
right_rank Add = 2
right_rank Sub = 2
right_rank Mul = 1
right_rank Div = 1
right_rank Rem = 1

-- how loosely an expression binds: 0 for what stands by itself, 1 behind `-`, 5 behind `not`
abbrev pub rank_of : AstExprTree → ℕ
rank_of (number n) = 0
rank_of (name w) = 0
rank_of (minus e) = 1
rank_of (negation e) = 5
rank_of (two_sides op l r) = op_rank op
rank_of (paren e) = 0
rank_of (call_of w args) = 0

-- the expression binds no more loosely than this, and so it is spelled
abbrev pub within : ℕ → AstExprTree → Form → Form
within rank e f ts = (rank_of e ≤ rank) × f ts

abbrev mutual
  -- an expression
  pub expr_form : AstExprTree → Form
  expr_form (number n) = says (digits n)
  expr_form (name w) = named w
  expr_form (minus e) = symbol Minus ▹ within 1 e (expr_form e)
  expr_form (negation e) = keyword keys.Not ▹ within 5 e (expr_form e)
  expr_form (two_sides op l r) = within (left_rank op) l (expr_form l) ▹ says (op_lexeme op) ▹ within (right_rank op) r (expr_form r)
  expr_form (paren e) = parens (expr_form e)
  expr_form (call_of w args) = named w ▹ parens (args_form args)

  -- the arguments of a call, one or more
  pub args_form : AstExprsTree → Form
  args_form no_values = λ _. ⊥
  args_form (more_values e rest) = expr_form e ▹ more_form rest

  -- expressions that follow another, each behind a comma
  pub more_form : AstExprsTree → Form
  more_form no_values = nothing
  more_form (more_values e rest) = symbol Comma ▹ expr_form e ▹ more_form rest

-- an expression of a statement, which is not too deep
abbrev pub value_form : AstExprTree → Form
value_form e ts = (ast_expr_depth e ≤ most_expr_depth) × expr_form e ts

-- values that follow another, each behind a comma
abbrev pub more_values_form : AstExprsTree → Form
more_values_form no_values = nothing
more_values_form (more_values e rest) = symbol Comma ▹ value_form e ▹ more_values_form rest

-- the values of a send, which may be none
abbrev pub values_form : AstExprsTree → Form
values_form no_values = nothing
values_form (more_values e rest) = value_form e ▹ more_values_form rest

abbrev mutual
  -- a statement
  pub stmt_form : AstStmtTree → Form
  stmt_form (let_local w e) = keyword keys.Let ▹ named w ▹ symbol Assign ▹ value_form e
  stmt_form (assign w e) = named w ▹ symbol Assign ▹ value_form e
  stmt_form (send_on w es) = keyword keys.Send ▹ named w ▹ parens (values_form es)
  stmt_form (when_only e first) = keyword keys.If ▹ value_form e ▹ braces (stmts_form first)
  stmt_form (when_else e first second) = keyword keys.If ▹ value_form e ▹ braces (stmts_form first) ▹ keyword keys.Else ▹ braces (stmts_form second)
  stmt_form (turns e most body) = keyword keys.Repeat ▹ value_form e ▹ keyword keys.Max ▹ counted most ▹ braces (stmts_form body)

  -- statements one after another
  pub stmts_form : AstBlockTree → Form
  stmts_form no_stmts = nothing
  stmts_form (more_stmts s rest) = stmt_form s ▹ stmts_form rest

-- a handler's block, which is the first of the blocks that stand in each other
abbrev pub body_form : AstBlockTree → Form
body_form body ts = (1 + ast_block_depth body ≤ most_block_depth) × braces (stmts_form body) ts

-- what names an out from anywhere
abbrev pub path_form : Path → Form
path_form p = named p.process ▹ symbol Dot ▹ named p.port ▹ symbol Dot ▹ named p.out

-- what a port gets its messages from: one source
abbrev pub source_form : Source → Form
source_form (Input w) = named w
source_form (Out p) = path_form p

-- every how many jobs messages pass, where it is written
abbrev pub every_form : Option Num → Form
every_form None = nothing
every_form (Some m) = keyword keys.Every ▹ counted m

-- an out
abbrev pub out_form : OutDecl → Form
out_form o = keyword keys.Out ▹ named o.name ▹ parens (counted o.width) ▹ every_form o.every

-- a start value: a number, or `-` and a number
abbrev pub start_form : ℤ → Form
start_form n ts = says (digits n) ts ⊎ ((m : ℤ) × (n ≡ neg_ℤ m) × (symbol Minus ▹ says (digits m)) ts)

-- a variable
abbrev pub var_form : VarDecl → Form
var_form v = keyword keys.Var ▹ named v.name ▹ symbol Assign ▹ start_form v.start

-- a port
abbrev pub port_form : PortDeclTree → Form
port_form p =
    keyword keys.Port ▹ named p.name ▹ keyword keys.From ▹ source_form p.source ▹ parens (listed named p.params)
    ▹ each out_form p.outs ▹ body_form p.body

-- the resource that a process is in, where it is written
abbrev pub inside_form : Option Word → Form
inside_form None = nothing
inside_form (Some w) = keyword keys.In ▹ named w

-- a part of a graph
abbrev pub item_form : ItemTree → Form
item_form (input i) = keyword keys.Input ▹ named i.name ▹ parens (counted i.width) ▹ keyword keys.Period ▹ counted i.period
item_form (output o) = keyword keys.Output ▹ named o.name ▹ keyword keys.From ▹ path_form o.path
item_form (resource r) = keyword keys.Resource ▹ named r.name
item_form (process p) = keyword keys.Process ▹ named p.name ▹ inside_form p.inside ▹ braces (each var_form p.vars ▹ each port_form p.ports)

-- the tokens spell the tree
abbrev pub Spells : List Tok → List ItemTree → Type 0
Spells toks items = AreTokens toks × each item_form items toks

-- the tokens are the front of some that spell a tree
pub record IsFront (toks : List Tok) : Type 0 where
  pub rest : List Tok
  pub items : List ItemTree
  pub spells : Spells (toks ++ rest) items

-- no tree is spelled, and the token in front of the rest is the first that no tree goes on with; at the end, all tokens are a front
abbrev pub IsStuckAt : List Tok → List Tok → Type 0
IsStuckAt front [] = IsFront front × ((items : List ItemTree) → Spells front items → ⊥)
IsStuckAt front (t ∷ rest) = IsFront front × (IsFront (front ++ t ∷ []) → ⊥)

-- tokens spell at most one tree
abbrev pub SpellsOneTree : Type 0
SpellsOneTree = (toks : List Tok) (items others : List ItemTree) → Spells toks items → Spells toks others → items ≡ others

-- each tree that tokens spell can be written: its names are words, its numbers have no sign, and no depth is past its limit
abbrev pub SpelledIsWritable : Type 0
SpelledIsWritable = (toks : List Tok) (items : List ItemTree) → Spells toks items → IsWritable items
