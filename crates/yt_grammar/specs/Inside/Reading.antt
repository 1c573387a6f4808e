-- Reading the front of a list of tokens, from left to right, looking one token ahead.
use Rattle.std.specs.Prelude.{ℕ, zero, suc, ℤ, neg_ℤ, nat_eq, nat_le, nat_lt, Bool, true, false, ◌&&◌, ◌||◌, if◌then◌else◌, List, [], ◌∷◌, length, Option, None, Some}
use Rattle.yt_graph.specs.declared.expr.Op2.{Op2}
use Rattle.yt_graph.specs.declared.expr.Op2.TheVariants.{Or, And, Lt, Le, Gt, Ge, Eq, Ne, Add, Sub, Mul, Div, Rem}
use Rattle.yt_graph.specs.declared.ast.Word.{Word}
use Rattle.yt_graph.specs.declared.ast.Num.{Num}
use Rattle.yt_graph.specs.declared.ast.Path.{Path}
use Rattle.yt_graph.specs.declared.ast.Source.{Source}
use Rattle.yt_graph.specs.declared.ast.Source.TheVariants.{Input, Out}
use Rattle.yt_graph.specs.declared.ast.VarDecl.{VarDecl}
use Rattle.yt_graph.specs.declared.ast.OutDecl.{OutDecl}
use Rattle.yt_graph.specs.AstPicture.{AstExprTree, number, name, minus, negation, two_sides, paren, call_of, AstExprsTree, no_values, more_values, AstStmtTree, let_local, assign, send_on, when_only, when_else, turns, AstBlockTree, no_stmts, more_stmts, PortDeclTree, ItemTree, input, output, resource, process}
use Rattle.yt_graph.specs.AstWellFormed.{ast_expr_depth}
use Rattle.yt_grammar.specs.declared.sign.Keyword.{Keyword}
use Rattle.yt_grammar.specs.declared.sign.Keyword.TheVariants as keys
use Rattle.yt_grammar.specs.declared.sign.Mark.{Mark}
use Rattle.yt_grammar.specs.declared.sign.Mark.TheVariants.{LeftBrace, RightBrace, LeftParen, RightParen, Comma, Dot, Assign, Plus, Minus, Star, Slash, Percent, Less, LessEqual, Greater, GreaterEqual, Equal, NotEqual}
use Rattle.yt_graph.specs.Limits.{most_expr_depth, most_block_depth}
use Rattle.yt_grammar.specs.Lexemes.{Lexeme, word, key, mark, digits, Tok, keyword_number, mark_number}
use Rattle.yt_grammar.specs.Grammar.{op_rank, right_rank, loosest}

-- what reading comes to: a thing and the tokens behind it, or the tokens in front of which it can't go on
pub data Reading (X : Type 0) : Type 0 where
  got : X → List Tok → Reading X
  stuck : List Tok → Reading X

-- reads a thing in front of tokens
abbrev pub Reader : Type 0 → Type 0
Reader X = List Tok → Reading X

-- one thing and then, from it, another
abbrev pub and_then : {X Y : Type 0} → Reading X → (X → Reader Y) → Reading Y
and_then (got x rest) f = f x rest
and_then (stuck rest) f = stuck rest

-- the same reading, of what is made of the thing
abbrev pub made : {X Y : Type 0} → (X → Y) → Reading X → Reading Y
made f (got x rest) = got (f x) rest
made f (stuck rest) = stuck rest

-- two things, one behind the other
abbrev pub both : {X Y : Type 0} → Reader X → Reader Y → Reader (X × Y)
both p q s = and_then (p s) (λ x rest. made (λ y. (x, y)) (q rest))

-- whether the first token is this reserved word, this symbol, a name, or a number
abbrev pub at_key : Keyword → List Tok → Bool
at_key k [] = false
at_key k (t ∷ ts) = is_key t.says
  where
    is_key : Lexeme → Bool
    is_key (key j) = nat_eq (keyword_number k) (keyword_number j)
    is_key (word w) = false
    is_key (mark m) = false
    is_key (digits n) = false

abbrev pub at_mark : Mark → List Tok → Bool
at_mark m [] = false
at_mark m (t ∷ ts) = is_mark t.says
  where
    is_mark : Lexeme → Bool
    is_mark (mark j) = nat_eq (mark_number m) (mark_number j)
    is_mark (word w) = false
    is_mark (key k) = false
    is_mark (digits n) = false

abbrev pub at_word : List Tok → Bool
at_word [] = false
at_word (t ∷ ts) = is_word t.says
  where
    is_word : Lexeme → Bool
    is_word (word w) = true
    is_word (key k) = false
    is_word (mark m) = false
    is_word (digits n) = false

abbrev pub at_number : List Tok → Bool
at_number [] = false
at_number (t ∷ ts) = is_number t.says
  where
    is_number : Lexeme → Bool
    is_number (digits n) = true
    is_number (word w) = false
    is_number (key k) = false
    is_number (mark m) = false

-- this reserved word
abbrev pub key_reader : Keyword → Reader (Unit {0})
key_reader k [] = stuck []
key_reader k (t ∷ ts) = if at_key k (t ∷ ts) then got tt ts else stuck (t ∷ ts)

-- this symbol
abbrev pub mark_reader : Mark → Reader (Unit {0})
mark_reader m [] = stuck []
mark_reader m (t ∷ ts) = if at_mark m (t ∷ ts) then got tt ts else stuck (t ∷ ts)

-- a name, with its place
abbrev pub word_reader : Reader Word
word_reader [] = stuck []
word_reader (t ∷ ts) = word_in t.says
  where
    word_in : Lexeme → Reading Word
    word_in (word w) = got (record { text = w; place = t.place }) ts
    word_in (key k) = stuck (t ∷ ts)
    word_in (mark m) = stuck (t ∷ ts)
    word_in (digits n) = stuck (t ∷ ts)

-- a number, with its place
abbrev pub number_reader : Reader Num
number_reader [] = stuck []
number_reader (t ∷ ts) = number_in t.says
  where
    number_in : Lexeme → Reading Num
    number_in (digits n) = got (record { value = n; place = t.place }) ts
    number_in (word w) = stuck (t ∷ ts)
    number_in (key k) = stuck (t ∷ ts)
    number_in (mark m) = stuck (t ∷ ts)

-- a thing behind a reserved word, behind a symbol, before a symbol
abbrev pub behind_key : {X : Type 0} → Keyword → Reader X → Reader X
behind_key k p s = and_then (key_reader k s) (λ _. p)

abbrev pub behind_mark : {X : Type 0} → Mark → Reader X → Reader X
behind_mark m p s = and_then (mark_reader m s) (λ _. p)

abbrev pub before_mark : {X : Type 0} → Reader X → Mark → Reader X
before_mark p m s = and_then (p s) (λ x rest. made (λ _. x) (mark_reader m rest))

abbrev pub in_parens : {X : Type 0} → Reader X → Reader X
in_parens p = behind_mark LeftParen (before_mark p RightParen)

abbrev pub in_braces : {X : Type 0} → Reader X → Reader X
in_braces p = behind_mark LeftBrace (before_mark p RightBrace)

-- one way or another, by what the tokens begin with
abbrev pub choice : {X : Type 0} → (List Tok → Bool) → Reader X → Reader X → Reader X
choice test p q s = if test s then p s else q s

-- a thing where the tokens begin so
abbrev pub optional : {X : Type 0} → (List Tok → Bool) → Reader X → Reader (Option X)
optional test p = choice test (λ s. made Some (p s)) (got None)

-- things as long as the tokens begin so, so many at most
abbrev pub many_of : {X : Type 0} → ℕ → (List Tok → Bool) → Reader X → Reader (List X)
many_of zero test p s = got [] s
many_of (suc n) test p s = if test s then and_then (p s) (λ x rest. made (λ xs. x ∷ xs) (many_of n test p rest)) else got [] s

-- things as long as the tokens begin so: there are no more of them than tokens
unfoldable pub many : {X : Type 0} → (List Tok → Bool) → Reader X → Reader (List X)
many test p s = many_of (length s) test p s

-- a thing or more, with commas between them
abbrev pub one_or_more : {X : Type 0} → Reader X → Reader (List X)
one_or_more p s = and_then (p s) (λ x rest. made (λ xs. x ∷ xs) (many (at_mark Comma) (behind_mark Comma p) rest))

-- expressions in order, as a tree holds them
abbrev pub exprs_of : List AstExprTree → AstExprsTree
exprs_of [] = no_values
exprs_of (e ∷ es) = more_values e (exprs_of es)

-- statements in order, as a tree holds them
abbrev pub block_of : List AstStmtTree → AstBlockTree
block_of [] = no_stmts
block_of (s ∷ ss) = more_stmts s (block_of ss)

-- the operator that a token is
abbrev pub op_in : Lexeme → Option Op2
op_in (word w) = None
op_in (digits n) = None
op_in (key k) = if nat_eq (keyword_number k) (keyword_number keys.Or) then Some Or else (if nat_eq (keyword_number k) (keyword_number keys.And) then Some And else None)
op_in (mark Less) = Some Lt
op_in (mark LessEqual) = Some Le
op_in (mark Greater) = Some Gt
op_in (mark GreaterEqual) = Some Ge
op_in (mark Equal) = Some Eq
op_in (mark NotEqual) = Some Ne
op_in (mark Plus) = Some Add
op_in (mark Minus) = Some Sub
op_in (mark Star) = Some Mul
op_in (mark Slash) = Some Div
op_in (mark Percent) = Some Rem
op_in (mark LeftBrace) = None
op_in (mark RightBrace) = None
op_in (mark LeftParen) = None
op_in (mark RightParen) = None
op_in (mark Comma) = None
op_in (mark Dot) = None
op_in (mark Assign) = None

-- the operator that the tokens begin with, where it binds just so loosely
abbrev pub op_at : ℕ → List Tok → Option Op2
op_at rank [] = None
op_at rank (t ∷ ts) = of_rank (op_in t.says)
  where
    of_rank : Option Op2 → Option Op2
    of_rank None = None
    of_rank (Some op) = if nat_eq (op_rank op) rank then Some op else None

-- the tokens behind the first
abbrev pub behind : List Tok → List Tok
behind [] = []
behind (t ∷ ts) = ts

-- Below, `room` is how deep an expression may be besides its own level, and `inner` reads a part of it by rank, where there is room.

-- the operator that comes next and its right side, as long as there is room for both below it, and then more
abbrev pub link : (ℕ → Reader AstExprTree) → ℕ → AstExprTree → (AstExprTree → Reader AstExprTree) → Option Op2 → Reader AstExprTree
link inner room left go_on None s = got left s
link inner room left go_on (Some op) s =
    if nat_le (ast_expr_depth left) room then and_then (inner (right_rank op) (behind s)) (λ right. go_on (two_sides op left right)) else got left s

-- operators of one rank and their right sides behind a left side, so many at most
abbrev pub chain : (ℕ → Reader AstExprTree) → ℕ → ℕ → ℕ → AstExprTree → Reader AstExprTree
chain inner room rank zero left s = got left s
chain inner room rank (suc n) left s = link inner room left (chain inner room rank n) (op_at rank s) s

-- how many operators of a rank may follow each other: one comparison, and any number of others, for which there is no more room than for so many
abbrev pub turns_at : ℕ → ℕ → ℕ
turns_at rank room = if nat_eq rank 4 then 1 else suc room

-- an argument or more in parentheses
abbrev pub args_reader : (ℕ → Reader AstExprTree) → Reader AstExprsTree
args_reader inner s = made exprs_of (in_parens (one_or_more (inner loosest)) s)

-- a number, an expression in parentheses, a name or a call
abbrev pub prim_reader : (ℕ → Reader AstExprTree) → ℕ → Reader AstExprTree
prim_reader inner room = choice at_number (λ s. made (λ n. number n.value) (number_reader s)) (choice (λ s. at_mark LeftParen s && nat_lt 0 room) (λ s. made paren (in_parens (inner loosest) s)) name_or_call)
  where
    name_or_call : Reader AstExprTree
    name_or_call s = and_then (word_reader s) (λ w. choice (λ r. at_mark LeftParen r && nat_lt 0 room) (λ r. made (call_of w) (args_reader inner r)) (got (name w)))

-- an expression of a rank
abbrev pub rank_reader : (ℕ → Reader AstExprTree) → ℕ → ℕ → Reader AstExprTree
rank_reader inner room zero = prim_reader inner room
rank_reader inner room (suc m) =
    if nat_eq m 0 then choice (λ s. at_mark Minus s && nat_lt 0 room) (λ s. made minus (behind_mark Minus (inner 1) s)) (rank_reader inner room m)
    else (if nat_eq m 4 then choice (λ s. at_key keys.Not s && nat_lt 0 room) (λ s. made negation (behind_key keys.Not (inner 5) s)) (rank_reader inner room m)
    else (λ s. and_then (rank_reader inner room m s) (chain inner room (suc m) (turns_at (suc m) room))))

-- an expression of a depth and a rank
unfoldable pub expr_reader : ℕ → ℕ → Reader AstExprTree
expr_reader zero rank s = stuck s
expr_reader (suc room) rank s = rank_reader (expr_reader room) room rank s

-- an expression of a statement
unfoldable pub value_reader : Reader AstExprTree
value_reader s = expr_reader most_expr_depth loosest s

-- whether a statement begins here, in a block in which so many others may stand in each other
abbrev pub at_stmt : ℕ → List Tok → Bool
at_stmt blocks s = at_word s || (at_key keys.Let s || (at_key keys.Send s || (nat_lt 0 blocks && (at_key keys.If s || at_key keys.Repeat s))))

-- the values of a send, in parentheses
abbrev pub values_reader : Reader AstExprsTree
values_reader s = made exprs_of (in_parens (choice (at_mark RightParen) (got []) (one_or_more value_reader)) s)

-- an `if`, by what its block is read by
abbrev pub if_reader : Reader AstBlockTree → Reader AstStmtTree
if_reader block s =
    made (λ r. choose r.0 r.1.0 r.1.1) (behind_key keys.If (both value_reader (both block (optional (at_key keys.Else) (behind_key keys.Else block)))) s)
  where
    choose : AstExprTree → AstBlockTree → Option AstBlockTree → AstStmtTree
    choose e first None = when_only e first
    choose e first (Some second) = when_else e first second

-- a `repeat`
abbrev pub repeat_reader : Reader AstBlockTree → Reader AstStmtTree
repeat_reader block s = made (λ r. turns r.0 r.1.0 r.1.1) (behind_key keys.Repeat (both value_reader (both (behind_key keys.Max number_reader) block)) s)

-- a statement, by what its blocks are read by, where there may be some
abbrev pub stmt_reader : Reader AstBlockTree → ℕ → Reader AstStmtTree
stmt_reader block blocks =
    choice (at_key keys.Let) (λ s. made (λ r. let_local r.0 r.1) (behind_key keys.Let (both word_reader (behind_mark Assign value_reader)) s))
    (choice (at_key keys.Send) (λ s. made (λ r. send_on r.0 r.1) (behind_key keys.Send (both word_reader values_reader) s))
    (choice (λ s. nat_lt 0 blocks && at_key keys.If s) (if_reader block)
    (choice (λ s. nat_lt 0 blocks && at_key keys.Repeat s) (repeat_reader block)
    (λ s. made (λ r. assign r.0 r.1) (both word_reader (behind_mark Assign value_reader) s)))))

-- a block, with so many that stand in each other
unfoldable pub block_reader : ℕ → Reader AstBlockTree
block_reader zero s = stuck s
block_reader (suc blocks) s = made block_of (in_braces (many (at_stmt blocks) (stmt_reader (block_reader blocks) blocks)) s)

-- what names an out from anywhere, behind its first word
abbrev pub path_reader : Word → Reader Path
path_reader first s =
    made (λ r. record { process = first; port = r.0; out = r.1 }) (behind_mark Dot (both word_reader (behind_mark Dot word_reader)) s)

-- what a port gets its messages from
abbrev pub source_reader : Reader Source
source_reader s = and_then (word_reader s) (λ w. choice (at_mark Dot) (λ r. made Out (path_reader w r)) (got (Input w)))

-- an out
abbrev pub out_reader : Reader OutDecl
out_reader s =
    made (λ r. record { name = r.0; width = r.1.0; every = r.1.1 })
    (behind_key keys.Out (both word_reader (both (in_parens number_reader) (optional (at_key keys.Every) (behind_key keys.Every number_reader)))) s)

-- a start value
abbrev pub start_reader : Reader ℤ
start_reader = choice (at_mark Minus) (λ s. made (λ n. neg_ℤ n.value) (behind_mark Minus number_reader s)) (λ s. made (λ n. n.value) (number_reader s))

-- a variable
abbrev pub var_reader : Reader VarDecl
var_reader s = made (λ r. record { name = r.0; start = r.1 }) (behind_key keys.Var (both word_reader (behind_mark Assign start_reader)) s)

-- the names of a port's parameters, in parentheses
abbrev pub params_reader : Reader (List Word)
params_reader = in_parens (choice (at_mark RightParen) (got []) (one_or_more word_reader))

-- a port
abbrev pub port_reader : Reader PortDeclTree
port_reader s =
    made (λ r. record { name = r.0; source = r.1.0; params = r.1.1.0; outs = r.1.1.1.0; body = r.1.1.1.1 })
    (behind_key keys.Port (both word_reader (both (behind_key keys.From source_reader) (both params_reader (both (many (at_key keys.Out) out_reader) (block_reader most_block_depth))))) s)

-- an input, of what is read of it
abbrev pub input_of : Word × (Num × Num) → ItemTree
input_of r = input (record { name = r.0; width = r.1.0; period = r.1.1 })

-- an output
abbrev pub output_of : Word × Path → ItemTree
output_of r = output (record { name = r.0; path = r.1 })

-- a resource
abbrev pub resource_of : Word → ItemTree
resource_of w = resource (record { name = w })

-- a process
abbrev pub process_of : Word × (Option Word × (List VarDecl × List PortDeclTree)) → ItemTree
process_of r = process (record { name = r.0; inside = r.1.0; vars = r.1.1.0; ports = r.1.1.1 })

-- a part of a graph
abbrev pub item_reader : Reader ItemTree
item_reader =
    choice (at_key keys.Input) (λ s. made input_of (behind_key keys.Input (both word_reader (both (in_parens number_reader) (behind_key keys.Period number_reader))) s))
    (choice (at_key keys.Output) (λ s. made output_of (behind_key keys.Output (both word_reader (behind_key keys.From full_path)) s))
    (choice (at_key keys.Resource) (λ s. made resource_of (behind_key keys.Resource word_reader s))
    (λ s. made process_of (behind_key keys.Process (both word_reader (both (optional (at_key keys.In) (behind_key keys.In word_reader)) (in_braces (both (many (at_key keys.Var) var_reader) (many (at_key keys.Port) port_reader))))) s))))
  where
    full_path : Reader Path
    full_path s = and_then (word_reader s) path_reader

-- whether a part of a graph begins here
abbrev pub at_item : List Tok → Bool
at_item s = at_key keys.Input s || (at_key keys.Output s || (at_key keys.Resource s || at_key keys.Process s))

-- a graph: parts, and nothing behind them
unfoldable pub graph_reader : Reader (List ItemTree)
graph_reader s = and_then (many at_item item_reader s) at_end
  where
    at_end : List ItemTree → Reader (List ItemTree)
    at_end items [] = got items []
    at_end items (t ∷ ts) = stuck (t ∷ ts)
