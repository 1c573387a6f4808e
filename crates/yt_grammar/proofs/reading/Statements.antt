-- The laws of reading statements and blocks.
use Rattle.std.proofs.Common.{◌≡◌, ℕ, ◌+◌, ◌≤◌, inl, inr, Bool, true, false, ◌&&◌, nat_lt, Option, None, Some, List, ◌∷◌, ◌++◌, refl, sym, subst, lt-ltb, arith}
use Rattle.std.proofs.Math.Bool.{and-false}
use Rattle.yt_graph.specs.declared.ast.Num.{Num}
use Rattle.yt_graph.specs.declared.ast.Word.{Word}
use Rattle.yt_graph.specs.declared.place.Place.{Place}
use Rattle.yt_graph.specs.AstPicture.{AstExprTree, AstExprsTree, AstStmtTree, let_local, assign, send_on, when_only, when_else, turns, AstBlockTree}
use Rattle.yt_graph.specs.AstWellFormed.{ast_stmt_depth, ast_block_depth}
use Rattle.yt_grammar.specs.declared.sign.Keyword.{Keyword}
use Rattle.yt_grammar.specs.declared.sign.Keyword.TheVariants as keys
use Rattle.yt_grammar.specs.declared.sign.Mark.TheVariants.{LeftBrace, RightBrace, Assign}
use Rattle.yt_grammar.specs.Lexemes.{Tok, word, key, mark}
use Rattle.yt_grammar.specs.Forms.{Form, ◌▹◌, keyword, symbol, named, counted, parens, braces}
use Rattle.yt_grammar.specs.Grammar.{value_form, values_form, stmt_form, stmts_form}
use Rattle.yt_grammar.specs.Inside.Reading.{Reader, made, both, choice, optional, at_key, behind_key, behind_mark, word_reader, number_reader, value_reader, values_reader, if_reader, repeat_reader, stmt_reader}
use Rattle.yt_grammar.proofs.reading.Lawful.{Lawful}
use Rattle.yt_grammar.proofs.reading.Follows.{NotContinued}
use Rattle.yt_grammar.proofs.reading.Heads.{and_ahead, front_holds, second_as, add_nothing, drop_nothing, group_left, group_right}
use Rattle.yt_grammar.proofs.reading.Signs.{tok_at, BeginsWith, first_is, first_named, first_follows, begins_follows, at_key_ahead}
use Rattle.yt_grammar.proofs.reading.Singles.{Any, lawful_form, lawful_follows, word_lawful, number_lawful}
use Rattle.yt_grammar.proofs.reading.Sequences.{Image, made_lawful, both_lawful, behind_key_lawful, behind_mark_lawful}
use Rattle.yt_grammar.proofs.reading.Choices.{Either, choice_lawful, Perhaps, Ends, optional_lawful}
use Rattle.yt_grammar.proofs.reading.Exprs.{value_lawful}
use Rattle.yt_grammar.proofs.reading.Values.{values_lawful}

-- a statement, in a block in which so many others may stand in each other
abbrev pub StmtIn : ℕ → AstStmtTree → Form
StmtIn blocks s w = (ast_stmt_depth s ≤ blocks) × stmt_form s w

-- a block, with so many that stand in each other
abbrev pub BlockIn : ℕ → AstBlockTree → Form
BlockIn blocks b w = (1 + ast_block_depth b ≤ blocks) × braces (stmts_form b) w

-- what may follow a statement
abbrev pub AfterStmt : List Tok → Type 0
AfterStmt = Ends (at_key keys.Else) (NotContinued 7)

-- the forms of the kinds of statements, as they are read
abbrev LetForm : AstExprTree → Form
LetForm e = symbol Assign ▹ value_form e

-- a `let`
abbrev LetParts : Word × AstExprTree → Form
LetParts r = keyword keys.Let ▹ named r.0 ▹ symbol Assign ▹ value_form r.1

-- a `send`
abbrev SendParts : Word × AstExprsTree → Form
SendParts r = keyword keys.Send ▹ named r.0 ▹ parens (values_form r.1)

-- an assignment
abbrev AssignParts : Word × AstExprTree → Form
AssignParts r = named r.0 ▹ symbol Assign ▹ value_form r.1

-- an `else` and its block
abbrev ElseForm : ℕ → AstBlockTree → Form
ElseForm blocks b = keyword keys.Else ▹ BlockIn blocks b

-- the blocks of an `if`
abbrev BlocksForm : ℕ → AstBlockTree × Option AstBlockTree → Form
BlocksForm blocks r = BlockIn blocks r.0 ▹ Perhaps (ElseForm blocks) r.1

-- an `if`
abbrev IfParts : ℕ → AstExprTree × (AstBlockTree × Option AstBlockTree) → Form
IfParts blocks r = keyword keys.If ▹ value_form r.0 ▹ BlocksForm blocks r.1

-- a `repeat`
abbrev RepeatParts : ℕ → AstExprTree × (Num × AstBlockTree) → Form
RepeatParts blocks r = keyword keys.Repeat ▹ value_form r.0 ▹ (keyword keys.Max ▹ counted r.1.0) ▹ BlockIn blocks r.1.1

-- what holds in front of all `{` holds in front of a block
block_starts : (holds : List Tok → Type 0) → ((at : Place) (ts : List Tok) → holds (tok_at (mark LeftBrace) at ∷ ts)) → (blocks : ℕ) (b : AstBlockTree) (w rest : List Tok) → BlockIn blocks b w → holds (w ++ rest)
block_starts holds h blocks b w rest c = first_follows holds (mark LeftBrace) h (stmts_form b ▹ symbol RightBrace) w rest c.1

-- the law of `let`
let_lawful : Lawful (λ s. made (λ (r : Word × AstExprTree). let_local r.0 r.1) (behind_key keys.Let (both word_reader (behind_mark Assign value_reader)) s)) (Image (λ (r : Word × AstExprTree). let_local r.0 r.1) LetParts) (NotContinued 7)
let_lawful =
    made_lawful (λ (r : Word × AstExprTree). let_local r.0 r.1) (behind_key keys.Let (both word_reader (behind_mark Assign value_reader))) LetParts (NotContinued 7)
    (behind_key_lawful keys.Let (both word_reader (behind_mark Assign value_reader)) AssignParts (NotContinued 7)
    (both_lawful word_reader (behind_mark Assign value_reader) named LetForm Any (NotContinued 7) word_lawful
    (behind_mark_lawful Assign value_reader value_form (NotContinued 7) value_lawful)
    (λ y b rest c d. tt)))

-- the law of assignments
assign_lawful : Lawful (λ s. made (λ (r : Word × AstExprTree). assign r.0 r.1) (both word_reader (behind_mark Assign value_reader) s)) (Image (λ (r : Word × AstExprTree). assign r.0 r.1) AssignParts) (NotContinued 7)
assign_lawful =
    made_lawful (λ (r : Word × AstExprTree). assign r.0 r.1) (both word_reader (behind_mark Assign value_reader)) AssignParts (NotContinued 7)
    (both_lawful word_reader (behind_mark Assign value_reader) named LetForm Any (NotContinued 7) word_lawful
    (behind_mark_lawful Assign value_reader value_form (NotContinued 7) value_lawful)
    (λ y b rest c d. tt))

-- the law of `send`
send_lawful : Lawful (λ s. made (λ (r : Word × AstExprsTree). send_on r.0 r.1) (behind_key keys.Send (both word_reader values_reader) s)) (Image (λ (r : Word × AstExprsTree). send_on r.0 r.1) SendParts) Any
send_lawful =
    made_lawful (λ (r : Word × AstExprsTree). send_on r.0 r.1) (behind_key keys.Send (both word_reader values_reader)) SendParts Any
    (behind_key_lawful keys.Send (both word_reader values_reader) (λ r. named r.0 ▹ parens (values_form r.1)) Any
    (both_lawful word_reader values_reader named (λ es. parens (values_form es)) Any Any word_lawful values_lawful (λ y b rest c d. tt)))

module _ (block : Reader AstBlockTree) (blocks : ℕ) (law : Lawful block (BlockIn blocks) Any) where
  -- the law of the blocks of an `if`
  else_lawful : Lawful (both block (optional (at_key keys.Else) (behind_key keys.Else block))) (BlocksForm blocks) (Ends (at_key keys.Else) Any)
  else_lawful =
      both_lawful block (optional (at_key keys.Else) (behind_key keys.Else block)) (BlockIn blocks) (Perhaps (ElseForm blocks)) Any (Ends (at_key keys.Else) Any) law
      (optional_lawful (at_key keys.Else) (behind_key keys.Else block) (ElseForm blocks) Any
      (behind_key_lawful keys.Else block (BlockIn blocks) Any law)
      (at_key_ahead keys.Else)
      (λ b w rest c. first_follows (λ v. at_key keys.Else v ≡ true) (key keys.Else) (λ p ts. refl) (BlockIn blocks b) w rest c))
      (λ y b rest c d. tt)

  -- the law of the parts of an `if`
  if_parts_lawful : Lawful (behind_key keys.If (both value_reader (both block (optional (at_key keys.Else) (behind_key keys.Else block))))) (IfParts blocks) (Ends (at_key keys.Else) Any)
  if_parts_lawful =
      behind_key_lawful keys.If (both value_reader (both block (optional (at_key keys.Else) (behind_key keys.Else block)))) (λ r. value_form r.0 ▹ BlocksForm blocks r.1) (Ends (at_key keys.Else) Any)
      (both_lawful value_reader (both block (optional (at_key keys.Else) (behind_key keys.Else block))) value_form (BlocksForm blocks) (NotContinued 7) (Ends (at_key keys.Else) Any) value_lawful else_lawful
      (λ r b rest c d. front_holds (NotContinued 7) (BlockIn blocks r.0) (Perhaps (ElseForm blocks) r.1) (block_starts (NotContinued 7) (λ p ts. record { no_paren = refl; no_operator = tt }) blocks r.0) b rest c))

  -- the law of the parts of a `repeat`
  repeat_parts_lawful : Lawful (behind_key keys.Repeat (both value_reader (both (behind_key keys.Max number_reader) block))) (RepeatParts blocks) Any
  repeat_parts_lawful =
      behind_key_lawful keys.Repeat (both value_reader (both (behind_key keys.Max number_reader) block)) (λ r. value_form r.0 ▹ (keyword keys.Max ▹ counted r.1.0) ▹ BlockIn blocks r.1.1) Any
      (both_lawful value_reader (both (behind_key keys.Max number_reader) block) value_form (λ r. (keyword keys.Max ▹ counted r.0) ▹ BlockIn blocks r.1) (NotContinued 7) Any value_lawful
      (both_lawful (behind_key keys.Max number_reader) block (λ n. keyword keys.Max ▹ counted n) (BlockIn blocks) Any Any
      (behind_key_lawful keys.Max number_reader counted Any number_lawful) law (λ y b rest c d. tt))
      (λ r b rest c d. front_holds (NotContinued 7) (keyword keys.Max ▹ counted r.0) (BlockIn blocks r.1)
      (λ a more e. first_follows (NotContinued 7) (key keys.Max) (λ p ts. record { no_paren = refl; no_operator = tt }) (counted r.0) a more e) b rest c))

-- an `if`, of its parts
abbrev if_tree : AstExprTree × (AstBlockTree × Option AstBlockTree) → AstStmtTree
if_tree r = of_blocks r.1.1
  where
    of_blocks : Option AstBlockTree → AstStmtTree
    of_blocks None = when_only r.0 r.1.0
    of_blocks (Some second) = when_else r.0 r.1.0 second

-- a `repeat`, of its parts
abbrev repeat_tree : AstExprTree × (Num × AstBlockTree) → AstStmtTree
repeat_tree r = turns r.0 r.1.0 r.1.1

-- the kinds of statements in their order
abbrev LastForm : AstStmtTree → Form
LastForm = Image (λ (r : Word × AstExprTree). assign r.0 r.1) AssignParts

-- from `repeat` on
abbrev FromRepeat : ℕ → AstStmtTree → Form
FromRepeat blocks = Either (Image repeat_tree (RepeatParts blocks)) LastForm

-- from `if` on
abbrev FromIf : ℕ → AstStmtTree → Form
FromIf blocks = Either (Image if_tree (IfParts blocks)) (FromRepeat blocks)

-- from `send` on
abbrev FromSend : ℕ → AstStmtTree → Form
FromSend blocks = Either (Image (λ (r : Word × AstExprsTree). send_on r.0 r.1) SendParts) (FromIf blocks)

-- all of them
abbrev FromLet : ℕ → AstStmtTree → Form
FromLet blocks = Either (Image (λ (r : Word × AstExprTree). let_local r.0 r.1) LetParts) (FromSend blocks)

-- each kind by its first token
last_first : (s : AstStmtTree) (w rest : List Tok) → LastForm s w → (bytes : List ℕ) × BeginsWith (word bytes) (w ++ rest)
last_first s w rest c = (c.0.0.text, first_named c.0.0 (LetForm c.0.1) w rest c.2)

-- a `repeat`
repeat_first : (blocks : ℕ) (s : AstStmtTree) (w rest : List Tok) → Image repeat_tree (RepeatParts blocks) s w → BeginsWith (key keys.Repeat) (w ++ rest)
repeat_first blocks s w rest c = first_is (key keys.Repeat) (value_form c.0.0 ▹ (keyword keys.Max ▹ counted c.0.1.0) ▹ BlockIn blocks c.0.1.1) w rest c.2

-- an `if`
if_first : (blocks : ℕ) (s : AstStmtTree) (w rest : List Tok) → Image if_tree (IfParts blocks) s w → BeginsWith (key keys.If) (w ++ rest)
if_first blocks s w rest c = first_is (key keys.If) (value_form c.0.0 ▹ BlocksForm blocks c.0.1) w rest c.2

-- a `send`
send_first : (s : AstStmtTree) (w rest : List Tok) → Image (λ (r : Word × AstExprsTree). send_on r.0 r.1) SendParts s w → BeginsWith (key keys.Send) (w ++ rest)
send_first s w rest c = first_is (key keys.Send) (named c.0.0 ▹ parens (values_form c.0.1)) w rest c.2

-- a `let`
let_first : (s : AstStmtTree) (w rest : List Tok) → Image (λ (r : Word × AstExprTree). let_local r.0 r.1) LetParts s w → BeginsWith (key keys.Let) (w ++ rest)
let_first s w rest c = first_is (key keys.Let) (AssignParts c.0) w rest c.2

-- there is room for a block that is read
if_room : (blocks : ℕ) (s : AstStmtTree) (w : List Tok) → Image if_tree (IfParts blocks) s w → nat_lt 0 blocks ≡ true
if_room blocks s w c = lt-ltb 0 blocks (omega (arith, c.2.4.4.3.0))

-- also of a `repeat`
repeat_room : (blocks : ℕ) (s : AstStmtTree) (w : List Tok) → Image repeat_tree (RepeatParts blocks) s w → nat_lt 0 blocks ≡ true
repeat_room blocks s w c = lt-ltb 0 blocks (omega (arith, c.2.4.4.4.0))

-- what holds in front of each kind holds in front of all
from_repeat : (holds : List Tok → Type 0) (blocks : ℕ) → ((p : Place) (ts : List Tok) → nat_lt 0 blocks ≡ true → holds (tok_at (key keys.Repeat) p ∷ ts)) → ((bytes : List ℕ) (p : Place) (ts : List Tok) → holds (tok_at (word bytes) p ∷ ts)) → (s : AstStmtTree) (w rest : List Tok) → FromRepeat blocks s w → holds (w ++ rest)
from_repeat holds blocks h k s w rest (inl c) = begins_follows holds (key keys.Repeat) (λ p ts. h p ts (repeat_room blocks s w c)) (w ++ rest) (repeat_first blocks s w rest c)
from_repeat holds blocks h k s w rest (inr c) = let first = last_first s w rest c in begins_follows holds (word first.0) (k first.0) (w ++ rest) first.1

-- from `if` on
from_if : (holds : List Tok → Type 0) (blocks : ℕ) → ((p : Place) (ts : List Tok) → nat_lt 0 blocks ≡ true → holds (tok_at (key keys.If) p ∷ ts)) → ((p : Place) (ts : List Tok) → nat_lt 0 blocks ≡ true → holds (tok_at (key keys.Repeat) p ∷ ts)) → ((bytes : List ℕ) (p : Place) (ts : List Tok) → holds (tok_at (word bytes) p ∷ ts)) → (s : AstStmtTree) (w rest : List Tok) → FromIf blocks s w → holds (w ++ rest)
from_if holds blocks g h k s w rest (inl c) = begins_follows holds (key keys.If) (λ p ts. g p ts (if_room blocks s w c)) (w ++ rest) (if_first blocks s w rest c)
from_if holds blocks g h k s w rest (inr c) = from_repeat holds blocks h k s w rest c

-- from `send` on
from_send : (holds : List Tok → Type 0) (blocks : ℕ) → ((p : Place) (ts : List Tok) → holds (tok_at (key keys.Send) p ∷ ts)) → ((p : Place) (ts : List Tok) → nat_lt 0 blocks ≡ true → holds (tok_at (key keys.If) p ∷ ts)) → ((p : Place) (ts : List Tok) → nat_lt 0 blocks ≡ true → holds (tok_at (key keys.Repeat) p ∷ ts)) → ((bytes : List ℕ) (p : Place) (ts : List Tok) → holds (tok_at (word bytes) p ∷ ts)) → (s : AstStmtTree) (w rest : List Tok) → FromSend blocks s w → holds (w ++ rest)
from_send holds blocks f g h k s w rest (inl c) = begins_follows holds (key keys.Send) f (w ++ rest) (send_first s w rest c)
from_send holds blocks f g h k s w rest (inr c) = from_if holds blocks g h k s w rest c

-- all of them
pub from_let : (holds : List Tok → Type 0) (blocks : ℕ) → ((p : Place) (ts : List Tok) → holds (tok_at (key keys.Let) p ∷ ts)) → ((p : Place) (ts : List Tok) → holds (tok_at (key keys.Send) p ∷ ts)) → ((p : Place) (ts : List Tok) → nat_lt 0 blocks ≡ true → holds (tok_at (key keys.If) p ∷ ts)) → ((p : Place) (ts : List Tok) → nat_lt 0 blocks ≡ true → holds (tok_at (key keys.Repeat) p ∷ ts)) → ((bytes : List ℕ) (p : Place) (ts : List Tok) → holds (tok_at (word bytes) p ∷ ts)) → (s : AstStmtTree) (w rest : List Tok) → FromLet blocks s w → holds (w ++ rest)
from_let holds blocks e f g h k s w rest (inl c) = begins_follows holds (key keys.Let) e (w ++ rest) (let_first s w rest c)
from_let holds blocks e f g h k s w rest (inr c) = from_send holds blocks f g h k s w rest c

-- where there is room for a block, and a test passes
pub room_and : (b : Bool) (c : Bool) → b ≡ true → c ≡ true → (b && c) ≡ true
room_and true c h k = k
room_and false c h k = absurd cc

-- where both hold, the first does
has_room : (b c : Bool) → (b && c) ≡ true → b ≡ true
has_room true c h = refl
has_room false c h = absurd cc

-- the parts of an `if` and of a `repeat`, with and without what is known of their blocks' depth
only_there : (blocks : ℕ) (b : AstBlockTree) (w : List Tok) → BlocksForm blocks (b, None) w → braces (stmts_form b) w
only_there blocks b w c = (drop_nothing (BlockIn blocks b) w c).1

-- and back
only_back : (blocks : ℕ) (b : AstBlockTree) → 1 + ast_block_depth b ≤ blocks → (w : List Tok) → braces (stmts_form b) w → BlocksForm blocks (b, None) w
only_back blocks b h w c = add_nothing (BlockIn blocks b) w (h, c)

-- two blocks
two_there : (blocks : ℕ) (b d : AstBlockTree) (w : List Tok) → BlocksForm blocks (b, Some d) w → (braces (stmts_form b) ▹ keyword keys.Else ▹ braces (stmts_form d)) w
two_there blocks b d w c = (c.0, c.1, c.2, c.3.1, (c.4.0, c.4.1, c.4.2, c.4.3, c.4.4.1))

-- and back
two_back : (blocks : ℕ) (b d : AstBlockTree) → 1 + ast_block_depth b ≤ blocks → 1 + ast_block_depth d ≤ blocks → (w : List Tok) → (braces (stmts_form b) ▹ keyword keys.Else ▹ braces (stmts_form d)) w → BlocksForm blocks (b, Some d) w
two_back blocks b d h k w c = (c.0, c.1, c.2, (h, c.3), (c.4.0, c.4.1, c.4.2, c.4.3, (k, c.4.4)))

-- a bound and a block
most_there : (blocks : ℕ) (n : Num) (b : AstBlockTree) (w : List Tok) → ((keyword keys.Max ▹ counted n) ▹ BlockIn blocks b) w → (keyword keys.Max ▹ counted n ▹ braces (stmts_form b)) w
most_there blocks n b w c = group_right (keyword keys.Max) (counted n) (braces (stmts_form b)) w (c.0, c.1, c.2, c.3, c.4.1)

-- and back
most_back : (blocks : ℕ) (n : Num) (b : AstBlockTree) → 1 + ast_block_depth b ≤ blocks → (w : List Tok) → (keyword keys.Max ▹ counted n ▹ braces (stmts_form b)) w → ((keyword keys.Max ▹ counted n) ▹ BlockIn blocks b) w
most_back blocks n b h w c = let d = group_left (keyword keys.Max) (counted n) (braces (stmts_form b)) w c in (d.0, d.1, d.2, d.3, (h, d.4))

-- behind a reserved word and a value
behind_value : (k : Keyword) (e : AstExprTree) (l m : Form) → ((w : List Tok) → l w → m w) → (w : List Tok) → (keyword k ▹ value_form e ▹ l) w → (keyword k ▹ value_form e ▹ m) w
behind_value k e l m h w c = second_as (keyword k) (value_form e ▹ l) (value_form e ▹ m) (second_as (value_form e) l m h) w c

-- an `if` is a statement
if_there : (blocks : ℕ) (e : AstExprTree) (b : AstBlockTree) (o : Option AstBlockTree) (w : List Tok) → IfParts blocks (e, (b, o)) w → StmtIn blocks (if_tree (e, (b, o))) w
if_there blocks e b None w c = (c.4.4.3.0, behind_value keys.If e (BlocksForm blocks (b, None)) (braces (stmts_form b)) (only_there blocks b) w c)
if_there blocks e b (Some d) w c = (omega (arith, c.4.4.3.0, c.4.4.4.4.0), behind_value keys.If e (BlocksForm blocks (b, Some d)) (braces (stmts_form b) ▹ keyword keys.Else ▹ braces (stmts_form d)) (two_there blocks b d) w c)

-- a `repeat` is a statement
repeat_there : (blocks : ℕ) (e : AstExprTree) (n : Num) (b : AstBlockTree) (w : List Tok) → RepeatParts blocks (e, (n, b)) w → StmtIn blocks (turns e n b) w
repeat_there blocks e n b w c = (c.4.4.4.0, behind_value keys.Repeat e ((keyword keys.Max ▹ counted n) ▹ BlockIn blocks b) (keyword keys.Max ▹ counted n ▹ braces (stmts_form b)) (most_there blocks n b) w c)

-- the kinds together are the statements
stmt_there : (blocks : ℕ) (s : AstStmtTree) (w : List Tok) → FromLet blocks s w → StmtIn blocks s w
stmt_there blocks s w (inl c) = subst (λ v. StmtIn blocks v w) (sym c.1) (omega arith, c.2)
stmt_there blocks s w (inr (inl c)) = subst (λ v. StmtIn blocks v w) (sym c.1) (omega arith, c.2)
stmt_there blocks s w (inr (inr (inl c))) = subst (λ v. StmtIn blocks v w) (sym c.1) (if_there blocks c.0.0 c.0.1.0 c.0.1.1 w c.2)
stmt_there blocks s w (inr (inr (inr (inl c)))) = subst (λ v. StmtIn blocks v w) (sym c.1) (repeat_there blocks c.0.0 c.0.1.0 c.0.1.1 w c.2)
stmt_there blocks s w (inr (inr (inr (inr c)))) = subst (λ v. StmtIn blocks v w) (sym c.1) (omega arith, c.2)

-- and back
pub stmt_back : (blocks : ℕ) (s : AstStmtTree) (w : List Tok) → StmtIn blocks s w → FromLet blocks s w
stmt_back blocks (let_local x e) w c = inl ((x, e), refl, c.1)
stmt_back blocks (send_on x es) w c = inr (inl ((x, es), refl, c.1))
stmt_back blocks (when_only e b) w c = inr (inr (inl ((e, (b, None)), refl, behind_value keys.If e (braces (stmts_form b)) (BlocksForm blocks (b, None)) (only_back blocks b c.0) w c.1)))
stmt_back blocks (when_else e b d) w c = inr (inr (inl ((e, (b, Some d)), refl, behind_value keys.If e (braces (stmts_form b) ▹ keyword keys.Else ▹ braces (stmts_form d)) (BlocksForm blocks (b, Some d)) (two_back blocks b d (omega (arith, c.0)) (omega (arith, c.0))) w c.1)))
stmt_back blocks (turns e n b) w c = inr (inr (inr (inl ((e, (n, b)), refl, behind_value keys.Repeat e (keyword keys.Max ▹ counted n ▹ braces (stmts_form b)) ((keyword keys.Max ▹ counted n) ▹ BlockIn blocks b) (most_back blocks n b c.0) w c.1))))
stmt_back blocks (assign x e) w c = inr (inr (inr (inr ((x, e), refl, c.1))))

-- the readers from each kind on
abbrev last_reader : Reader AstStmtTree
last_reader s = made (λ (r : Word × AstExprTree). assign r.0 r.1) (both word_reader (behind_mark Assign value_reader) s)

-- from `repeat` on
abbrev from_repeat_reader : Reader AstBlockTree → ℕ → Reader AstStmtTree
from_repeat_reader block blocks = choice (λ s. nat_lt 0 blocks && at_key keys.Repeat s) (repeat_reader block) last_reader

-- from `if` on
abbrev from_if_reader : Reader AstBlockTree → ℕ → Reader AstStmtTree
from_if_reader block blocks = choice (λ s. nat_lt 0 blocks && at_key keys.If s) (if_reader block) (from_repeat_reader block blocks)

-- from `send` on
abbrev from_send_reader : Reader AstBlockTree → ℕ → Reader AstStmtTree
from_send_reader block blocks = choice (at_key keys.Send) (λ s. made (λ (r : Word × AstExprsTree). send_on r.0 r.1) (behind_key keys.Send (both word_reader values_reader) s)) (from_if_reader block blocks)

module _ (block : Reader AstBlockTree) (blocks : ℕ) (law : nat_lt 0 blocks ≡ true → Lawful block (BlockIn blocks) Any) where
  -- the laws from each kind on
  from_repeat_lawful : Lawful (from_repeat_reader block blocks) (FromRepeat blocks) AfterStmt
  from_repeat_lawful = choice_lawful (λ s. nat_lt 0 blocks && at_key keys.Repeat s) (repeat_reader block) last_reader (Image repeat_tree (RepeatParts blocks)) LastForm AfterStmt (record {
    ahead = and_ahead (nat_lt 0 blocks) (at_key keys.Repeat) (at_key_ahead keys.Repeat);
    one = λ s t. lawful_follows (repeat_reader block) (Image repeat_tree (RepeatParts blocks)) Any AfterStmt (λ rest f. tt)
        (made_lawful repeat_tree (behind_key keys.Repeat (both value_reader (both (behind_key keys.Max number_reader) block))) (RepeatParts blocks) Any
        (repeat_parts_lawful block blocks (law (has_room (nat_lt 0 blocks) (at_key keys.Repeat s) t))));
    other = λ s t. lawful_follows last_reader LastForm (NotContinued 7) AfterStmt (λ rest f. f.may) assign_lawful;
    passes = λ x w rest c f. begins_follows (λ v. (nat_lt 0 blocks && at_key keys.Repeat v) ≡ true) (key keys.Repeat) (λ p ts. room_and (nat_lt 0 blocks) true (repeat_room blocks x w c) refl) (w ++ rest) (repeat_first blocks x w rest c);
    fails = λ x w rest c f. let first = last_first x w rest c in begins_follows (λ v. (nat_lt 0 blocks && at_key keys.Repeat v) ≡ false) (word first.0) (λ p ts. and-false (nat_lt 0 blocks)) (w ++ rest) first.1;
  })

  -- from `if` on
  from_if_lawful : Lawful (from_if_reader block blocks) (FromIf blocks) AfterStmt
  from_if_lawful = choice_lawful (λ s. nat_lt 0 blocks && at_key keys.If s) (if_reader block) (from_repeat_reader block blocks) (Image if_tree (IfParts blocks)) (FromRepeat blocks) AfterStmt (record {
    ahead = and_ahead (nat_lt 0 blocks) (at_key keys.If) (at_key_ahead keys.If);
    one = λ s t. lawful_follows (if_reader block) (Image if_tree (IfParts blocks)) (Ends (at_key keys.Else) Any) AfterStmt (λ rest f. record { fails = f.fails; may = tt })
        (made_lawful if_tree (behind_key keys.If (both value_reader (both block (optional (at_key keys.Else) (behind_key keys.Else block))))) (IfParts blocks) (Ends (at_key keys.Else) Any)
        (if_parts_lawful block blocks (law (has_room (nat_lt 0 blocks) (at_key keys.If s) t))));
    other = λ s t. from_repeat_lawful;
    passes = λ x w rest c f. begins_follows (λ v. (nat_lt 0 blocks && at_key keys.If v) ≡ true) (key keys.If) (λ p ts. room_and (nat_lt 0 blocks) true (if_room blocks x w c) refl) (w ++ rest) (if_first blocks x w rest c);
    fails = λ x w rest c f. from_repeat (λ v. (nat_lt 0 blocks && at_key keys.If v) ≡ false) blocks (λ p ts e. and-false (nat_lt 0 blocks)) (λ bytes p ts. and-false (nat_lt 0 blocks)) x w rest c;
  })

  -- from `send` on
  from_send_lawful : Lawful (from_send_reader block blocks) (FromSend blocks) AfterStmt
  from_send_lawful = choice_lawful (at_key keys.Send) (λ s. made (λ (r : Word × AstExprsTree). send_on r.0 r.1) (behind_key keys.Send (both word_reader values_reader) s)) (from_if_reader block blocks) (Image (λ (r : Word × AstExprsTree). send_on r.0 r.1) SendParts) (FromIf blocks) AfterStmt (record {
    ahead = at_key_ahead keys.Send;
    one = λ s t. lawful_follows (λ s. made (λ (r : Word × AstExprsTree). send_on r.0 r.1) (behind_key keys.Send (both word_reader values_reader) s)) (Image (λ (r : Word × AstExprsTree). send_on r.0 r.1) SendParts) Any AfterStmt (λ rest f. tt) send_lawful;
    other = λ s t. from_if_lawful;
    passes = λ x w rest c f. begins_follows (λ v. at_key keys.Send v ≡ true) (key keys.Send) (λ p ts. refl) (w ++ rest) (send_first x w rest c);
    fails = λ x w rest c f. from_if (λ v. at_key keys.Send v ≡ false) blocks (λ p ts e. refl) (λ p ts e. refl) (λ bytes p ts. refl) x w rest c;
  })

  -- the law of statements
  pub stmt_lawful : Lawful (stmt_reader block blocks) (StmtIn blocks) AfterStmt
  stmt_lawful =
      lawful_form (stmt_reader block blocks) (FromLet blocks) (StmtIn blocks) AfterStmt (stmt_there blocks) (stmt_back blocks)
      (choice_lawful (at_key keys.Let) (λ s. made (λ (r : Word × AstExprTree). let_local r.0 r.1) (behind_key keys.Let (both word_reader (behind_mark Assign value_reader)) s)) (from_send_reader block blocks) (Image (λ (r : Word × AstExprTree). let_local r.0 r.1) LetParts) (FromSend blocks) AfterStmt (record {
        ahead = at_key_ahead keys.Let;
        one = λ s t. lawful_follows (λ s. made (λ (r : Word × AstExprTree). let_local r.0 r.1) (behind_key keys.Let (both word_reader (behind_mark Assign value_reader)) s)) (Image (λ (r : Word × AstExprTree). let_local r.0 r.1) LetParts) (NotContinued 7) AfterStmt (λ rest f. f.may) let_lawful;
        other = λ s t. from_send_lawful;
        passes = λ x w rest c f. begins_follows (λ v. at_key keys.Let v ≡ true) (key keys.Let) (λ p ts. refl) (w ++ rest) (let_first x w rest c);
        fails = λ x w rest c f. from_send (λ v. at_key keys.Let v ≡ false) blocks (λ p ts. refl) (λ p ts e. refl) (λ p ts e. refl) (λ bytes p ts. refl) x w rest c;
      }))
