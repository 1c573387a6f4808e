-- A tree that some tokens spell can be written.
use Rattle.std.proofs.Common.{ℕ, ◌-◌, ◌^◌, ◌≡◌, ◌≤◌, ◌<◌, List, [], ◌∷◌, ◌++◌, Bool, true, ◌&&◌, ℤ, pos, negsuc, zero, suc, Option, None, Some, refl, subst, inl, inr, arith}
use Rattle.std.proofs.lemmas.Bool.Decides.{nat_tests}
use Rattle.std.specs.Prelude.{nat_le, nat_lt, neg_ℤ}
use Rattle.std.specs.List.{list_all}
use Rattle.yt_graph.specs.declared.ast.Word.{Word}
use Rattle.yt_graph.specs.declared.ast.Num.{Num}
use Rattle.yt_graph.specs.declared.ast.Path.{Path}
use Rattle.yt_graph.specs.declared.ast.Source.{Source}
use Rattle.yt_graph.specs.declared.ast.Source.TheVariants.{Input, Out}
use Rattle.yt_graph.specs.declared.ast.VarDecl.{VarDecl}
use Rattle.yt_graph.specs.declared.ast.OutDecl.{OutDecl}
use Rattle.yt_graph.specs.AstPicture.{AstExprTree, number, name, minus, negation, two_sides, paren, call_of, AstExprsTree, no_values, more_values, AstStmtTree, let_local, assign, send_on, when_only, when_else, turns, AstBlockTree, no_stmts, more_stmts, PortDeclTree, ItemTree, input, output, resource, process}
use Rattle.yt_graph.specs.AstWellFormed.{ast_expr_depth, ast_exprs_depth, ast_stmt_depth, ast_block_depth}
use Rattle.yt_grammar.specs.declared.sign.Mark.TheVariants.{Comma}
use Rattle.yt_grammar.specs.Lexemes.{Lexeme, digits, Tok, IsLexeme, AreTokens}
use Rattle.yt_grammar.specs.Forms.{Form, ◌▹◌, says, symbol, named, counted, each, listed}
use Rattle.yt_grammar.specs.Grammar.{rank_of, left_rank, right_rank, expr_form, args_form, more_form, value_form, more_values_form, values_form, stmt_form, stmts_form, body_form, path_form, source_form, every_form, out_form, start_form, var_form, port_form, inside_form, item_form, Spells}
use Rattle.yt_graph.specs.Names.{is_name}
use Rattle.yt_grammar.specs.Writable.{is_count, is_start, is_expr, are_args, are_exprs, is_stmt, are_stmts, is_path, is_source, is_every, is_out, is_var, is_param, is_port, is_inside, is_item, is_writable}

-- a form behind another, taken apart
pub record Parts (p q : Form) : Type 0 where
  pub front : List Tok
  pub back : List Tok
  pub front_ok : AreTokens front
  pub back_ok : AreTokens back
  pub front_is : p front
  pub back_is : q back

tokens_apart : (a b : List Tok) → AreTokens (a ++ b) → AreTokens a × AreTokens b
tokens_apart [] b h = (tt, h)
tokens_apart (t ∷ ts) b h =
    let rest = tokens_apart ts b h.1 in
    ((h.0, rest.0), rest.1)

pub parts_of : (p q : Form) (ts : List Tok) → AreTokens ts → (p ▹ q) ts → Parts p q
parts_of p q ts ok h =
    let apart = tokens_apart h.0 h.1 (subst AreTokens h.2 ok) in
    record { front = h.0; back = h.1; front_ok = apart.0; back_ok = apart.1; front_is = h.3; back_is = h.4 }

-- what stands in brackets
pub inside_of : (p q r : Form) (ts : List Tok) → AreTokens ts → (p ▹ q ▹ r) ts → (inner : List Tok) × AreTokens inner × q inner
inside_of p q r ts ok h =
    let a = parts_of p (q ▹ r) ts ok h in
    let b = parts_of q r a.back a.back_ok a.back_is in
    (b.front, b.front_ok, b.front_is)

-- tests
and_true : (a b : Bool) → a ≡ true → b ≡ true → (a && b) ≡ true
and_true a b h k = rw (h, k) refl

le_true : (m n : ℕ) → m ≤ n → nat_le m n ≡ true
le_true m n h = grind (arith, nat_tests)

lt_true : (m n : ℕ) → m < n → nat_lt m n ≡ true
lt_true m n h = grind (arith, nat_tests)

pub is_count_true : (n : ℤ) → IsLexeme (digits n) → is_count n ≡ true
is_count_true (pos n) h = lt_true n (2 ^ 63) h
is_count_true (negsuc n) h = absurd h

-- names and numbers
name_spelled : (w : Word) (ts : List Tok) → AreTokens ts → named w ts → is_name w.text ≡ true
name_spelled w ts ok h =
    let one = subst AreTokens h ok in
    one.0

count_spelled : (n : Num) (ts : List Tok) → AreTokens ts → counted n ts → is_count n.value ≡ true
count_spelled n ts ok h =
    let one = subst AreTokens h ok in
    is_count_true n.value one.0

says_ok : (l : Lexeme) (ts : List Tok) → AreTokens ts → says l ts → IsLexeme l
says_ok l ts ok h =
    let one = subst AreTokens h.1 ok in
    subst IsLexeme h.2 one.0

-- expressions
mutual
  expr_spelled : (room : ℕ) (e : AstExprTree) (ts : List Tok) → ast_expr_depth e ≤ room → AreTokens ts → expr_form e ts → is_expr room e ≡ true
  expr_spelled room (number n) ts d ok h = and_true (nat_lt 0 room) (is_count n) (lt_true 0 room (omega arith)) (is_count_true n (says_ok (digits n) ts ok h))
  expr_spelled room (name w) ts d ok h = and_true (nat_lt 0 room) (is_name w.text) (lt_true 0 room (omega arith)) (name_spelled w ts ok h)
  expr_spelled room (minus e) ts d ok h =
      let a = parts_of _ _ ts ok h in
      and_true (nat_lt 0 room) (nat_le (rank_of e) 1 && is_expr (room - 1) e) (lt_true 0 room (omega arith))
      (and_true (nat_le (rank_of e) 1) (is_expr (room - 1) e) (le_true (rank_of e) 1 a.back_is.0) (expr_spelled (room - 1) e a.back (omega arith) a.back_ok a.back_is.1))
  expr_spelled room (negation e) ts d ok h =
      let a = parts_of _ _ ts ok h in
      and_true (nat_lt 0 room) (nat_le (rank_of e) 5 && is_expr (room - 1) e) (lt_true 0 room (omega arith))
      (and_true (nat_le (rank_of e) 5) (is_expr (room - 1) e) (le_true (rank_of e) 5 a.back_is.0) (expr_spelled (room - 1) e a.back (omega arith) a.back_ok a.back_is.1))
  expr_spelled room (two_sides op l r) ts d ok h =
      let a = parts_of _ _ ts ok h in
      let b = parts_of _ _ a.back a.back_ok a.back_is in
      and_true (nat_lt 0 room) ((nat_le (rank_of l) (left_rank op) && is_expr (room - 1) l) && (nat_le (rank_of r) (right_rank op) && is_expr (room - 1) r)) (lt_true 0 room (omega arith))
      (and_true (nat_le (rank_of l) (left_rank op) && is_expr (room - 1) l) (nat_le (rank_of r) (right_rank op) && is_expr (room - 1) r)
      (and_true (nat_le (rank_of l) (left_rank op)) (is_expr (room - 1) l) (le_true (rank_of l) (left_rank op) a.front_is.0) (expr_spelled (room - 1) l a.front (omega arith) a.front_ok a.front_is.1))
      (and_true (nat_le (rank_of r) (right_rank op)) (is_expr (room - 1) r) (le_true (rank_of r) (right_rank op) b.back_is.0) (expr_spelled (room - 1) r b.back (omega arith) b.back_ok b.back_is.1)))
  expr_spelled room (paren e) ts d ok h =
      let a = inside_of _ _ _ ts ok h in
      and_true (nat_lt 0 room) (is_expr (room - 1) e) (lt_true 0 room (omega arith)) (expr_spelled (room - 1) e a.0 (omega arith) a.1 a.2)
  expr_spelled room (call_of w args) ts d ok h =
      let a = parts_of _ _ ts ok h in
      let b = inside_of _ _ _ a.back a.back_ok a.back_is in
      and_true (nat_lt 0 room) (is_name w.text && are_args (room - 1) args) (lt_true 0 room (omega arith))
      (and_true (is_name w.text) (are_args (room - 1) args) (name_spelled w a.front a.front_ok a.front_is) (args_spelled (room - 1) args b.0 (omega arith) b.1 b.2))

  args_spelled : (room : ℕ) (es : AstExprsTree) (ts : List Tok) → ast_exprs_depth es ≤ room → AreTokens ts → args_form es ts → are_args room es ≡ true
  args_spelled room no_values ts d ok h = absurd h
  args_spelled room (more_values e rest) ts d ok h =
      let a = parts_of _ _ ts ok h in
      and_true (is_expr room e) (are_exprs room rest) (expr_spelled room e a.front (omega arith) a.front_ok a.front_is) (more_spelled room rest a.back (omega arith) a.back_ok a.back_is)

  more_spelled : (room : ℕ) (es : AstExprsTree) (ts : List Tok) → ast_exprs_depth es ≤ room → AreTokens ts → more_form es ts → are_exprs room es ≡ true
  more_spelled room no_values ts d ok h = refl
  more_spelled room (more_values e rest) ts d ok h =
      let c = parts_of _ _ ts ok h in
      let a = parts_of _ _ c.back c.back_ok c.back_is in
      and_true (is_expr room e) (are_exprs room rest) (expr_spelled room e a.front (omega arith) a.front_ok a.front_is) (more_spelled room rest a.back (omega arith) a.back_ok a.back_is)

value_spelled : (e : AstExprTree) (ts : List Tok) → AreTokens ts → value_form e ts → is_expr 32 e ≡ true
value_spelled e ts ok h = expr_spelled 32 e ts h.0 ok h.1

more_values_spelled : (es : AstExprsTree) (ts : List Tok) → AreTokens ts → more_values_form es ts → are_exprs 32 es ≡ true
more_values_spelled no_values ts ok h = refl
more_values_spelled (more_values e rest) ts ok h =
    let c = parts_of _ _ ts ok h in
    let a = parts_of _ _ c.back c.back_ok c.back_is in
    and_true (is_expr 32 e) (are_exprs 32 rest) (value_spelled e a.front a.front_ok a.front_is) (more_values_spelled rest a.back a.back_ok a.back_is)

values_spelled : (es : AstExprsTree) (ts : List Tok) → AreTokens ts → values_form es ts → are_exprs 32 es ≡ true
values_spelled no_values ts ok h = refl
values_spelled (more_values e rest) ts ok h =
    let a = parts_of _ _ ts ok h in
    and_true (is_expr 32 e) (are_exprs 32 rest) (value_spelled e a.front a.front_ok a.front_is) (more_values_spelled rest a.back a.back_ok a.back_is)

-- statements
mutual
  stmt_spelled : (room : ℕ) (s : AstStmtTree) (ts : List Tok) → ast_stmt_depth s ≤ room → AreTokens ts → stmt_form s ts → is_stmt room s ≡ true
  stmt_spelled room (let_local w e) ts d ok h =
      let a = parts_of _ _ ts ok h in
      let b = parts_of _ _ a.back a.back_ok a.back_is in
      let c = parts_of _ _ b.back b.back_ok b.back_is in
      and_true (is_name w.text) (is_expr 32 e) (name_spelled w b.front b.front_ok b.front_is) (value_spelled e c.back c.back_ok c.back_is)
  stmt_spelled room (assign w e) ts d ok h =
      let b = parts_of _ _ ts ok h in
      let c = parts_of _ _ b.back b.back_ok b.back_is in
      and_true (is_name w.text) (is_expr 32 e) (name_spelled w b.front b.front_ok b.front_is) (value_spelled e c.back c.back_ok c.back_is)
  stmt_spelled room (send_on w es) ts d ok h =
      let a = parts_of _ _ ts ok h in
      let b = parts_of _ _ a.back a.back_ok a.back_is in
      let c = inside_of _ _ _ b.back b.back_ok b.back_is in
      and_true (is_name w.text) (are_exprs 32 es) (name_spelled w b.front b.front_ok b.front_is) (values_spelled es c.0 c.1 c.2)
  stmt_spelled room (when_only e first) ts d ok h =
      let a = parts_of _ _ ts ok h in
      let b = parts_of _ _ a.back a.back_ok a.back_is in
      let c = inside_of _ _ _ b.back b.back_ok b.back_is in
      and_true (is_expr 32 e) (nat_lt 0 room && are_stmts (room - 1) first) (value_spelled e b.front b.front_ok b.front_is)
      (and_true (nat_lt 0 room) (are_stmts (room - 1) first) (lt_true 0 room (omega arith)) (stmts_spelled (room - 1) first c.0 (omega arith) c.1 c.2))
  stmt_spelled room (when_else e first second) ts d ok h =
      let a = parts_of _ _ ts ok h in
      let b = parts_of _ _ a.back a.back_ok a.back_is in
      let c = parts_of _ _ b.back b.back_ok b.back_is in
      let i = inside_of _ _ _ c.front c.front_ok c.front_is in
      let k = parts_of _ _ c.back c.back_ok c.back_is in
      let j = inside_of _ _ _ k.back k.back_ok k.back_is in
      and_true (is_expr 32 e) (nat_lt 0 room && (are_stmts (room - 1) first && are_stmts (room - 1) second)) (value_spelled e b.front b.front_ok b.front_is)
      (and_true (nat_lt 0 room) (are_stmts (room - 1) first && are_stmts (room - 1) second) (lt_true 0 room (omega arith))
      (and_true (are_stmts (room - 1) first) (are_stmts (room - 1) second) (stmts_spelled (room - 1) first i.0 (omega arith) i.1 i.2) (stmts_spelled (room - 1) second j.0 (omega arith) j.1 j.2)))
  stmt_spelled room (turns e most body) ts d ok h =
      let a = parts_of _ _ ts ok h in
      let b = parts_of _ _ a.back a.back_ok a.back_is in
      let m = parts_of _ _ b.back b.back_ok b.back_is in
      let n = parts_of _ _ m.back m.back_ok m.back_is in
      let c = inside_of _ _ _ n.back n.back_ok n.back_is in
      and_true (is_expr 32 e) (is_count most.value && (nat_lt 0 room && are_stmts (room - 1) body)) (value_spelled e b.front b.front_ok b.front_is)
      (and_true (is_count most.value) (nat_lt 0 room && are_stmts (room - 1) body) (count_spelled most n.front n.front_ok n.front_is)
      (and_true (nat_lt 0 room) (are_stmts (room - 1) body) (lt_true 0 room (omega arith)) (stmts_spelled (room - 1) body c.0 (omega arith) c.1 c.2)))

  stmts_spelled : (room : ℕ) (b : AstBlockTree) (ts : List Tok) → ast_block_depth b ≤ room → AreTokens ts → stmts_form b ts → are_stmts room b ≡ true
  stmts_spelled room no_stmts ts d ok h = refl
  stmts_spelled room (more_stmts s rest) ts d ok h =
      let a = parts_of _ _ ts ok h in
      and_true (is_stmt room s) (are_stmts room rest) (stmt_spelled room s a.front (omega arith) a.front_ok a.front_is) (stmts_spelled room rest a.back (omega arith) a.back_ok a.back_is)

-- lists
each_spelled : {X : Type 0} (f : X → Form) (test : X → Bool) → ((x : X) (ts : List Tok) → AreTokens ts → f x ts → test x ≡ true) → (xs : List X) (ts : List Tok) → AreTokens ts → each f xs ts → list_all test xs ≡ true
each_spelled f test one [] ts ok h = refl
each_spelled f test one (x ∷ xs) ts ok h =
    let a = parts_of (f x) (each f xs) ts ok h in
    and_true (test x) (list_all test xs) (one x a.front a.front_ok a.front_is) (each_spelled f test one xs a.back a.back_ok a.back_is)

next_spelled : (w : Word) (ts : List Tok) → AreTokens ts → (symbol Comma ▹ named w) ts → is_param w ≡ true
next_spelled w ts ok h =
    let a = parts_of _ (named w) ts ok h in
    name_spelled w a.back a.back_ok a.back_is

params_spelled : (ws : List Word) (ts : List Tok) → AreTokens ts → listed named ws ts → list_all is_param ws ≡ true
params_spelled [] ts ok h = refl
params_spelled (w ∷ ws) ts ok h =
    let a = parts_of (named w) (each (λ (y : Word). symbol Comma ▹ named y) ws) ts ok h in
    and_true (is_param w) (list_all is_param ws) (name_spelled w a.front a.front_ok a.front_is) (each_spelled (λ (y : Word). symbol Comma ▹ named y) is_param next_spelled ws a.back a.back_ok a.back_is)

path_spelled : (p : Path) (ts : List Tok) → AreTokens ts → path_form p ts → is_path p ≡ true
path_spelled p ts ok h =
    let a = parts_of _ _ ts ok h in
    let b = parts_of _ _ a.back a.back_ok a.back_is in
    let c = parts_of _ _ b.back b.back_ok b.back_is in
    let d = parts_of _ _ c.back c.back_ok c.back_is in
    and_true (is_name p.process.text) (is_name p.port.text && is_name p.out.text) (name_spelled p.process a.front a.front_ok a.front_is)
    (and_true (is_name p.port.text) (is_name p.out.text) (name_spelled p.port c.front c.front_ok c.front_is) (name_spelled p.out d.back d.back_ok d.back_is))

source_spelled : (s : Source) (ts : List Tok) → AreTokens ts → source_form s ts → is_source s ≡ true
source_spelled (Input w) ts ok h = name_spelled w ts ok h
source_spelled (Out p) ts ok h = path_spelled p ts ok h

every_spelled : (m : Option Num) (ts : List Tok) → AreTokens ts → every_form m ts → is_every m ≡ true
every_spelled None ts ok h = refl
every_spelled (Some m) ts ok h =
    let a = parts_of _ _ ts ok h in
    count_spelled m a.back a.back_ok a.back_is

out_spelled : (o : OutDecl) (ts : List Tok) → AreTokens ts → out_form o ts → is_out o ≡ true
out_spelled o ts ok h =
    let a = parts_of _ _ ts ok h in
    let b = parts_of _ _ a.back a.back_ok a.back_is in
    let c = parts_of _ _ b.back b.back_ok b.back_is in
    let w = inside_of _ _ _ c.front c.front_ok c.front_is in
    and_true (is_name o.name.text) (is_count o.width.value && is_every o.every) (name_spelled o.name b.front b.front_ok b.front_is)
    (and_true (is_count o.width.value) (is_every o.every) (count_spelled o.width w.0 w.1 w.2) (every_spelled o.every c.back c.back_ok c.back_is))

plus_start : (n : ℤ) → IsLexeme (digits n) → is_start n ≡ true
plus_start (pos n) h = lt_true n (2 ^ 63) h
plus_start (negsuc n) h = absurd h

minus_start : (n m : ℤ) → n ≡ neg_ℤ m → IsLexeme (digits m) → is_start n ≡ true
minus_start n (pos zero) e h = rw e refl
minus_start n (pos (suc m)) e h = rw e (lt_true (suc m) (2 ^ 63) h)
minus_start n (negsuc m) e h = absurd h

start_spelled : (n : ℤ) (ts : List Tok) → AreTokens ts → start_form n ts → is_start n ≡ true
start_spelled n ts ok (inl h) = plus_start n (says_ok (digits n) ts ok h)
start_spelled n ts ok (inr h) =
    let a = parts_of _ _ ts ok h.2 in
    minus_start n h.0 h.1 (says_ok (digits h.0) a.back a.back_ok a.back_is)

var_spelled : (v : VarDecl) (ts : List Tok) → AreTokens ts → var_form v ts → is_var v ≡ true
var_spelled v ts ok h =
    let a = parts_of _ _ ts ok h in
    let b = parts_of _ _ a.back a.back_ok a.back_is in
    let c = parts_of _ _ b.back b.back_ok b.back_is in
    and_true (is_name v.name.text) (is_start v.start) (name_spelled v.name b.front b.front_ok b.front_is) (start_spelled v.start c.back c.back_ok c.back_is)

body_spelled : (b : AstBlockTree) (ts : List Tok) → AreTokens ts → body_form b ts → are_stmts 7 b ≡ true
body_spelled b ts ok h =
    let depth = h.0 in
    let i = inside_of _ _ _ ts ok h.1 in
    stmts_spelled 7 b i.0 (omega arith) i.1 i.2

port_spelled : (p : PortDeclTree) (ts : List Tok) → AreTokens ts → port_form p ts → is_port p ≡ true
port_spelled p ts ok h =
    let a = parts_of _ _ ts ok h in
    let b = parts_of _ _ a.back a.back_ok a.back_is in
    let c = parts_of _ _ b.back b.back_ok b.back_is in
    let d = parts_of _ _ c.back c.back_ok c.back_is in
    let e = parts_of _ _ d.back d.back_ok d.back_is in
    let i = inside_of _ _ _ e.front e.front_ok e.front_is in
    let f = parts_of _ _ e.back e.back_ok e.back_is in
    and_true (is_name p.name.text) (is_source p.source && (list_all is_param p.params && (list_all is_out p.outs && are_stmts 7 p.body))) (name_spelled p.name b.front b.front_ok b.front_is)
    (and_true (is_source p.source) (list_all is_param p.params && (list_all is_out p.outs && are_stmts 7 p.body)) (source_spelled p.source d.front d.front_ok d.front_is)
    (and_true (list_all is_param p.params) (list_all is_out p.outs && are_stmts 7 p.body) (params_spelled p.params i.0 i.1 i.2)
    (and_true (list_all is_out p.outs) (are_stmts 7 p.body) (each_spelled out_form is_out out_spelled p.outs f.front f.front_ok f.front_is) (body_spelled p.body f.back f.back_ok f.back_is))))

inside_spelled : (w : Option Word) (ts : List Tok) → AreTokens ts → inside_form w ts → is_inside w ≡ true
inside_spelled None ts ok h = refl
inside_spelled (Some w) ts ok h =
    let a = parts_of _ _ ts ok h in
    name_spelled w a.back a.back_ok a.back_is

item_spelled : (i : ItemTree) (ts : List Tok) → AreTokens ts → item_form i ts → is_item i ≡ true
item_spelled (input i) ts ok h =
    let a = parts_of _ _ ts ok h in
    let b = parts_of _ _ a.back a.back_ok a.back_is in
    let c = parts_of _ _ b.back b.back_ok b.back_is in
    let w = inside_of _ _ _ c.front c.front_ok c.front_is in
    let d = parts_of _ _ c.back c.back_ok c.back_is in
    and_true (is_name i.name.text) (is_count i.width.value && is_count i.period.value) (name_spelled i.name b.front b.front_ok b.front_is)
    (and_true (is_count i.width.value) (is_count i.period.value) (count_spelled i.width w.0 w.1 w.2) (count_spelled i.period d.back d.back_ok d.back_is))
item_spelled (output o) ts ok h =
    let a = parts_of _ _ ts ok h in
    let b = parts_of _ _ a.back a.back_ok a.back_is in
    let c = parts_of _ _ b.back b.back_ok b.back_is in
    and_true (is_name o.name.text) (is_path o.path) (name_spelled o.name b.front b.front_ok b.front_is) (path_spelled o.path c.back c.back_ok c.back_is)
item_spelled (resource r) ts ok h =
    let a = parts_of _ _ ts ok h in
    name_spelled r.name a.back a.back_ok a.back_is
item_spelled (process p) ts ok h =
    let a = parts_of _ _ ts ok h in
    let b = parts_of _ _ a.back a.back_ok a.back_is in
    let c = parts_of _ _ b.back b.back_ok b.back_is in
    let i = inside_of _ _ _ c.back c.back_ok c.back_is in
    let d = parts_of _ _ i.0 i.1 i.2 in
    and_true (is_name p.name.text) (is_inside p.inside && (list_all is_var p.vars && list_all is_port p.ports)) (name_spelled p.name b.front b.front_ok b.front_is)
    (and_true (is_inside p.inside) (list_all is_var p.vars && list_all is_port p.ports) (inside_spelled p.inside c.front c.front_ok c.front_is)
    (and_true (list_all is_var p.vars) (list_all is_port p.ports) (each_spelled var_form is_var var_spelled p.vars d.front d.front_ok d.front_is) (each_spelled port_form is_port port_spelled p.ports d.back d.back_ok d.back_is)))

pub spelled_writable : (items : List ItemTree) (ts : List Tok) → Spells ts items → is_writable items ≡ true
spelled_writable items ts h = each_spelled item_form is_item item_spelled items ts h.0 h.1
