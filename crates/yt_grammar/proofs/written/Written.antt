-- A tree that can be written is spelled by some tokens.
use Rattle.std.proofs.Common.{ℕ, ◌-◌, ◌≡◌, ◌≤◌, List, [], ◌∷◌, ◌++◌, Bool, true, ℤ, pos, negsuc, suc, Option, None, Some, refl, inl, inr, arith}
use Rattle.std.proofs.lemmas.Bool.Decides.{nat_tests}
use Rattle.std.specs.Prelude.{nat_le}
use Rattle.std.specs.List.{list_all}
use Rattle.yt_graph.specs.declared.expr.Op2.{Op2}
use Rattle.yt_graph.specs.declared.expr.Op2.TheVariants.{Or, And, Lt, Le, Gt, Ge, Eq, Ne, Add, Sub, Mul, Div, Rem}
use Rattle.yt_graph.specs.declared.ast.Word.{Word}
use Rattle.yt_graph.specs.declared.ast.Num.{Num}
use Rattle.yt_graph.specs.declared.ast.Path.{Path}
use Rattle.yt_graph.specs.declared.ast.Source.{Source}
use Rattle.yt_graph.specs.declared.ast.Source.TheVariants.{Input, Out}
use Rattle.yt_graph.specs.declared.ast.VarDecl.{VarDecl}
use Rattle.yt_graph.specs.declared.ast.OutDecl.{OutDecl}
use Rattle.yt_graph.specs.AstPicture.{AstExprTree, number, name, minus, negation, two_sides, paren, call_of, AstExprsTree, no_values, more_values, AstStmtTree, let_local, assign, send_on, when_only, when_else, turns, AstBlockTree, no_stmts, more_stmts, PortDeclTree, ItemTree, input, output, resource, process}
use Rattle.yt_graph.specs.AstWellFormed.{ast_block_depth}
use Rattle.yt_grammar.specs.declared.sign.Keyword.{Keyword}
use Rattle.yt_grammar.specs.declared.sign.Keyword.TheVariants as keys
use Rattle.yt_grammar.specs.declared.sign.Mark.{Mark}
use Rattle.yt_grammar.specs.declared.sign.Mark.TheVariants.{LeftBrace, RightBrace, LeftParen, RightParen, Comma, Dot, Assign, Minus}
use Rattle.yt_grammar.specs.Lexemes.{Lexeme, word, key, mark, digits, Tok, IsLexeme, AreTokens}
use Rattle.yt_grammar.specs.Forms.{Form, ◌▹◌, nothing, says, keyword, symbol, named, counted, each, listed, parens, braces}
use Rattle.yt_grammar.specs.Grammar.{op_lexeme, rank_of, left_rank, right_rank, within, expr_form, args_form, more_form, value_form, more_values_form, values_form, stmt_form, stmts_form, body_form, path_form, source_form, every_form, out_form, start_form, var_form, port_form, inside_form, item_form}
use Rattle.yt_grammar.specs.SamePlaces.{start, IsWritten}
use Rattle.yt_graph.specs.Names.{is_name}
use Rattle.yt_grammar.specs.Writable.{is_count, is_start, is_expr, are_args, are_exprs, is_stmt, are_stmts, is_path, is_source, is_every, is_out, is_var, is_param, is_port, is_inside, is_item, is_writable}
use Rattle.yt_grammar.proofs.written.Tests.{both}
use Rattle.yt_grammar.proofs.written.Depths.{expr_within, stmts_within}

-- some tokens are of this form
pub record Some_of (p : Form) : Type 0 where
  pub toks : List Tok
  pub ok : AreTokens toks
  pub is : p toks

tokens_join : (a b : List Tok) → AreTokens a → AreTokens b → AreTokens (a ++ b)
tokens_join [] b h k = k
tokens_join (t ∷ ts) b h k = (h.0, tokens_join ts b h.1 k)

then_some : {p q : Form} → Some_of p → Some_of q → Some_of (p ▹ q)
then_some a b = record { toks = a.toks ++ b.toks; ok = tokens_join a.toks b.toks a.ok b.ok; is = (a.toks, b.toks, refl, a.is, b.is) }

say_some : (l : Lexeme) → IsLexeme l → Some_of (says l)
say_some l h =
    let t : Tok = record { says = l; place = start } in
    record { toks = t ∷ []; ok = (h, tt); is = (t, refl, refl) }

key_some : (k : Keyword) → Some_of (keyword k)
key_some k = say_some (key k) tt

mark_some : (m : Mark) → Some_of (symbol m)
mark_some m = say_some (mark m) tt

-- what the tests mean
le_from : (m n : ℕ) → nat_le m n ≡ true → m ≤ n
le_from m n h = grind (arith, nat_tests)

pub count_from : (n : ℤ) → is_count n ≡ true → IsLexeme (digits n)
count_from (pos n) h = grind (arith, nat_tests)
count_from (negsuc n) h = absurd (cc)

pub op_ok : (op : Op2) → IsLexeme (op_lexeme op)
op_ok Or = tt
op_ok And = tt
op_ok Lt = tt
op_ok Le = tt
op_ok Gt = tt
op_ok Ge = tt
op_ok Eq = tt
op_ok Ne = tt
op_ok Add = tt
op_ok Sub = tt
op_ok Mul = tt
op_ok Div = tt
op_ok Rem = tt

name_some : (w : Word) → is_name w.text ≡ true → Some_of (named w)
name_some w h = record { toks = (record { says = word w.text; place = w.place }) ∷ []; ok = (h, tt); is = refl }

count_some : (n : Num) → is_count n.value ≡ true → Some_of (counted n)
count_some n h = record { toks = (record { says = digits n.value; place = n.place }) ∷ []; ok = (count_from n.value h, tt); is = refl }

parens_some : {p : Form} → Some_of p → Some_of (parens p)
parens_some a = then_some (mark_some LeftParen) (then_some a (mark_some RightParen))

braces_some : {p : Form} → Some_of p → Some_of (braces p)
braces_some a = then_some (mark_some LeftBrace) (then_some a (mark_some RightBrace))

none_some : Some_of nothing
none_some = record { toks = []; ok = tt; is = refl }

within_some : (rank : ℕ) (e : AstExprTree) → nat_le (rank_of e) rank ≡ true → Some_of (expr_form e) → Some_of (within rank e (expr_form e))
within_some rank e h a = record { toks = a.toks; ok = a.ok; is = (le_from (rank_of e) rank h, a.is) }

-- expressions
mutual
  expr_some : (room : ℕ) (e : AstExprTree) → is_expr room e ≡ true → Some_of (expr_form e)
  expr_some room (number n) h = say_some (digits n) (count_from n (both _ _ h).1)
  expr_some room (name w) h = name_some w (both _ _ h).1
  expr_some room (minus e) h =
      let a = both _ _ (both _ _ h).1 in
      then_some (mark_some Minus) (within_some 1 e a.0 (expr_some (room - 1) e a.1))
  expr_some room (negation e) h =
      let a = both _ _ (both _ _ h).1 in
      then_some (key_some keys.Not) (within_some 5 e a.0 (expr_some (room - 1) e a.1))
  expr_some room (two_sides op l r) h =
      let a = both _ _ (both _ _ h).1 in
      let b = both _ _ a.0 in
      let c = both _ _ a.1 in
      then_some (within_some (left_rank op) l b.0 (expr_some (room - 1) l b.1)) (then_some (say_some (op_lexeme op) (op_ok op)) (within_some (right_rank op) r c.0 (expr_some (room - 1) r c.1)))
  expr_some room (paren e) h = parens_some (expr_some (room - 1) e (both _ _ h).1)
  expr_some room (call_of w args) h =
      let a = both _ _ (both _ _ h).1 in
      then_some (name_some w a.0) (parens_some (args_some (room - 1) args a.1))

  args_some : (room : ℕ) (es : AstExprsTree) → are_args room es ≡ true → Some_of (args_form es)
  args_some room no_values h = absurd (cc)
  args_some room (more_values e rest) h =
      let a = both _ _ h in
      then_some (expr_some room e a.0) (more_some room rest a.1)

  more_some : (room : ℕ) (es : AstExprsTree) → are_exprs room es ≡ true → Some_of (more_form es)
  more_some room no_values h = none_some
  more_some room (more_values e rest) h =
      let a = both _ _ h in
      then_some (mark_some Comma) (then_some (expr_some room e a.0) (more_some room rest a.1))

value_some : (e : AstExprTree) → is_expr 32 e ≡ true → Some_of (value_form e)
value_some e h =
    let a = expr_some 32 e h in
    record { toks = a.toks; ok = a.ok; is = (expr_within 32 e h, a.is) }

more_values_some : (es : AstExprsTree) → are_exprs 32 es ≡ true → Some_of (more_values_form es)
more_values_some no_values h = none_some
more_values_some (more_values e rest) h =
    let a = both _ _ h in
    then_some (mark_some Comma) (then_some (value_some e a.0) (more_values_some rest a.1))

values_some : (es : AstExprsTree) → are_exprs 32 es ≡ true → Some_of (values_form es)
values_some no_values h = none_some
values_some (more_values e rest) h =
    let a = both _ _ h in
    then_some (value_some e a.0) (more_values_some rest a.1)

-- statements
mutual
  stmt_some : (room : ℕ) (s : AstStmtTree) → is_stmt room s ≡ true → Some_of (stmt_form s)
  stmt_some room (let_local w e) h =
      let a = both _ _ h in
      then_some (key_some keys.Let) (then_some (name_some w a.0) (then_some (mark_some Assign) (value_some e a.1)))
  stmt_some room (assign w e) h =
      let a = both _ _ h in
      then_some (name_some w a.0) (then_some (mark_some Assign) (value_some e a.1))
  stmt_some room (send_on w es) h =
      let a = both _ _ h in
      then_some (key_some keys.Send) (then_some (name_some w a.0) (parens_some (values_some es a.1)))
  stmt_some room (when_only e first) h =
      let a = both _ _ h in
      then_some (key_some keys.If) (then_some (value_some e a.0) (braces_some (stmts_some (room - 1) first (both _ _ a.1).1)))
  stmt_some room (when_else e first second) h =
      let a = both _ _ h in
      let b = both _ _ (both _ _ a.1).1 in
      then_some (key_some keys.If) (then_some (value_some e a.0)
      (then_some (braces_some (stmts_some (room - 1) first b.0)) (then_some (key_some keys.Else) (braces_some (stmts_some (room - 1) second b.1)))))
  stmt_some room (turns e most body) h =
      let a = both _ _ h in
      let b = both _ _ a.1 in
      then_some (key_some keys.Repeat) (then_some (value_some e a.0)
      (then_some (key_some keys.Max) (then_some (count_some most b.0) (braces_some (stmts_some (room - 1) body (both _ _ b.1).1)))))

  stmts_some : (room : ℕ) (b : AstBlockTree) → are_stmts room b ≡ true → Some_of (stmts_form b)
  stmts_some room no_stmts h = none_some
  stmts_some room (more_stmts s rest) h =
      let a = both _ _ h in
      then_some (stmt_some room s a.0) (stmts_some room rest a.1)

-- lists
each_some : {X : Type 0} (f : X → Form) (test : X → Bool) → ((x : X) → test x ≡ true → Some_of (f x)) → (xs : List X) → list_all test xs ≡ true → Some_of (each f xs)
each_some f test one [] h = none_some
each_some f test one (x ∷ xs) h =
    let a = both (test x) (list_all test xs) h in
    then_some (one x a.0) (each_some f test one xs a.1)

next_some : (w : Word) → is_param w ≡ true → Some_of (symbol Comma ▹ named w)
next_some w h = then_some (mark_some Comma) (name_some w h)

params_some : (ws : List Word) → list_all is_param ws ≡ true → Some_of (listed named ws)
params_some [] h = none_some
params_some (w ∷ ws) h =
    let a = both (is_param w) (list_all is_param ws) h in
    then_some (name_some w a.0) (each_some (λ (y : Word). symbol Comma ▹ named y) is_param next_some ws a.1)

path_some : (p : Path) → is_path p ≡ true → Some_of (path_form p)
path_some p h =
    let a = both _ _ h in
    let b = both _ _ a.1 in
    then_some (name_some p.process a.0) (then_some (mark_some Dot) (then_some (name_some p.port b.0) (then_some (mark_some Dot) (name_some p.out b.1))))

source_some : (s : Source) → is_source s ≡ true → Some_of (source_form s)
source_some (Input w) h = name_some w h
source_some (Out p) h = path_some p h

every_some : (m : Option Num) → is_every m ≡ true → Some_of (every_form m)
every_some None h = none_some
every_some (Some m) h = then_some (key_some keys.Every) (count_some m h)

out_some : (o : OutDecl) → is_out o ≡ true → Some_of (out_form o)
out_some o h =
    let a = both _ _ h in
    let b = both _ _ a.1 in
    then_some (key_some keys.Out) (then_some (name_some o.name a.0) (then_some (parens_some (count_some o.width b.0)) (every_some o.every b.1)))

start_some : (n : ℤ) → is_start n ≡ true → Some_of (start_form n)
start_some (pos n) h =
    let a = say_some (digits (pos n)) (count_from (pos n) h) in
    record { toks = a.toks; ok = a.ok; is = inl a.is }
start_some (negsuc n) h =
    let a = then_some (mark_some Minus) (say_some (digits (pos (suc n))) (count_from (pos (suc n)) h)) in
    record { toks = a.toks; ok = a.ok; is = inr (pos (suc n), refl, a.is) }

var_some : (v : VarDecl) → is_var v ≡ true → Some_of (var_form v)
var_some v h =
    let a = both _ _ h in
    then_some (key_some keys.Var) (then_some (name_some v.name a.0) (then_some (mark_some Assign) (start_some v.start a.1)))

body_some : (b : AstBlockTree) → are_stmts 7 b ≡ true → Some_of (body_form b)
body_some b h =
    let a = braces_some (stmts_some 7 b h) in
    let depth : ast_block_depth b ≤ 7 = stmts_within 7 b h in
    record { toks = a.toks; ok = a.ok; is = (omega arith, a.is) }

port_some : (p : PortDeclTree) → is_port p ≡ true → Some_of (port_form p)
port_some p h =
    let a = both _ _ h in
    let b = both _ _ a.1 in
    let c = both _ _ b.1 in
    let d = both _ _ c.1 in
    then_some (key_some keys.Port) (then_some (name_some p.name a.0) (then_some (key_some keys.From) (then_some (source_some p.source b.0)
    (then_some (parens_some (params_some p.params c.0)) (then_some (each_some out_form is_out out_some p.outs d.0) (body_some p.body d.1))))))

inside_some : (w : Option Word) → is_inside w ≡ true → Some_of (inside_form w)
inside_some None h = none_some
inside_some (Some w) h = then_some (key_some keys.In) (name_some w h)

item_some : (i : ItemTree) → is_item i ≡ true → Some_of (item_form i)
item_some (input i) h =
    let a = both _ _ h in
    let b = both _ _ a.1 in
    then_some (key_some keys.Input) (then_some (name_some i.name a.0) (then_some (parens_some (count_some i.width b.0)) (then_some (key_some keys.Period) (count_some i.period b.1))))
item_some (output o) h =
    let a = both _ _ h in
    then_some (key_some keys.Output) (then_some (name_some o.name a.0) (then_some (key_some keys.From) (path_some o.path a.1)))
item_some (resource r) h = then_some (key_some keys.Resource) (name_some r.name h)
item_some (process p) h =
    let a = both _ _ h in
    let b = both _ _ a.1 in
    let c = both _ _ b.1 in
    then_some (key_some keys.Process) (then_some (name_some p.name a.0) (then_some (inside_some p.inside b.0)
    (braces_some (then_some (each_some var_form is_var var_some p.vars c.0) (each_some port_form is_port port_some p.ports c.1)))))

pub writable_written : (items : List ItemTree) → is_writable items ≡ true → IsWritten items
writable_written items h =
    let a = each_some item_form is_item item_some items h in
    (a.toks, (a.ok, a.is))
