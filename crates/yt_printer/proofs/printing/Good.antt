-- The layout of a tree that can be written keeps its tokens apart, and each of them can stand in a text.
use Rattle.std.proofs.Common.{ℕ, ◌+◌, ◌-◌, ◌≡◌, List, [], ◌∷◌, ◌++◌, Bool, true, ℤ, pos, negsuc, suc, Option, None, Some, refl, sym, subst, append_assoc, append-nil}
use Rattle.std.specs.List.{list_all, flat_map}
use Rattle.yt_graph.specs.declared.expr.Op2.{Op2}
use Rattle.yt_graph.specs.declared.expr.Op2.TheVariants.{Or, And, Lt, Le, Gt, Ge, Eq, Ne, Add, Sub, Mul, Div, Rem}
use Rattle.yt_graph.specs.declared.ast.Word.{Word}
use Rattle.yt_graph.specs.declared.ast.Num.{Num}
use Rattle.yt_graph.specs.declared.ast.Path.{Path}
use Rattle.yt_graph.specs.declared.ast.Source.{Source}
use Rattle.yt_graph.specs.declared.ast.Source.TheVariants.{Input, Out}
use Rattle.yt_graph.specs.declared.ast.VarDecl.{VarDecl}
use Rattle.yt_graph.specs.declared.ast.OutDecl.{OutDecl}
use Rattle.yt_graph.specs.AstPicture.{AstExprTree, number, name, minus, negation, two_sides, paren, call_of, AstExprsTree, no_values, more_values, AstStmtTree, let_local, assign, send_on, when_only, when_else, turns, AstBlockTree, no_stmts, more_stmts, PortDeclTree, ItemTree, input, output, resource, process}
use Rattle.yt_grammar.specs.declared.sign.Keyword.TheVariants as keys
use Rattle.yt_grammar.specs.declared.sign.Mark.TheVariants.{LeftBrace, RightBrace, LeftParen, RightParen, Comma, Dot, Assign, Minus}
use Rattle.yt_grammar.specs.Lexemes.{Lexeme, word, key, mark, digits, IsLexeme}
use Rattle.yt_grammar.specs.Grammar.{op_lexeme}
use Rattle.yt_graph.specs.Names.{is_name}
use Rattle.yt_grammar.specs.Writable.{is_count, is_start, is_expr, are_args, are_exprs, is_stmt, are_stmts, is_path, is_source, is_every, is_out, is_var, is_param, is_port, is_inside, is_item, is_writable}
use Rattle.yt_grammar.specs.CanonicalText.{Piece, say, space, feed, indent, number_piece, expr_layout, exprs_layout, more_layout, braced, stmt_layout, stmts_layout, path_layout, source_layout, next_param_layout, params_layout, every_layout, out_layout, start_layout, var_layout, port_layout, inside_layout, item_layout, layout_of}
use Rattle.yt_printer.proofs.printing.Layouts.{lexemes_in, AreLexemes, is_free, keeps, is_apart}
use Rattle.yt_grammar.proofs.Lemmas.{both}
use Rattle.yt_grammar.proofs.Lemmas.{count_from, op_ok}

-- the tokens are kept apart and can stand in a text
pub record IsGood (ps : List Piece) : Type 0 where
  pub apart : is_apart ps ≡ true
  pub can : AreLexemes (lexemes_in ps)

none_good : IsGood []
none_good = record { apart = refl; can = tt }

say_good : (l : Lexeme) (ps : List Piece) → IsLexeme l → keeps l ps ≡ true → IsGood ps → IsGood (say l ∷ ps)
say_good l ps ok keep h = record { apart = rw keep h.apart; can = (ok, h.can) }

space_good : (ps : List Piece) → IsGood ps → IsGood (space ∷ ps)
space_good ps h = record { apart = h.apart; can = h.can }

feed_good : (ps : List Piece) → IsGood ps → IsGood (feed ∷ ps)
feed_good ps h = record { apart = h.apart; can = h.can }

indent_good : (n : ℕ) (ps : List Piece) → IsGood ps → IsGood (indent n ∷ ps)
indent_good n ps h = record { apart = h.apart; can = h.can }

-- a reserved word, a name and a number in front of a space, a line feed or a symbol
word_good : (w : List ℕ) (ps : List Piece) → is_name w ≡ true → is_free ps ≡ true → IsGood ps → IsGood (say (word w) ∷ ps)
word_good w ps h free good = say_good (word w) ps h free good

digits_good : (n : ℤ) (ps : List Piece) → is_count n ≡ true → is_free ps ≡ true → IsGood ps → IsGood (say (digits n) ∷ ps)
digits_good n ps h free good = say_good (digits n) ps (count_from n h) free good

-- an operator in front of a space
op_keeps : (op : Op2) (ps : List Piece) → keeps (op_lexeme op) (space ∷ ps) ≡ true
op_keeps Or ps = refl
op_keeps And ps = refl
op_keeps Lt ps = refl
op_keeps Le ps = refl
op_keeps Gt ps = refl
op_keeps Ge ps = refl
op_keeps Eq ps = refl
op_keeps Ne ps = refl
op_keeps Add ps = refl
op_keeps Sub ps = refl
op_keeps Mul ps = refl
op_keeps Div ps = refl
op_keeps Rem ps = refl

-- brackets moved to the right
onto : (a b ps : List Piece) → IsGood (a ++ (b ++ ps)) → IsGood (a ++ b ++ ps)
onto a b ps h = rw append_assoc h

pub assoc3 : (a b c ps : List Piece) → a ++ b ++ c ++ ps ≡ a ++ (b ++ (c ++ ps))
assoc3 a b c ps = simp append_assoc

pub assoc4 : (a b c d ps : List Piece) → a ++ b ++ c ++ d ++ ps ≡ a ++ (b ++ (c ++ (d ++ ps)))
assoc4 a b c d ps = simp append_assoc

pub assoc6 : (a b c d e f ps : List Piece) → a ++ b ++ c ++ d ++ e ++ f ++ ps ≡ a ++ (b ++ (c ++ (d ++ (e ++ (f ++ ps)))))
assoc6 a b c d e f ps = simp append_assoc

more_free : (es : AstExprsTree) (ps : List Piece) → is_free ps ≡ true → is_free (more_layout es ++ ps) ≡ true
more_free no_values ps h = h
more_free (more_values e rest) ps h = refl

-- expressions
mutual
  expr_good : (room : ℕ) (e : AstExprTree) (ps : List Piece) → is_expr room e ≡ true → is_free ps ≡ true → IsGood ps → IsGood (expr_layout e ++ ps)
  expr_good room (number n) ps h free good = digits_good n ps (both _ _ h).1 free good
  expr_good room (name w) ps h free good = word_good w.text ps (both _ _ h).1 free good
  expr_good room (minus e) ps h free good =
      let a = both _ _ (both _ _ h).1 in
      say_good (mark Minus) (expr_layout e ++ ps) tt refl (expr_good (room - 1) e ps a.1 free good)
  expr_good room (negation e) ps h free good =
      let a = both _ _ (both _ _ h).1 in
      say_good (key keys.Not) (space ∷ expr_layout e ++ ps) tt refl (space_good (expr_layout e ++ ps) (expr_good (room - 1) e ps a.1 free good))
  expr_good room (two_sides op l r) ps h free good =
      let a = both _ _ (both _ _ h).1 in
      let right = expr_good (room - 1) r ps (both _ _ a.1).1 free good in
      let mid = say_good (op_lexeme op) (space ∷ expr_layout r ++ ps) (op_ok op) (op_keeps op (expr_layout r ++ ps)) (space_good (expr_layout r ++ ps) right) in
      onto (expr_layout l) (space ∷ say (op_lexeme op) ∷ space ∷ expr_layout r) ps
      (expr_good (room - 1) l (space ∷ say (op_lexeme op) ∷ space ∷ expr_layout r ++ ps) (both _ _ a.0).1 refl (space_good (say (op_lexeme op) ∷ space ∷ expr_layout r ++ ps) mid))
  expr_good room (paren e) ps h free good =
      say_good (mark LeftParen) (expr_layout e ++ (say (mark RightParen) ∷ []) ++ ps) tt refl
      (onto (expr_layout e) (say (mark RightParen) ∷ []) ps (expr_good (room - 1) e (say (mark RightParen) ∷ ps) (both _ _ h).1 refl (say_good (mark RightParen) ps tt refl good)))
  expr_good room (call_of w args) ps h free good =
      let a = both _ _ (both _ _ h).1 in
      word_good w.text (say (mark LeftParen) ∷ exprs_layout args ++ (say (mark RightParen) ∷ []) ++ ps) a.0 refl
      (say_good (mark LeftParen) (exprs_layout args ++ (say (mark RightParen) ∷ []) ++ ps) tt refl
      (onto (exprs_layout args) (say (mark RightParen) ∷ []) ps (args_good (room - 1) args (say (mark RightParen) ∷ ps) a.1 refl (say_good (mark RightParen) ps tt refl good))))

  args_good : (room : ℕ) (es : AstExprsTree) (ps : List Piece) → are_args room es ≡ true → is_free ps ≡ true → IsGood ps → IsGood (exprs_layout es ++ ps)
  args_good room no_values ps h free good = absurd (cc)
  args_good room (more_values e rest) ps h free good =
      let a = both _ _ h in
      onto (expr_layout e) (more_layout rest) ps (expr_good room e (more_layout rest ++ ps) a.0 (more_free rest ps free) (more_good room rest ps a.1 free good))

  more_good : (room : ℕ) (es : AstExprsTree) (ps : List Piece) → are_exprs room es ≡ true → is_free ps ≡ true → IsGood ps → IsGood (more_layout es ++ ps)
  more_good room no_values ps h free good = good
  more_good room (more_values e rest) ps h free good =
      let a = both _ _ h in
      say_good (mark Comma) (space ∷ expr_layout e ++ more_layout rest ++ ps) tt refl (space_good (expr_layout e ++ more_layout rest ++ ps)
      (onto (expr_layout e) (more_layout rest) ps (expr_good room e (more_layout rest ++ ps) a.0 (more_free rest ps free) (more_good room rest ps a.1 free good))))

exprs_good : (es : AstExprsTree) (ps : List Piece) → are_exprs 32 es ≡ true → is_free ps ≡ true → IsGood ps → IsGood (exprs_layout es ++ ps)
exprs_good no_values ps h free good = good
exprs_good (more_values e rest) ps h free good =
    let a = both _ _ h in
    onto (expr_layout e) (more_layout rest) ps (expr_good 32 e (more_layout rest ++ ps) a.0 (more_free rest ps free) (more_good 32 rest ps a.1 free good))

-- lines in braces
braced_good : (n : ℕ) (lines ps : List Piece) → IsGood (lines ++ (indent n ∷ say (mark RightBrace) ∷ ps)) → IsGood (braced n lines ++ ps)
braced_good n lines ps h =
    say_good (mark LeftBrace) (feed ∷ (lines ++ (indent n ∷ say (mark RightBrace) ∷ []) ++ ps)) tt refl
    (feed_good (lines ++ (indent n ∷ say (mark RightBrace) ∷ []) ++ ps) (onto lines (indent n ∷ say (mark RightBrace) ∷ []) ps h))

close_good : (n : ℕ) (ps : List Piece) → IsGood ps → IsGood (indent n ∷ say (mark RightBrace) ∷ ps)
close_good n ps h = indent_good n (say (mark RightBrace) ∷ ps) (say_good (mark RightBrace) ps tt refl h)

-- a name, `=` and a value, and the end of the line
set_good : (w : List ℕ) (value ps : List Piece) → is_name w ≡ true → IsGood value → IsGood (say (word w) ∷ space ∷ say (mark Assign) ∷ space ∷ value)
set_good w value ps h good =
    word_good w (space ∷ say (mark Assign) ∷ space ∷ value) h refl (space_good (say (mark Assign) ∷ space ∷ value) (say_good (mark Assign) (space ∷ value) tt refl (space_good value good)))

value_good : (e : AstExprTree) (ps : List Piece) → is_expr 32 e ≡ true → IsGood ps → IsGood (expr_layout e ++ (feed ∷ []) ++ ps)
value_good e ps h good = onto (expr_layout e) (feed ∷ []) ps (expr_good 32 e (feed ∷ ps) h refl (feed_good ps good))

-- statements
mutual
  stmt_good : (room n : ℕ) (s : AstStmtTree) (ps : List Piece) → is_stmt room s ≡ true → IsGood ps → IsGood (stmt_layout n s ++ ps)
  stmt_good room n (let_local w e) ps h good =
      let a = both _ _ h in
      let value = expr_layout e ++ (feed ∷ []) ++ ps in
      let set = set_good w.text value ps a.0 (value_good e ps a.1 good) in
      indent_good n _ (say_good (key keys.Let) _ tt refl (space_good _ set))
  stmt_good room n (assign w e) ps h good =
      let a = both _ _ h in
      let value = expr_layout e ++ (feed ∷ []) ++ ps in
      indent_good n _ (set_good w.text value ps a.0 (value_good e ps a.1 good))
  stmt_good room n (send_on w es) ps h good =
      let a = both _ _ h in
      let end = say_good (mark RightParen) (feed ∷ ps) tt refl (feed_good ps good) in
      let values = onto (exprs_layout es) (say (mark RightParen) ∷ feed ∷ []) ps (exprs_good es (say (mark RightParen) ∷ feed ∷ ps) a.1 refl end) in
      indent_good n _ (say_good (key keys.Send) _ tt refl (space_good _ (word_good w.text _ a.0 refl (space_good _ (say_good (mark LeftParen) _ tt refl values)))))
  stmt_good room n (when_only e first) ps h good =
      let a = both _ _ h in
      let b = both _ _ a.1 in
      let lines = stmts_layout (n + 1) first in
      let block = braced_good n lines (feed ∷ ps) (stmts_good (room - 1) (n + 1) first (indent n ∷ say (mark RightBrace) ∷ feed ∷ ps) b.1 (close_good n (feed ∷ ps) (feed_good ps good))) in
      let test = expr_good 32 e (space ∷ braced n lines ++ (feed ∷ ps)) a.0 refl (space_good (braced n lines ++ (feed ∷ ps)) block) in
      indent_good n _ (say_good (key keys.If) _ tt refl (space_good _ (subst IsGood (sym (assoc3 (expr_layout e) (space ∷ braced n lines) (feed ∷ []) ps)) test)))
  stmt_good room n (when_else e first second) ps h good =
      let a = both _ _ h in
      let b = both _ _ (both _ _ a.1).1 in
      let lines = stmts_layout (n + 1) first in
      let others = stmts_layout (n + 1) second in
      let last = braced_good n others (feed ∷ ps) (stmts_good (room - 1) (n + 1) second (indent n ∷ say (mark RightBrace) ∷ feed ∷ ps) b.1 (close_good n (feed ∷ ps) (feed_good ps good))) in
      let tail = space ∷ say (key keys.Else) ∷ space ∷ braced n others ++ (feed ∷ ps) in
      let else_good = space_good (say (key keys.Else) ∷ space ∷ braced n others ++ (feed ∷ ps)) (say_good (key keys.Else) (space ∷ braced n others ++ (feed ∷ ps)) tt refl (space_good (braced n others ++ (feed ∷ ps)) last)) in
      let block = braced_good n lines tail (stmts_good (room - 1) (n + 1) first (indent n ∷ say (mark RightBrace) ∷ tail) b.0 (close_good n tail else_good)) in
      let test = expr_good 32 e (space ∷ braced n lines ++ tail) a.0 refl (space_good (braced n lines ++ tail) block) in
      indent_good n _ (say_good (key keys.If) _ tt refl (space_good _ (subst IsGood (sym (assoc4 (expr_layout e) (space ∷ braced n lines) (space ∷ say (key keys.Else) ∷ space ∷ braced n others) (feed ∷ []) ps)) test)))
  stmt_good room n (turns e most body) ps h good =
      let a = both _ _ h in
      let b = both _ _ a.1 in
      let c = both _ _ b.1 in
      let lines = stmts_layout (n + 1) body in
      let block = braced_good n lines (feed ∷ ps) (stmts_good (room - 1) (n + 1) body (indent n ∷ say (mark RightBrace) ∷ feed ∷ ps) c.1 (close_good n (feed ∷ ps) (feed_good ps good))) in
      let bound = digits_good most.value (space ∷ braced n lines ++ (feed ∷ ps)) b.0 refl (space_good (braced n lines ++ (feed ∷ ps)) block) in
      let tail = space ∷ say (key keys.Max) ∷ space ∷ number_piece most ∷ space ∷ braced n lines ++ (feed ∷ ps) in
      let count = expr_good 32 e tail a.0 refl (space_good (say (key keys.Max) ∷ space ∷ number_piece most ∷ space ∷ braced n lines ++ (feed ∷ ps)) (say_good (key keys.Max) (space ∷ number_piece most ∷ space ∷ braced n lines ++ (feed ∷ ps)) tt refl (space_good (number_piece most ∷ space ∷ braced n lines ++ (feed ∷ ps)) bound))) in
      indent_good n _ (say_good (key keys.Repeat) _ tt refl (space_good _ (subst IsGood (sym (assoc3 (expr_layout e) (space ∷ say (key keys.Max) ∷ space ∷ number_piece most ∷ space ∷ braced n lines) (feed ∷ []) ps)) count)))

  stmts_good : (room n : ℕ) (b : AstBlockTree) (ps : List Piece) → are_stmts room b ≡ true → IsGood ps → IsGood (stmts_layout n b ++ ps)
  stmts_good room n no_stmts ps h good = good
  stmts_good room n (more_stmts s rest) ps h good =
      let a = both _ _ h in
      onto (stmt_layout n s) (stmts_layout n rest) ps (stmt_good room n s (stmts_layout n rest ++ ps) a.0 (stmts_good room n rest ps a.1 good))

-- lists of lines
lines_good : {X : Type 0} (layout : X → List Piece) (test : X → Bool) → ((x : X) (ps : List Piece) → test x ≡ true → IsGood ps → IsGood (layout x ++ ps)) → (xs : List X) (ps : List Piece) → list_all test xs ≡ true → IsGood ps → IsGood (flat_map layout xs ++ ps)
lines_good layout test one [] ps h good = good
lines_good layout test one (x ∷ xs) ps h good =
    let a = both (test x) (list_all test xs) h in
    onto (layout x) (flat_map layout xs) ps (one x (flat_map layout xs ++ ps) a.0 (lines_good layout test one xs ps a.1 good))

-- names
path_good : (p : Path) (ps : List Piece) → is_path p ≡ true → is_free ps ≡ true → IsGood ps → IsGood (path_layout p ++ ps)
path_good p ps h free good =
    let a = both _ _ h in
    let b = both _ _ a.1 in
    word_good p.process.text _ a.0 refl (say_good (mark Dot) _ tt refl (word_good p.port.text _ b.0 refl (say_good (mark Dot) _ tt refl (word_good p.out.text ps b.1 free good))))

source_good : (s : Source) (ps : List Piece) → is_source s ≡ true → is_free ps ≡ true → IsGood ps → IsGood (source_layout s ++ ps)
source_good (Input w) ps h free good = word_good w.text ps h free good
source_good (Out p) ps h free good = path_good p ps h free good

next_free : (ws : List Word) (ps : List Piece) → is_free ps ≡ true → is_free (flat_map next_param_layout ws ++ ps) ≡ true
next_free [] ps h = h
next_free (w ∷ ws) ps h = refl

next_good : (ws : List Word) (ps : List Piece) → list_all is_param ws ≡ true → is_free ps ≡ true → IsGood ps → IsGood (flat_map next_param_layout ws ++ ps)
next_good [] ps h free good = good
next_good (w ∷ ws) ps h free good =
    let a = both (is_param w) (list_all is_param ws) h in
    say_good (mark Comma) _ tt refl (space_good _ (word_good w.text _ a.0 (next_free ws ps free) (next_good ws ps a.1 free good)))

params_good : (ws : List Word) (ps : List Piece) → list_all is_param ws ≡ true → is_free ps ≡ true → IsGood ps → IsGood (params_layout ws ++ ps)
params_good [] ps h free good = good
params_good (w ∷ ws) ps h free good =
    let a = both (is_param w) (list_all is_param ws) h in
    word_good w.text (flat_map next_param_layout ws ++ ps) a.0 (next_free ws ps free) (next_good ws ps a.1 free good)

-- outs
every_free : (m : Option Num) (ps : List Piece) → is_free ps ≡ true → is_free (every_layout m ++ ps) ≡ true
every_free None ps h = h
every_free (Some m) ps h = refl

every_good : (m : Option Num) (ps : List Piece) → is_every m ≡ true → is_free ps ≡ true → IsGood ps → IsGood (every_layout m ++ ps)
every_good None ps h free good = good
every_good (Some m) ps h free good = space_good _ (say_good (key keys.Every) _ tt refl (space_good _ (digits_good m.value ps h free good)))

out_good : (o : OutDecl) (ps : List Piece) → is_out o ≡ true → is_free ps ≡ true → IsGood ps → IsGood (out_layout o ++ ps)
out_good o ps h free good =
    let a = both _ _ h in
    let b = both _ _ a.1 in
    space_good _ (say_good (key keys.Out) _ tt refl (space_good _ (word_good o.name.text _ a.0 refl
    (say_good (mark LeftParen) _ tt refl (digits_good o.width.value _ b.0 refl (say_good (mark RightParen) _ tt refl (every_good o.every ps b.1 free good)))))))

outs_free : (os : List OutDecl) (ps : List Piece) → is_free ps ≡ true → is_free (flat_map out_layout os ++ ps) ≡ true
outs_free [] ps h = h
outs_free (o ∷ os) ps h = refl

outs_good : (os : List OutDecl) (ps : List Piece) → list_all is_out os ≡ true → is_free ps ≡ true → IsGood ps → IsGood (flat_map out_layout os ++ ps)
outs_good [] ps h free good = good
outs_good (o ∷ os) ps h free good =
    let a = both (is_out o) (list_all is_out os) h in
    onto (out_layout o) (flat_map out_layout os) ps (out_good o (flat_map out_layout os ++ ps) a.0 (outs_free os ps free) (outs_good os ps a.1 free good))

-- variables
start_good : (n : ℤ) (ps : List Piece) → is_start n ≡ true → is_free ps ≡ true → IsGood ps → IsGood (start_layout n ++ ps)
start_good (pos n) ps h free good = digits_good (pos n) ps h free good
start_good (negsuc n) ps h free good = say_good (mark Minus) (say (digits (pos (suc n))) ∷ ps) tt refl (digits_good (pos (suc n)) ps h free good)

var_good : (v : VarDecl) (ps : List Piece) → is_var v ≡ true → IsGood ps → IsGood (var_layout v ++ ps)
var_good v ps h good =
    let a = both _ _ h in
    let value = start_layout v.start ++ (feed ∷ []) ++ ps in
    let start = onto (start_layout v.start) (feed ∷ []) ps (start_good v.start (feed ∷ ps) a.1 refl (feed_good ps good)) in
    indent_good 1 _ (say_good (key keys.Var) _ tt refl (space_good _ (set_good v.name.text value ps a.0 start)))

-- ports
port_good : (p : PortDeclTree) (ps : List Piece) → is_port p ≡ true → IsGood ps → IsGood (port_layout p ++ ps)
port_good p ps h good =
    let a = both _ _ h in
    let b = both _ _ a.1 in
    let c = both _ _ b.1 in
    let d = both _ _ c.1 in
    let lines = stmts_layout 2 p.body in
    let block = braced_good 1 lines (feed ∷ ps) (stmts_good 7 2 p.body (indent 1 ∷ say (mark RightBrace) ∷ feed ∷ ps) d.1 (close_good 1 (feed ∷ ps) (feed_good ps good))) in
    let behind = space ∷ braced 1 lines ++ (feed ∷ ps) in
    let outs = outs_good p.outs behind d.0 refl (space_good (braced 1 lines ++ (feed ∷ ps)) block) in
    let tail = flat_map out_layout p.outs ++ behind in
    let params = params_good p.params (say (mark RightParen) ∷ tail) c.0 refl (say_good (mark RightParen) tail tt refl outs) in
    let rest = params_layout p.params ++ (say (mark RightParen) ∷ tail) in
    let source = source_good p.source (space ∷ say (mark LeftParen) ∷ rest) b.0 refl (space_good (say (mark LeftParen) ∷ rest) (say_good (mark LeftParen) rest tt refl params)) in
    indent_good 1 _ (say_good (key keys.Port) _ tt refl (space_good _ (word_good p.name.text _ a.0 refl (space_good _ (say_good (key keys.From) _ tt refl (space_good _
    (subst IsGood (sym (assoc6 (source_layout p.source) (space ∷ say (mark LeftParen) ∷ params_layout p.params) (say (mark RightParen) ∷ []) (flat_map out_layout p.outs) (space ∷ braced 1 lines) (feed ∷ []) ps)) source)))))))

-- parts of a graph
inside_free : (w : Option Word) (ps : List Piece) → is_free ps ≡ true → is_free (inside_layout w ++ ps) ≡ true
inside_free None ps h = h
inside_free (Some w) ps h = refl

inside_good : (w : Option Word) (ps : List Piece) → is_inside w ≡ true → is_free ps ≡ true → IsGood ps → IsGood (inside_layout w ++ ps)
inside_good None ps h free good = good
inside_good (Some w) ps h free good = space_good _ (say_good (key keys.In) _ tt refl (space_good _ (word_good w.text ps h free good)))

item_good : (i : ItemTree) (ps : List Piece) → is_item i ≡ true → IsGood ps → IsGood (item_layout i ++ ps)
item_good (input i) ps h good =
    let a = both _ _ h in
    let b = both _ _ a.1 in
    say_good (key keys.Input) _ tt refl (space_good _ (word_good i.name.text _ a.0 refl (say_good (mark LeftParen) _ tt refl (digits_good i.width.value _ b.0 refl (say_good (mark RightParen) _ tt refl
    (space_good _ (say_good (key keys.Period) _ tt refl (space_good _ (digits_good i.period.value (feed ∷ ps) b.1 refl (feed_good ps good))))))))))
item_good (output o) ps h good =
    let a = both _ _ h in
    say_good (key keys.Output) _ tt refl (space_good _ (word_good o.name.text _ a.0 refl (space_good _ (say_good (key keys.From) _ tt refl (space_good _ (path_good o.path (feed ∷ ps) a.1 refl (feed_good ps good)))))))
item_good (resource r) ps h good = say_good (key keys.Resource) _ tt refl (space_good _ (word_good r.name.text (feed ∷ ps) h refl (feed_good ps good)))
item_good (process p) ps h good =
    let a = both _ _ h in
    let b = both _ _ a.1 in
    let c = both _ _ b.1 in
    let lines = flat_map var_layout p.vars ++ flat_map port_layout p.ports in
    let end = indent 0 ∷ say (mark RightBrace) ∷ feed ∷ ps in
    let all = onto (flat_map var_layout p.vars) (flat_map port_layout p.ports) end
    (lines_good var_layout is_var var_good p.vars (flat_map port_layout p.ports ++ end) c.0 (lines_good port_layout is_port port_good p.ports end c.1 (close_good 0 (feed ∷ ps) (feed_good ps good)))) in
    let block = braced_good 0 lines (feed ∷ ps) all in
    let behind = space ∷ braced 0 lines ++ (feed ∷ ps) in
    let front = inside_good p.inside behind b.0 refl (space_good (braced 0 lines ++ (feed ∷ ps)) block) in
    say_good (key keys.Process) _ tt refl (space_good _ (word_good p.name.text (inside_layout p.inside ++ (space ∷ braced 0 lines) ++ (feed ∷ []) ++ ps) a.0
    (subst (λ (l : List Piece). is_free l ≡ true) (sym (assoc3 (inside_layout p.inside) (space ∷ braced 0 lines) (feed ∷ []) ps)) (inside_free p.inside behind refl))
    (subst IsGood (sym (assoc3 (inside_layout p.inside) (space ∷ braced 0 lines) (feed ∷ []) ps)) front)))

pub layout_good : (items : List ItemTree) → is_writable items ≡ true → IsGood (layout_of items)
layout_good items h = subst IsGood (append-nil (layout_of items)) (lines_good item_layout is_item item_good items [] h none_good)
