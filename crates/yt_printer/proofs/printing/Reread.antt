-- Tokens that say what a tree's layout says spell a tree that is the same but for places.
use Rattle.std.proofs.Common.{ℕ, ◌+◌, ◌-◌, ◌≡◌, ◌≤◌, List, [], ◌∷◌, ◌++◌, true, refl, ap, ◌∙◌, sym, arith, append_assoc}
use Rattle.std.proofs.lemmas.Bool.Decides.{nat_tests}
use Rattle.std.specs.Prelude.{nat_le}
use Rattle.yt_graph.specs.declared.ast.Word.{Word}
use Rattle.yt_graph.specs.declared.ast.Num.{Num}
use Rattle.yt_graph.specs.AstPicture.{AstExprTree, number, name, minus, negation, two_sides, paren, call_of, AstExprsTree, no_values, more_values, AstStmtTree, let_local, assign, send_on, when_only, when_else, turns, AstBlockTree, no_stmts, more_stmts}
use Rattle.yt_graph.specs.AstWellFormed.{ast_expr_depth, ast_exprs_depth, ast_stmt_depth, ast_block_depth}
use Rattle.yt_grammar.specs.declared.sign.Keyword.TheVariants as keys
use Rattle.yt_grammar.specs.declared.sign.Mark.TheVariants.{LeftBrace, RightBrace, LeftParen, RightParen, Comma, Assign, Minus}
use Rattle.yt_grammar.specs.Lexemes.{Lexeme, word, key, mark, digits, Tok}
use Rattle.yt_grammar.specs.Forms.{Form, ◌▹◌, nothing, says, symbol, named, counted}
use Rattle.yt_grammar.specs.Grammar.{op_lexeme, rank_of, left_rank, right_rank, within, expr_form, args_form, more_form, value_form, more_values_form, values_form, stmt_form, stmts_form}
use Rattle.yt_grammar.specs.SamePlaces.{word_at_start, num_at_start, expr_at_start, exprs_at_start, stmt_at_start, stmts_at_start}
use Rattle.yt_grammar.specs.Writable.{is_expr, are_args, are_exprs, is_stmt, are_stmts}
use Rattle.yt_grammar.specs.CanonicalText.{Piece, say, space, feed, indent, number_piece, expr_layout, exprs_layout, more_layout, braced, stmt_layout, stmts_layout}
use Rattle.yt_printer.proofs.printing.Layouts.{lexemes_in, says_of}
use Rattle.yt_grammar.proofs.Lemmas.{both}
use Rattle.yt_grammar.proofs.Lemmas.{expr_within}
use Rattle.yt_printer.proofs.printing.Good.{assoc3, assoc4}

-- tokens of this form stand in front of others that say the rest
pub record Takes (p : Form) (toks : List Tok) (more : List Lexeme) : Type 0 where
  pub front : List Tok
  pub back : List Tok
  pub cut : toks ≡ front ++ back
  pub is : p front
  pub rest : says_of back ≡ more

-- and what they spell is the same as this but for places
pub record Reads {X : Type 0} (f : X → Form) (same : X → X) (x : X) (toks : List Tok) (more : List Lexeme) : Type 0 where
  pub got : X
  pub takes : Takes (f got) toks more
  pub alike : same got ≡ same x

-- equal parts make equal wholes
pub ap2 : {A B C : Type 0} (f : A → B → C) {a b : A} {c d : B} → a ≡ b → c ≡ d → f a c ≡ f b d
ap2 f p q = cc

pub ap3 : {A B C D : Type 0} (f : A → B → C → D) {a b : A} {c d : B} {g h : C} → a ≡ b → c ≡ d → g ≡ h → f a c g ≡ f b d h
ap3 f p q r = cc

-- one form behind another
pub then_takes : {p q : Form} {toks : List Tok} {mid more : List Lexeme} (a : Takes p toks mid) → Takes q a.back more → Takes (p ▹ q) toks more
then_takes a b =
    record {
      front = a.front ++ b.front;
      back = b.back;
      cut = a.cut ∙ ap (λ (ts : List Tok). a.front ++ ts) b.cut ∙ sym (append_assoc a.front b.front b.back);
      is = (a.front, b.front, refl, a.is, b.is);
      rest = b.rest;
    }

pub nothing_takes : (toks : List Tok) (more : List Lexeme) → says_of toks ≡ more → Takes nothing toks more
nothing_takes toks more h = record { front = []; back = toks; cut = refl; is = refl; rest = h }

-- one token
head_is : (l m : Lexeme) (ls ms : List Lexeme) → (l ∷ ls) ≡ (m ∷ ms) → (l ≡ m) × (ls ≡ ms)
head_is l m ls ms h = (cc, cc)

pub take_says : (l : Lexeme) (toks : List Tok) (more : List Lexeme) → says_of toks ≡ l ∷ more → Takes (says l) toks more
take_says l [] more h = absurd (cc)
take_says l (t ∷ ts) more h =
    let e = head_is t.says l (says_of ts) more h in
    record { front = t ∷ []; back = ts; cut = refl; is = (t, refl, e.0); rest = e.1 }

tok_is : (t : Tok) (l : Lexeme) → t.says ≡ l → (t ∷ []) ≡ (record { says = l; place = t.place }) ∷ []
tok_is t l h = ap (λ (m : Lexeme). (record { says = m; place = t.place }) ∷ []) h

pub take_name : (w : Word) (toks : List Tok) (more : List Lexeme) → says_of toks ≡ word w.text ∷ more → Reads named word_at_start w toks more
take_name w [] more h = absurd (cc)
take_name w (t ∷ ts) more h =
    let e = head_is t.says (word w.text) (says_of ts) more h in
    record { got = record { text = w.text; place = t.place }; takes = record { front = t ∷ []; back = ts; cut = refl; is = tok_is t (word w.text) e.0; rest = e.1 }; alike = refl }

pub take_count : (n : Num) (toks : List Tok) (more : List Lexeme) → says_of toks ≡ digits n.value ∷ more → Reads counted num_at_start n toks more
take_count n [] more h = absurd (cc)
take_count n (t ∷ ts) more h =
    let e = head_is t.says (digits n.value) (says_of ts) more h in
    record { got = record { value = n.value; place = t.place }; takes = record { front = t ∷ []; back = ts; cut = refl; is = tok_is t (digits n.value) e.0; rest = e.1 }; alike = refl }

-- ranks and depths know no places
rank_at_start : (e : AstExprTree) → rank_of (expr_at_start e) ≡ rank_of e
rank_at_start (number n) = refl
rank_at_start (name w) = refl
rank_at_start (minus e) = refl
rank_at_start (negation e) = refl
rank_at_start (two_sides op l r) = refl
rank_at_start (paren e) = refl
rank_at_start (call_of w args) = refl

same_rank : (a b : AstExprTree) → expr_at_start a ≡ expr_at_start b → rank_of a ≡ rank_of b
same_rank a b h = sym (rank_at_start a) ∙ ap rank_of h ∙ rank_at_start b

mutual
  depth_at_start : (e : AstExprTree) → ast_expr_depth (expr_at_start e) ≡ ast_expr_depth e
  depth_at_start (number n) = refl
  depth_at_start (name w) = refl
  depth_at_start (minus e) = ap (λ (n : ℕ). 1 + n) (depth_at_start e)
  depth_at_start (negation e) = ap (λ (n : ℕ). 1 + n) (depth_at_start e)
  depth_at_start (two_sides op l r) =
      let a = depth_at_start l in
      let b = depth_at_start r in
      cc
  depth_at_start (paren e) = ap (λ (n : ℕ). 1 + n) (depth_at_start e)
  depth_at_start (call_of w args) = ap (λ (n : ℕ). 1 + n) (depths_at_start args)

  depths_at_start : (es : AstExprsTree) → ast_exprs_depth (exprs_at_start es) ≡ ast_exprs_depth es
  depths_at_start no_values = refl
  depths_at_start (more_values e rest) =
      let a = depth_at_start e in
      let b = depths_at_start rest in
      cc

same_depth : (a b : AstExprTree) → expr_at_start a ≡ expr_at_start b → ast_expr_depth a ≡ ast_expr_depth b
same_depth a b h = sym (depth_at_start a) ∙ ap ast_expr_depth h ∙ depth_at_start b

mutual
  blocks_at_start : (s : AstStmtTree) → ast_stmt_depth (stmt_at_start s) ≡ ast_stmt_depth s
  blocks_at_start (let_local w e) = refl
  blocks_at_start (assign w e) = refl
  blocks_at_start (send_on w es) = refl
  blocks_at_start (when_only e first) = ap (λ (n : ℕ). 1 + n) (all_blocks_at_start first)
  blocks_at_start (when_else e first second) =
      let a = all_blocks_at_start first in
      let b = all_blocks_at_start second in
      cc
  blocks_at_start (turns e most body) = ap (λ (n : ℕ). 1 + n) (all_blocks_at_start body)

  all_blocks_at_start : (b : AstBlockTree) → ast_block_depth (stmts_at_start b) ≡ ast_block_depth b
  all_blocks_at_start no_stmts = refl
  all_blocks_at_start (more_stmts s rest) =
      let a = blocks_at_start s in
      let b = all_blocks_at_start rest in
      cc

pub same_blocks : (a b : AstBlockTree) → stmts_at_start a ≡ stmts_at_start b → ast_block_depth a ≡ ast_block_depth b
same_blocks a b h = sym (all_blocks_at_start a) ∙ ap ast_block_depth h ∙ all_blocks_at_start b

-- brackets moved to the right, in what tokens say
pub moved : (toks : List Tok) (a b : List Piece) → says_of toks ≡ lexemes_in a → a ≡ b → says_of toks ≡ lexemes_in b
moved toks a b h e = h ∙ ap lexemes_in e

pub onto : (toks : List Tok) (a b ps : List Piece) → says_of toks ≡ lexemes_in (a ++ b ++ ps) → says_of toks ≡ lexemes_in (a ++ (b ++ ps))
onto toks a b ps h = moved toks (a ++ b ++ ps) (a ++ (b ++ ps)) h (append_assoc a b ps)

-- a side that binds tightly enough
within_takes : (rank : ℕ) (e : AstExprTree) (toks : List Tok) (more : List Lexeme) → nat_le (rank_of e) rank ≡ true → (r : Reads expr_form expr_at_start e toks more) → Takes (within rank r.got (expr_form r.got)) toks more
within_takes rank e toks more h r =
    let a = r.takes in
    let same : rank_of r.got ≡ rank_of e = same_rank r.got e r.alike in
    let low : rank_of e ≤ rank = grind (arith, nat_tests) in
    record { front = a.front; back = a.back; cut = a.cut; is = (omega arith, a.is); rest = a.rest }

-- expressions
mutual
  expr_reads : (room : ℕ) (e : AstExprTree) (toks : List Tok) (ps : List Piece) → is_expr room e ≡ true → says_of toks ≡ lexemes_in (expr_layout e ++ ps) → Reads expr_form expr_at_start e toks (lexemes_in ps)
  expr_reads room (number n) toks ps h k = record { got = number n; takes = take_says (digits n) toks (lexemes_in ps) k; alike = refl }
  expr_reads room (name w) toks ps h k =
      let a = take_name w toks (lexemes_in ps) k in
      record { got = name a.got; takes = a.takes; alike = ap name a.alike }
  expr_reads room (minus e) toks ps h k =
      let t = both _ _ (both _ _ h).1 in
      let a = take_says (mark Minus) toks (lexemes_in (expr_layout e ++ ps)) k in
      let b = expr_reads (room - 1) e a.back ps t.1 a.rest in
      record { got = minus b.got; takes = then_takes a (within_takes 1 e a.back (lexemes_in ps) t.0 b); alike = ap minus b.alike }
  expr_reads room (negation e) toks ps h k =
      let t = both _ _ (both _ _ h).1 in
      let a = take_says (key keys.Not) toks (lexemes_in (expr_layout e ++ ps)) k in
      let b = expr_reads (room - 1) e a.back ps t.1 a.rest in
      record { got = negation b.got; takes = then_takes a (within_takes 5 e a.back (lexemes_in ps) t.0 b); alike = ap negation b.alike }
  expr_reads room (two_sides op l r) toks ps h k =
      let t = both _ _ (both _ _ h).1 in
      let s = both _ _ t.0 in
      let u = both _ _ t.1 in
      let tail = space ∷ say (op_lexeme op) ∷ space ∷ expr_layout r ++ ps in
      let a = expr_reads (room - 1) l toks tail s.1 (onto toks (expr_layout l) (space ∷ say (op_lexeme op) ∷ space ∷ expr_layout r) ps k) in
      let left = within_takes (left_rank op) l toks (lexemes_in tail) s.0 a in
      let b = take_says (op_lexeme op) left.back (lexemes_in (expr_layout r ++ ps)) left.rest in
      let c = expr_reads (room - 1) r b.back ps u.1 b.rest in
      let right = within_takes (right_rank op) r b.back (lexemes_in ps) u.0 c in
      record { got = two_sides op a.got c.got; takes = then_takes left (then_takes b right); alike = ap2 (two_sides op) a.alike c.alike }
  expr_reads room (paren e) toks ps h k =
      let a = take_says (mark LeftParen) toks (lexemes_in (expr_layout e ++ (say (mark RightParen) ∷ []) ++ ps)) k in
      let b = expr_reads (room - 1) e a.back (say (mark RightParen) ∷ ps) (both _ _ h).1 (onto a.back (expr_layout e) (say (mark RightParen) ∷ []) ps a.rest) in
      let c = take_says (mark RightParen) b.takes.back (lexemes_in ps) b.takes.rest in
      record { got = paren b.got; takes = then_takes a (then_takes b.takes c); alike = ap paren b.alike }
  expr_reads room (call_of w args) toks ps h k =
      let t = both _ _ (both _ _ h).1 in
      let n = take_name w toks (lexemes_in (say (mark LeftParen) ∷ exprs_layout args ++ (say (mark RightParen) ∷ []) ++ ps)) k in
      let a = take_says (mark LeftParen) n.takes.back (lexemes_in (exprs_layout args ++ (say (mark RightParen) ∷ []) ++ ps)) n.takes.rest in
      let b = args_reads (room - 1) args a.back (say (mark RightParen) ∷ ps) t.1 (onto a.back (exprs_layout args) (say (mark RightParen) ∷ []) ps a.rest) in
      let c = take_says (mark RightParen) b.takes.back (lexemes_in ps) b.takes.rest in
      record { got = call_of n.got b.got; takes = then_takes n.takes (then_takes a (then_takes b.takes c)); alike = ap2 call_of n.alike b.alike }

  args_reads : (room : ℕ) (es : AstExprsTree) (toks : List Tok) (ps : List Piece) → are_args room es ≡ true → says_of toks ≡ lexemes_in (exprs_layout es ++ ps) → Reads args_form exprs_at_start es toks (lexemes_in ps)
  args_reads room no_values toks ps h k = absurd (cc)
  args_reads room (more_values e rest) toks ps h k =
      let t = both _ _ h in
      let a = expr_reads room e toks (more_layout rest ++ ps) t.0 (onto toks (expr_layout e) (more_layout rest) ps k) in
      let b = more_reads room rest a.takes.back ps t.1 a.takes.rest in
      record { got = more_values a.got b.got; takes = then_takes a.takes b.takes; alike = ap2 more_values a.alike b.alike }

  more_reads : (room : ℕ) (es : AstExprsTree) (toks : List Tok) (ps : List Piece) → are_exprs room es ≡ true → says_of toks ≡ lexemes_in (more_layout es ++ ps) → Reads more_form exprs_at_start es toks (lexemes_in ps)
  more_reads room no_values toks ps h k = record { got = no_values; takes = nothing_takes toks (lexemes_in ps) k; alike = refl }
  more_reads room (more_values e rest) toks ps h k =
      let t = both _ _ h in
      let c = take_says (mark Comma) toks (lexemes_in (expr_layout e ++ more_layout rest ++ ps)) k in
      let a = expr_reads room e c.back (more_layout rest ++ ps) t.0 (onto c.back (expr_layout e) (more_layout rest) ps c.rest) in
      let b = more_reads room rest a.takes.back ps t.1 a.takes.rest in
      record { got = more_values a.got b.got; takes = then_takes c (then_takes a.takes b.takes); alike = ap2 more_values a.alike b.alike }

-- the expressions of statements
value_reads : (e : AstExprTree) (toks : List Tok) (ps : List Piece) → is_expr 32 e ≡ true → says_of toks ≡ lexemes_in (expr_layout e ++ ps) → Reads value_form expr_at_start e toks (lexemes_in ps)
value_reads e toks ps h k =
    let r = expr_reads 32 e toks ps h k in
    let a = r.takes in
    let same : ast_expr_depth r.got ≡ ast_expr_depth e = same_depth r.got e r.alike in
    let low : ast_expr_depth e ≤ 32 = expr_within 32 e h in
    record { got = r.got; takes = record { front = a.front; back = a.back; cut = a.cut; is = (omega arith, a.is); rest = a.rest }; alike = r.alike }

more_values_reads : (es : AstExprsTree) (toks : List Tok) (ps : List Piece) → are_exprs 32 es ≡ true → says_of toks ≡ lexemes_in (more_layout es ++ ps) → Reads more_values_form exprs_at_start es toks (lexemes_in ps)
more_values_reads no_values toks ps h k = record { got = no_values; takes = nothing_takes toks (lexemes_in ps) k; alike = refl }
more_values_reads (more_values e rest) toks ps h k =
    let t = both _ _ h in
    let c = take_says (mark Comma) toks (lexemes_in (expr_layout e ++ more_layout rest ++ ps)) k in
    let a = value_reads e c.back (more_layout rest ++ ps) t.0 (onto c.back (expr_layout e) (more_layout rest) ps c.rest) in
    let b = more_values_reads rest a.takes.back ps t.1 a.takes.rest in
    record { got = more_values a.got b.got; takes = then_takes c (then_takes a.takes b.takes); alike = ap2 more_values a.alike b.alike }

values_reads : (es : AstExprsTree) (toks : List Tok) (ps : List Piece) → are_exprs 32 es ≡ true → says_of toks ≡ lexemes_in (exprs_layout es ++ ps) → Reads values_form exprs_at_start es toks (lexemes_in ps)
values_reads no_values toks ps h k = record { got = no_values; takes = nothing_takes toks (lexemes_in ps) k; alike = refl }
values_reads (more_values e rest) toks ps h k =
    let t = both _ _ h in
    let a = value_reads e toks (more_layout rest ++ ps) t.0 (onto toks (expr_layout e) (more_layout rest) ps k) in
    let b = more_values_reads rest a.takes.back ps t.1 a.takes.rest in
    record { got = more_values a.got b.got; takes = then_takes a.takes b.takes; alike = ap2 more_values a.alike b.alike }

-- the brace in front of lines
pub open_brace : (n : ℕ) (lines ps : List Piece) (toks : List Tok) → says_of toks ≡ lexemes_in (braced n lines ++ ps) → Takes (symbol LeftBrace) toks (lexemes_in (lines ++ (indent n ∷ say (mark RightBrace) ∷ ps)))
open_brace n lines ps toks h =
    let a = take_says (mark LeftBrace) toks (lexemes_in (lines ++ (indent n ∷ say (mark RightBrace) ∷ []) ++ ps)) h in
    record { front = a.front; back = a.back; cut = a.cut; is = a.is; rest = onto a.back lines (indent n ∷ say (mark RightBrace) ∷ []) ps a.rest }

-- statements
mutual
  stmt_reads : (room n : ℕ) (s : AstStmtTree) (toks : List Tok) (ps : List Piece) → is_stmt room s ≡ true → says_of toks ≡ lexemes_in (stmt_layout n s ++ ps) → Reads stmt_form stmt_at_start s toks (lexemes_in ps)
  stmt_reads room n (let_local w e) toks ps h k =
      let t = both _ _ h in
      let value = expr_layout e ++ (feed ∷ []) ++ ps in
      let a = take_says (key keys.Let) toks (word w.text ∷ mark Assign ∷ lexemes_in value) k in
      let b = take_name w a.back (mark Assign ∷ lexemes_in value) a.rest in
      let c = take_says (mark Assign) b.takes.back (lexemes_in value) b.takes.rest in
      let d = value_reads e c.back (feed ∷ ps) t.1 (onto c.back (expr_layout e) (feed ∷ []) ps c.rest) in
      record { got = let_local b.got d.got; takes = then_takes a (then_takes b.takes (then_takes c d.takes)); alike = ap2 let_local b.alike d.alike }
  stmt_reads room n (assign w e) toks ps h k =
      let t = both _ _ h in
      let value = expr_layout e ++ (feed ∷ []) ++ ps in
      let b = take_name w toks (mark Assign ∷ lexemes_in value) k in
      let c = take_says (mark Assign) b.takes.back (lexemes_in value) b.takes.rest in
      let d = value_reads e c.back (feed ∷ ps) t.1 (onto c.back (expr_layout e) (feed ∷ []) ps c.rest) in
      record { got = assign b.got d.got; takes = then_takes b.takes (then_takes c d.takes); alike = ap2 assign b.alike d.alike }
  stmt_reads room n (send_on w es) toks ps h k =
      let t = both _ _ h in
      let end = say (mark RightParen) ∷ feed ∷ [] in
      let values = exprs_layout es ++ end ++ ps in
      let a = take_says (key keys.Send) toks (word w.text ∷ mark LeftParen ∷ lexemes_in values) k in
      let b = take_name w a.back (mark LeftParen ∷ lexemes_in values) a.rest in
      let c = take_says (mark LeftParen) b.takes.back (lexemes_in values) b.takes.rest in
      let d = values_reads es c.back (end ++ ps) t.1 (onto c.back (exprs_layout es) end ps c.rest) in
      let f = take_says (mark RightParen) d.takes.back (lexemes_in ps) d.takes.rest in
      record { got = send_on b.got d.got; takes = then_takes a (then_takes b.takes (then_takes c (then_takes d.takes f))); alike = ap2 send_on b.alike d.alike }
  stmt_reads room n (when_only e first) toks ps h k =
      let t = both _ _ h in
      let u = both _ _ t.1 in
      let lines = stmts_layout (n + 1) first in
      let tail = expr_layout e ++ (space ∷ braced n lines) ++ (feed ∷ []) ++ ps in
      let a = take_says (key keys.If) toks (lexemes_in tail) k in
      let b = value_reads e a.back (space ∷ braced n lines ++ (feed ∷ ps)) t.0 (moved a.back tail (expr_layout e ++ (space ∷ braced n lines ++ (feed ∷ ps))) a.rest (assoc3 (expr_layout e) (space ∷ braced n lines) (feed ∷ []) ps)) in
      let c = open_brace n lines (feed ∷ ps) b.takes.back b.takes.rest in
      let d = stmts_reads (room - 1) (n + 1) first c.back (indent n ∷ say (mark RightBrace) ∷ feed ∷ ps) u.1 c.rest in
      let f = take_says (mark RightBrace) d.takes.back (lexemes_in ps) d.takes.rest in
      record { got = when_only b.got d.got; takes = then_takes a (then_takes b.takes (then_takes c (then_takes d.takes f))); alike = ap2 when_only b.alike d.alike }
  stmt_reads room n (when_else e first second) toks ps h k =
      let t = both _ _ h in
      let u = both _ _ (both _ _ t.1).1 in
      let lines = stmts_layout (n + 1) first in
      let others = stmts_layout (n + 1) second in
      let tail = expr_layout e ++ (space ∷ braced n lines) ++ (space ∷ say (key keys.Else) ∷ space ∷ braced n others) ++ (feed ∷ []) ++ ps in
      let end = space ∷ say (key keys.Else) ∷ space ∷ braced n others ++ (feed ∷ ps) in
      let a = take_says (key keys.If) toks (lexemes_in tail) k in
      let b = value_reads e a.back (space ∷ braced n lines ++ end) t.0 (moved a.back tail (expr_layout e ++ (space ∷ braced n lines ++ end)) a.rest (assoc4 (expr_layout e) (space ∷ braced n lines) (space ∷ say (key keys.Else) ∷ space ∷ braced n others) (feed ∷ []) ps)) in
      let c = open_brace n lines end b.takes.back b.takes.rest in
      let d = stmts_reads (room - 1) (n + 1) first c.back (indent n ∷ say (mark RightBrace) ∷ end) u.0 c.rest in
      let f = take_says (mark RightBrace) d.takes.back (lexemes_in end) d.takes.rest in
      let first_block = then_takes c (then_takes d.takes f) in
      let g = take_says (key keys.Else) first_block.back (lexemes_in (braced n others ++ (feed ∷ ps))) first_block.rest in
      let i = open_brace n others (feed ∷ ps) g.back g.rest in
      let j = stmts_reads (room - 1) (n + 1) second i.back (indent n ∷ say (mark RightBrace) ∷ feed ∷ ps) u.1 i.rest in
      let l = take_says (mark RightBrace) j.takes.back (lexemes_in ps) j.takes.rest in
      record {
        got = when_else b.got d.got j.got;
        takes = then_takes a (then_takes b.takes (then_takes first_block (then_takes g (then_takes i (then_takes j.takes l)))));
        alike = ap3 when_else b.alike d.alike j.alike;
      }
  stmt_reads room n (turns e most body) toks ps h k =
      let t = both _ _ h in
      let u = both _ _ t.1 in
      let v = both _ _ u.1 in
      let lines = stmts_layout (n + 1) body in
      let mid = space ∷ say (key keys.Max) ∷ space ∷ number_piece most ∷ space ∷ braced n lines in
      let tail = expr_layout e ++ mid ++ (feed ∷ []) ++ ps in
      let block = braced n lines ++ (feed ∷ ps) in
      let a = take_says (key keys.Repeat) toks (lexemes_in tail) k in
      let b = value_reads e a.back (mid ++ (feed ∷ ps)) t.0 (moved a.back tail (expr_layout e ++ (mid ++ (feed ∷ ps))) a.rest (assoc3 (expr_layout e) mid (feed ∷ []) ps)) in
      let m = take_says (key keys.Max) b.takes.back (digits most.value ∷ lexemes_in block) b.takes.rest in
      let o = take_count most m.back (lexemes_in block) m.rest in
      let c = open_brace n lines (feed ∷ ps) o.takes.back o.takes.rest in
      let d = stmts_reads (room - 1) (n + 1) body c.back (indent n ∷ say (mark RightBrace) ∷ feed ∷ ps) v.1 c.rest in
      let f = take_says (mark RightBrace) d.takes.back (lexemes_in ps) d.takes.rest in
      record {
        got = turns b.got o.got d.got;
        takes = then_takes a (then_takes b.takes (then_takes m (then_takes o.takes (then_takes c (then_takes d.takes f)))));
        alike = ap3 turns b.alike o.alike d.alike;
      }

  pub stmts_reads : (room n : ℕ) (b : AstBlockTree) (toks : List Tok) (ps : List Piece) → are_stmts room b ≡ true → says_of toks ≡ lexemes_in (stmts_layout n b ++ ps) → Reads stmts_form stmts_at_start b toks (lexemes_in ps)
  stmts_reads room n no_stmts toks ps h k = record { got = no_stmts; takes = nothing_takes toks (lexemes_in ps) k; alike = refl }
  stmts_reads room n (more_stmts s rest) toks ps h k =
      let t = both _ _ h in
      let a = stmt_reads room n s toks (stmts_layout n rest ++ ps) t.0 (onto toks (stmt_layout n s) (stmts_layout n rest) ps k) in
      let b = stmts_reads room n rest a.takes.back ps t.1 a.takes.rest in
      record { got = more_stmts a.got b.got; takes = then_takes a.takes b.takes; alike = ap2 more_stmts a.alike b.alike }
