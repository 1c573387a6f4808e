-- Tokens that say what a graph's layout says spell a graph that is the same but for places.
use Rattle.std.proofs.Common.{◌≡◌, ◌≤◌, List, [], ◌∷◌, ◌++◌, map, Bool, true, ℤ, pos, negsuc, suc, Option, None, Some, refl, ap, ◌∙◌, sym, subst, inl, inr, arith, append-nil}
use Rattle.std.specs.Prelude.{option_map}
use Rattle.std.specs.List.{list_all, flat_map}
use Rattle.yt_graph.specs.declared.ast.Word.{Word}
use Rattle.yt_graph.specs.declared.ast.Num.{Num}
use Rattle.yt_graph.specs.declared.ast.Path.{Path}
use Rattle.yt_graph.specs.declared.ast.Source.{Source}
use Rattle.yt_graph.specs.declared.ast.Source.TheVariants.{Input, Out}
use Rattle.yt_graph.specs.declared.ast.VarDecl.{VarDecl}
use Rattle.yt_graph.specs.declared.ast.OutDecl.{OutDecl}
use Rattle.yt_graph.specs.AstPicture.{AstBlockTree, PortDeclTree, ItemTree, input, output, resource, process}
use Rattle.yt_graph.specs.AstWellFormed.{ast_block_depth}
use Rattle.yt_grammar.specs.declared.sign.Keyword.TheVariants as keys
use Rattle.yt_grammar.specs.declared.sign.Mark.TheVariants.{RightBrace, LeftParen, RightParen, Comma, Dot, Assign, Minus}
use Rattle.yt_grammar.specs.Lexemes.{word, key, mark, digits, Tok}
use Rattle.yt_grammar.specs.Forms.{Form, ◌▹◌, symbol, named, each, listed}
use Rattle.yt_grammar.specs.Grammar.{body_form, path_form, source_form, every_form, out_form, start_form, var_form, port_form, inside_form, item_form}
use Rattle.yt_grammar.specs.SamePlaces.{word_at_start, num_at_start, path_at_start, source_at_start, var_at_start, out_at_start, stmts_at_start, port_at_start, item_at_start, without_places}
use Rattle.yt_grammar.specs.Writable.{are_stmts, is_out, is_var, is_param, is_port, is_item, is_writable}
use Rattle.yt_grammar.specs.CanonicalText.{Piece, say, space, feed, indent, braced, stmts_layout, path_layout, source_layout, next_param_layout, params_layout, every_layout, out_layout, start_layout, var_layout, port_layout, inside_layout, item_layout, layout_of}
use Rattle.yt_printer.proofs.printing.Layouts.{lexemes_in, says_of}
use Rattle.yt_grammar.proofs.Lemmas.{both}
use Rattle.yt_grammar.proofs.Lemmas.{stmts_within}
use Rattle.yt_printer.proofs.printing.Good.{assoc3, assoc6}
use Rattle.yt_printer.proofs.printing.Reread.{Takes, Reads, ap2, ap3, then_takes, nothing_takes, take_says, take_name, take_count, same_blocks, moved, onto, open_brace, stmts_reads}

abbrev path_of : Word → Word → Word → Path
path_of a b c = record { process = a; port = b; out = c }

abbrev out_of : Word → Num → Option Num → OutDecl
out_of a b c = record { name = a; width = b; every = c }

abbrev port_of : Word → Source → List Word → List OutDecl → AstBlockTree → PortDeclTree
port_of a b c d e = record { name = a; source = b; params = c; outs = d; body = e }

abbrev input_of : Word → Num → Num → ItemTree
input_of a b c = input (record { name = a; width = b; period = c })

abbrev output_of : Word → Path → ItemTree
output_of a b = output (record { name = a; path = b })

abbrev resource_of : Word → ItemTree
resource_of a = resource (record { name = a })

abbrev process_of : Word → Option Word → List VarDecl → List PortDeclTree → ItemTree
process_of a b c d = process (record { name = a; inside = b; vars = c; ports = d })

-- equal parts make equal paths, outs, ports and processes
same_path : (a b c d e f : Word) → word_at_start a ≡ word_at_start b → word_at_start c ≡ word_at_start d → word_at_start e ≡ word_at_start f → path_at_start (record { process = a; port = c; out = e }) ≡ path_at_start (record { process = b; port = d; out = f })
same_path a b c d e f p q r = ap3 path_of p q r

same_out : (a b : Word) (c d : Num) (e f : Option Num) → word_at_start a ≡ word_at_start b → num_at_start c ≡ num_at_start d → option_map num_at_start e ≡ option_map num_at_start f → out_at_start (record { name = a; width = c; every = e }) ≡ out_at_start (record { name = b; width = d; every = f })
same_out a b c d e f p q r = ap3 out_of p q r

same_port : (a b : Word) (c d : Source) (e f : List Word) (g h : List OutDecl) (i j : AstBlockTree) → a ≡ b → c ≡ d → e ≡ f → g ≡ h → i ≡ j → port_of a c e g i ≡ port_of b d f h j
same_port a b c d e f g h i j p q r s t = cc

same_process : (a b : Word) (c d : Option Word) (e f : List VarDecl) (g h : List PortDeclTree) → a ≡ b → c ≡ d → e ≡ f → g ≡ h → process_of a c e g ≡ process_of b d f h
same_process a b c d e f g h p q r s = cc

no_tokens : (toks : List Tok) → says_of toks ≡ [] → toks ≡ []
no_tokens [] h = refl
no_tokens (t ∷ ts) h = absurd (cc)

-- a form for each item
each_reads : {X : Type 0} (f : X → Form) (same : X → X) (test : X → Bool) (layout : X → List Piece) → ((x : X) (toks : List Tok) (ps : List Piece) → test x ≡ true → says_of toks ≡ lexemes_in (layout x ++ ps) → Reads f same x toks (lexemes_in ps)) → (xs : List X) (toks : List Tok) (ps : List Piece) → list_all test xs ≡ true → says_of toks ≡ lexemes_in (flat_map layout xs ++ ps) → Reads (each f) (map same) xs toks (lexemes_in ps)
each_reads f same test layout one [] toks ps h k = record { got = []; takes = nothing_takes toks (lexemes_in ps) k; alike = refl }
each_reads f same test layout one (x ∷ xs) toks ps h k =
    let t = both (test x) (list_all test xs) h in
    let a = one x toks (flat_map layout xs ++ ps) t.0 (onto toks (layout x) (flat_map layout xs) ps k) in
    let b = each_reads f same test layout one xs a.takes.back ps t.1 a.takes.rest in
    record { got = a.got ∷ b.got; takes = then_takes a.takes b.takes; alike = ap2 ◌∷◌ a.alike b.alike }

-- names
path_reads : (p : Path) (toks : List Tok) (ps : List Piece) → says_of toks ≡ lexemes_in (path_layout p ++ ps) → Reads path_form path_at_start p toks (lexemes_in ps)
path_reads p toks ps k =
    let a = take_name p.process toks _ k in
    let b = take_says (mark Dot) a.takes.back _ a.takes.rest in
    let c = take_name p.port b.back _ b.rest in
    let d = take_says (mark Dot) c.takes.back _ c.takes.rest in
    let e = take_name p.out d.back (lexemes_in ps) d.rest in
    record {
      got = record { process = a.got; port = c.got; out = e.got };
      takes = then_takes a.takes (then_takes b (then_takes c.takes (then_takes d e.takes)));
      alike = same_path a.got p.process c.got p.port e.got p.out a.alike c.alike e.alike;
    }

source_reads : (s : Source) (toks : List Tok) (ps : List Piece) → says_of toks ≡ lexemes_in (source_layout s ++ ps) → Reads source_form source_at_start s toks (lexemes_in ps)
source_reads (Input w) toks ps k =
    let a = take_name w toks (lexemes_in ps) k in
    record { got = Input a.got; takes = a.takes; alike = ap Input a.alike }
source_reads (Out p) toks ps k =
    let a = path_reads p toks ps k in
    record { got = Out a.got; takes = a.takes; alike = ap Out a.alike }

next_reads : (w : Word) (toks : List Tok) (ps : List Piece) → is_param w ≡ true → says_of toks ≡ lexemes_in (next_param_layout w ++ ps) → Reads (λ (y : Word). symbol Comma ▹ named y) word_at_start w toks (lexemes_in ps)
next_reads w toks ps h k =
    let a = take_says (mark Comma) toks (word w.text ∷ lexemes_in ps) k in
    let b = take_name w a.back (lexemes_in ps) a.rest in
    record { got = b.got; takes = then_takes a b.takes; alike = b.alike }

params_reads : (ws : List Word) (toks : List Tok) (ps : List Piece) → list_all is_param ws ≡ true → says_of toks ≡ lexemes_in (params_layout ws ++ ps) → Reads (listed named) (map word_at_start) ws toks (lexemes_in ps)
params_reads [] toks ps h k = record { got = []; takes = nothing_takes toks (lexemes_in ps) k; alike = refl }
params_reads (w ∷ ws) toks ps h k =
    let t = both (is_param w) (list_all is_param ws) h in
    let a = take_name w toks (lexemes_in (flat_map next_param_layout ws ++ ps)) k in
    let b = each_reads (λ (y : Word). symbol Comma ▹ named y) word_at_start is_param next_param_layout next_reads ws a.takes.back ps t.1 a.takes.rest in
    record { got = a.got ∷ b.got; takes = then_takes a.takes b.takes; alike = ap2 ◌∷◌ a.alike b.alike }

-- outs
every_reads : (m : Option Num) (toks : List Tok) (ps : List Piece) → says_of toks ≡ lexemes_in (every_layout m ++ ps) → Reads every_form (option_map num_at_start) m toks (lexemes_in ps)
every_reads None toks ps k = record { got = None; takes = nothing_takes toks (lexemes_in ps) k; alike = refl }
every_reads (Some m) toks ps k =
    let a = take_says (key keys.Every) toks (digits m.value ∷ lexemes_in ps) k in
    let b = take_count m a.back (lexemes_in ps) a.rest in
    record { got = Some b.got; takes = then_takes a b.takes; alike = ap Some b.alike }

out_reads : (o : OutDecl) (toks : List Tok) (ps : List Piece) → is_out o ≡ true → says_of toks ≡ lexemes_in (out_layout o ++ ps) → Reads out_form out_at_start o toks (lexemes_in ps)
out_reads o toks ps h k =
    let tail = lexemes_in (every_layout o.every ++ ps) in
    let a = take_says (key keys.Out) toks (word o.name.text ∷ mark LeftParen ∷ digits o.width.value ∷ mark RightParen ∷ tail) k in
    let b = take_name o.name a.back (mark LeftParen ∷ digits o.width.value ∷ mark RightParen ∷ tail) a.rest in
    let c = take_says (mark LeftParen) b.takes.back (digits o.width.value ∷ mark RightParen ∷ tail) b.takes.rest in
    let d = take_count o.width c.back (mark RightParen ∷ tail) c.rest in
    let e = take_says (mark RightParen) d.takes.back tail d.takes.rest in
    let width = then_takes c (then_takes d.takes e) in
    let f = every_reads o.every width.back ps width.rest in
    record {
      got = record { name = b.got; width = d.got; every = f.got };
      takes = then_takes a (then_takes b.takes (then_takes width f.takes));
      alike = same_out b.got o.name d.got o.width f.got o.every b.alike d.alike f.alike;
    }

-- variables
start_takes : (n : ℤ) (toks : List Tok) (ps : List Piece) → says_of toks ≡ lexemes_in (start_layout n ++ ps) → Takes (start_form n) toks (lexemes_in ps)
start_takes (pos n) toks ps k =
    let a = take_says (digits (pos n)) toks (lexemes_in ps) k in
    record { front = a.front; back = a.back; cut = a.cut; is = inl a.is; rest = a.rest }
start_takes (negsuc n) toks ps k =
    let a = take_says (mark Minus) toks (digits (pos (suc n)) ∷ lexemes_in ps) k in
    let b = take_says (digits (pos (suc n))) a.back (lexemes_in ps) a.rest in
    let c = then_takes a b in
    record { front = c.front; back = c.back; cut = c.cut; is = inr (pos (suc n), refl, c.is); rest = c.rest }

var_reads : (v : VarDecl) (toks : List Tok) (ps : List Piece) → is_var v ≡ true → says_of toks ≡ lexemes_in (var_layout v ++ ps) → Reads var_form var_at_start v toks (lexemes_in ps)
var_reads v toks ps h k =
    let value = start_layout v.start ++ (feed ∷ []) ++ ps in
    let a = take_says (key keys.Var) toks (word v.name.text ∷ mark Assign ∷ lexemes_in value) k in
    let b = take_name v.name a.back (mark Assign ∷ lexemes_in value) a.rest in
    let c = take_says (mark Assign) b.takes.back (lexemes_in value) b.takes.rest in
    let d = start_takes v.start c.back (feed ∷ ps) (onto c.back (start_layout v.start) (feed ∷ []) ps c.rest) in
    record {
      got = record { name = b.got; start = v.start };
      takes = then_takes a (then_takes b.takes (then_takes c d));
      alike = ap (λ (w : Word). record { name = w; start = v.start }) b.alike;
    }

-- a handler's block
body_reads : (b : AstBlockTree) (toks : List Tok) (ps : List Piece) → are_stmts 7 b ≡ true → says_of toks ≡ lexemes_in (braced 1 (stmts_layout 2 b) ++ ps) → Reads body_form stmts_at_start b toks (lexemes_in ps)
body_reads b toks ps h k =
    let c = open_brace 1 (stmts_layout 2 b) ps toks k in
    let d = stmts_reads 7 2 b c.back (indent 1 ∷ say (mark RightBrace) ∷ ps) h c.rest in
    let f = take_says (mark RightBrace) d.takes.back (lexemes_in ps) d.takes.rest in
    let block = then_takes c (then_takes d.takes f) in
    let same : ast_block_depth d.got ≡ ast_block_depth b = same_blocks d.got b d.alike in
    let low : ast_block_depth b ≤ 7 = stmts_within 7 b h in
    record { got = d.got; takes = record { front = block.front; back = block.back; cut = block.cut; is = (omega (arith, same, low), block.is); rest = block.rest }; alike = d.alike }

-- ports
port_reads : (p : PortDeclTree) (toks : List Tok) (ps : List Piece) → is_port p ≡ true → says_of toks ≡ lexemes_in (port_layout p ++ ps) → Reads port_form port_at_start p toks (lexemes_in ps)
port_reads p toks ps h k =
    let t = both _ _ h in
    let u = both _ _ t.1 in
    let v = both _ _ u.1 in
    let w = both _ _ v.1 in
    let block = braced 1 (stmts_layout 2 p.body) in
    let outs = flat_map out_layout p.outs in
    let params = params_layout p.params in
    let source = source_layout p.source in
    let all = source ++ (space ∷ say (mark LeftParen) ∷ params) ++ (say (mark RightParen) ∷ []) ++ outs ++ (space ∷ block) ++ (feed ∷ []) ++ ps in
    let behind = space ∷ block ++ (feed ∷ ps) in
    let tail = params ++ (say (mark RightParen) ∷ (outs ++ behind)) in
    let a = take_says (key keys.Port) toks (word p.name.text ∷ key keys.From ∷ lexemes_in all) k in
    let b = take_name p.name a.back (key keys.From ∷ lexemes_in all) a.rest in
    let c = take_says (key keys.From) b.takes.back (lexemes_in all) b.takes.rest in
    let d = source_reads p.source c.back (space ∷ say (mark LeftParen) ∷ tail) (moved c.back all (source ++ (space ∷ say (mark LeftParen) ∷ tail)) c.rest (assoc6 source (space ∷ say (mark LeftParen) ∷ params) (say (mark RightParen) ∷ []) outs (space ∷ block) (feed ∷ []) ps)) in
    let e = take_says (mark LeftParen) d.takes.back (lexemes_in tail) d.takes.rest in
    let f = params_reads p.params e.back (say (mark RightParen) ∷ (outs ++ behind)) v.0 e.rest in
    let g = take_says (mark RightParen) f.takes.back (lexemes_in (outs ++ behind)) f.takes.rest in
    let names = then_takes e (then_takes f.takes g) in
    let i = each_reads out_form out_at_start is_out out_layout out_reads p.outs names.back behind w.0 names.rest in
    let j = body_reads p.body i.takes.back (feed ∷ ps) w.1 i.takes.rest in
    record {
      got = record { name = b.got; source = d.got; params = f.got; outs = i.got; body = j.got };
      takes = then_takes a (then_takes b.takes (then_takes c (then_takes d.takes (then_takes names (then_takes i.takes j.takes)))));
      alike = same_port (word_at_start b.got) (word_at_start p.name) (source_at_start d.got) (source_at_start p.source) (map word_at_start f.got) (map word_at_start p.params) (map out_at_start i.got) (map out_at_start p.outs) (stmts_at_start j.got) (stmts_at_start p.body) b.alike d.alike f.alike i.alike j.alike;
    }

-- parts of a graph
inside_reads : (w : Option Word) (toks : List Tok) (ps : List Piece) → says_of toks ≡ lexemes_in (inside_layout w ++ ps) → Reads inside_form (option_map word_at_start) w toks (lexemes_in ps)
inside_reads None toks ps k = record { got = None; takes = nothing_takes toks (lexemes_in ps) k; alike = refl }
inside_reads (Some w) toks ps k =
    let a = take_says (key keys.In) toks (word w.text ∷ lexemes_in ps) k in
    let b = take_name w a.back (lexemes_in ps) a.rest in
    record { got = Some b.got; takes = then_takes a b.takes; alike = ap Some b.alike }

item_reads : (i : ItemTree) (toks : List Tok) (ps : List Piece) → is_item i ≡ true → says_of toks ≡ lexemes_in (item_layout i ++ ps) → Reads item_form item_at_start i toks (lexemes_in ps)
item_reads (input i) toks ps h k =
    let tail = lexemes_in ps in
    let a = take_says (key keys.Input) toks (word i.name.text ∷ mark LeftParen ∷ digits i.width.value ∷ mark RightParen ∷ key keys.Period ∷ digits i.period.value ∷ tail) k in
    let b = take_name i.name a.back (mark LeftParen ∷ digits i.width.value ∷ mark RightParen ∷ key keys.Period ∷ digits i.period.value ∷ tail) a.rest in
    let c = take_says (mark LeftParen) b.takes.back (digits i.width.value ∷ mark RightParen ∷ key keys.Period ∷ digits i.period.value ∷ tail) b.takes.rest in
    let d = take_count i.width c.back (mark RightParen ∷ key keys.Period ∷ digits i.period.value ∷ tail) c.rest in
    let e = take_says (mark RightParen) d.takes.back (key keys.Period ∷ digits i.period.value ∷ tail) d.takes.rest in
    let f = then_takes c (then_takes d.takes e) in
    let g = take_says (key keys.Period) f.back (digits i.period.value ∷ tail) f.rest in
    let j = take_count i.period g.back tail g.rest in
    record {
      got = input_of b.got d.got j.got;
      takes = then_takes a (then_takes b.takes (then_takes f (then_takes g j.takes)));
      alike = ap3 input_of b.alike d.alike j.alike;
    }
item_reads (output o) toks ps h k =
    let tail = lexemes_in (path_layout o.path ++ (feed ∷ []) ++ ps) in
    let a = take_says (key keys.Output) toks (word o.name.text ∷ key keys.From ∷ tail) k in
    let b = take_name o.name a.back (key keys.From ∷ tail) a.rest in
    let c = take_says (key keys.From) b.takes.back tail b.takes.rest in
    let d = path_reads o.path c.back (feed ∷ ps) c.rest in
    record {
      got = output_of b.got d.got;
      takes = then_takes a (then_takes b.takes (then_takes c d.takes));
      alike = ap2 output_of b.alike d.alike;
    }
item_reads (resource r) toks ps h k =
    let a = take_says (key keys.Resource) toks (word r.name.text ∷ lexemes_in ps) k in
    let b = take_name r.name a.back (lexemes_in ps) a.rest in
    record { got = resource_of b.got; takes = then_takes a b.takes; alike = ap resource_of b.alike }
item_reads (process p) toks ps h k =
    let t = both _ _ h in
    let u = both _ _ t.1 in
    let v = both _ _ u.1 in
    let var_lines = flat_map var_layout p.vars in
    let port_lines = flat_map port_layout p.ports in
    let block = braced 0 (var_lines ++ port_lines) in
    let all = inside_layout p.inside ++ (space ∷ block) ++ (feed ∷ []) ++ ps in
    let behind = space ∷ block ++ (feed ∷ ps) in
    let end = indent 0 ∷ say (mark RightBrace) ∷ feed ∷ ps in
    let a = take_says (key keys.Process) toks (word p.name.text ∷ lexemes_in all) k in
    let b = take_name p.name a.back (lexemes_in all) a.rest in
    let c = inside_reads p.inside b.takes.back behind (moved b.takes.back all (inside_layout p.inside ++ behind) b.takes.rest (assoc3 (inside_layout p.inside) (space ∷ block) (feed ∷ []) ps)) in
    let d = open_brace 0 (var_lines ++ port_lines) (feed ∷ ps) c.takes.back c.takes.rest in
    let e = each_reads var_form var_at_start is_var var_layout var_reads p.vars d.back (port_lines ++ end) v.0 (onto d.back var_lines port_lines end d.rest) in
    let f = each_reads port_form port_at_start is_port port_layout port_reads p.ports e.takes.back end v.1 e.takes.rest in
    let lines = then_takes e.takes f.takes in
    let g = take_says (mark RightBrace) lines.back (lexemes_in ps) lines.rest in
    record {
      got = process_of b.got c.got e.got f.got;
      takes = then_takes a (then_takes b.takes (then_takes c.takes (then_takes d (then_takes lines g))));
      alike = same_process (word_at_start b.got) (word_at_start p.name) (option_map word_at_start c.got) (option_map word_at_start p.inside) (map var_at_start e.got) (map var_at_start p.vars) (map port_at_start f.got) (map port_at_start p.ports) b.alike c.alike e.alike f.alike;
    }

-- a whole graph
pub graph_reads : (items : List ItemTree) (toks : List Tok) → is_writable items ≡ true → says_of toks ≡ lexemes_in (layout_of items) → (read : List ItemTree) × each item_form read toks × (without_places read ≡ without_places items)
graph_reads items toks h k =
    let a = each_reads item_form item_at_start is_item item_layout item_reads items toks [] h (moved toks (layout_of items) (layout_of items ++ []) k (sym (append-nil (layout_of items)))) in
    let none : a.takes.back ≡ [] = no_tokens a.takes.back a.takes.rest in
    let all : toks ≡ a.takes.front = a.takes.cut ∙ ap (λ (ts : List Tok). a.takes.front ++ ts) none ∙ append-nil a.takes.front in
    (a.got, subst (each item_form a.got) (sym all) a.takes.is, a.alike)
