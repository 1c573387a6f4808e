-- Marks are read whole, one by one.
use Rattle.std.proofs.Common.{◌≡◌, ℕ, Bool, true, false, cond, eqb, eqb-true, List, [], ◌∷◌, ◌++◌, length, refl, sym, ap, ◌∙◌, arith}
use Rattle.yt_graph.specs.declared.place.Place.{Place}
use Rattle.yt_grammar.specs.declared.sign.Mark.{Mark}
use Rattle.yt_grammar.specs.declared.sign.Mark.TheVariants.{LeftBrace, RightBrace, LeftParen, RightParen, Comma, Dot, Assign, Plus, Minus, Star, Slash, Percent, Less, LessEqual, Greater, GreaterEqual, Equal, NotEqual}
use Rattle.yt_grammar.specs.Lexemes.{mark_text}
use Rattle.yt_lexer.specs.First.{first_token, symbol_token}
use Rattle.yt_graph_laws.specs.Symbols.{IsLongest, SymbolsAreMarks}

-- a mark with which a longer one begins, where that one isn't there
short : (place : Place) (b : ℕ) (mark longer : Mark) (rest : List ℕ) → mark_text mark ≡ b ∷ [] → mark_text longer ≡ b ∷ 61 ∷ [] → IsLongest mark rest →
    (c : ℕ) (cs : List ℕ) → rest ≡ c ∷ cs → eqb c 61 ≡ false
short place b mark longer rest one two longest c cs is = by (eqb c 61) refl
  where
    by : (t : Bool) → eqb c 61 ≡ t → t ≡ false
    by false e = refl
    by true e =
        let whole : mark_text mark ++ rest ≡ mark_text longer ++ cs =
        ap (λ l. l ++ rest) one ∙ ap (λ l. b ∷ l) (is ∙ ap (λ (n : ℕ). n ∷ cs) (eqb-true c 61 e)) ∙ ap (λ l. l ++ cs) (sym two) in
        let le = longest longer cs whole in
        let a : length (mark_text mark) ≡ 1 = ap length one in
        let d : length (mark_text longer) ≡ 2 = ap length two in
        absurd (omega arith)

pub symbols_are_marks : SymbolsAreMarks
unfolding first_token
symbols_are_marks place LeftBrace [] h = refl
symbols_are_marks place LeftBrace (c ∷ cs) h = refl
symbols_are_marks place RightBrace [] h = refl
symbols_are_marks place RightBrace (c ∷ cs) h = refl
symbols_are_marks place LeftParen [] h = refl
symbols_are_marks place LeftParen (c ∷ cs) h = refl
symbols_are_marks place RightParen [] h = refl
symbols_are_marks place RightParen (c ∷ cs) h = refl
symbols_are_marks place Comma [] h = refl
symbols_are_marks place Comma (c ∷ cs) h = refl
symbols_are_marks place Dot [] h = refl
symbols_are_marks place Dot (c ∷ cs) h = refl
symbols_are_marks place Plus [] h = refl
symbols_are_marks place Plus (c ∷ cs) h = refl
symbols_are_marks place Minus [] h = refl
symbols_are_marks place Minus (c ∷ cs) h = refl
symbols_are_marks place Star [] h = refl
symbols_are_marks place Star (c ∷ cs) h = refl
symbols_are_marks place Slash [] h = refl
symbols_are_marks place Slash (c ∷ cs) h = refl
symbols_are_marks place Percent [] h = refl
symbols_are_marks place Percent (c ∷ cs) h = refl
symbols_are_marks place Assign [] h = refl
symbols_are_marks place Assign (c ∷ cs) h = ap (λ t. symbol_token place (cond t 2 1)) (short place 61 Assign Equal (c ∷ cs) refl refl h c cs refl)
symbols_are_marks place Less [] h = refl
symbols_are_marks place Less (c ∷ cs) h = ap (λ t. symbol_token place (cond t 2 1)) (short place 60 Less LessEqual (c ∷ cs) refl refl h c cs refl)
symbols_are_marks place Greater [] h = refl
symbols_are_marks place Greater (c ∷ cs) h = ap (λ t. symbol_token place (cond t 2 1)) (short place 62 Greater GreaterEqual (c ∷ cs) refl refl h c cs refl)
symbols_are_marks place LessEqual rest h = refl
symbols_are_marks place GreaterEqual rest h = refl
symbols_are_marks place Equal rest h = refl
symbols_are_marks place NotEqual rest h = refl
