-- Each symbol in front of a text is a mark.
use Rattle.std.proofs.Common.{◌≡◌, ℕ, zero, suc, ◌+◌, ◌-◌, ◌≤◌, Bool, true, false, cond, eqb, eqb-true, leb-true, List, [], ◌∷◌, ◌++◌, length, Result, Ok, Err, Option, Some, None, refl, sym, ap, ◌∙◌, subst, ⊎_elim, arith, true≢false}
use Rattle.std.specs.Prelude.{ℤ, ◌&&◌, ◌||◌, nat_le, nat_lt, take}
use Rattle.std.proofs.lemmas.Bool.{and_parts, or_cases}
use Rattle.yt_graph.specs.declared.place.Place.{Place}
use Rattle.yt_grammar.specs.declared.sign.Mark.{Mark}
use Rattle.yt_grammar.specs.declared.sign.Mark.TheVariants.{LeftBrace, RightBrace, LeftParen, RightParen, Comma, Dot, Assign, Plus, Minus, Star, Slash, Percent, Less, LessEqual, Greater, GreaterEqual, Equal, NotEqual}
use Rattle.yt_grammar.specs.Lexemes.{mark_text}
use Rattle.yt_lexer.specs.declared.token.TokenKind.{TokenKind}
use Rattle.yt_lexer.specs.declared.token.TokenKind.TheVariants.{Word, Key, Number, Symbol}
use Rattle.yt_lexer.specs.declared.token.LexFault.{LexFault}
use Rattle.yt_lexer.specs.declared.token.LexFault.TheVariants.{LongName}
use Rattle.yt_base.specs.Digits.{signed_of_text}
use Rattle.std.specs.List.{prefix_len}
use Rattle.yt_lexer.specs.First.{first_token, is_symbol, takes_equals, symbol_len, symbol_token, is_letter, is_digit, is_word_byte, is_reserved, word_token, number_token}
use Rattle.yt_graph_laws.specs.Symbols.{IsMark, SymbolsAreOnlyMarks}

abbrev OneByte : ℕ → Type 0
OneByte b = (m : Mark) × (mark_text m ≡ b ∷ [])

low : (k : ℕ) → k ≤ 7 → OneByte (40 + k)
low zero le = (LeftParen, refl)
low (suc zero) le = (RightParen, refl)
low (suc (suc zero)) le = (Star, refl)
low (suc (suc (suc zero))) le = (Plus, refl)
low (suc (suc (suc (suc zero)))) le = (Comma, refl)
low (suc (suc (suc (suc (suc zero))))) le = (Minus, refl)
low (suc (suc (suc (suc (suc (suc zero)))))) le = (Dot, refl)
low (suc (suc (suc (suc (suc (suc (suc zero))))))) le = (Slash, refl)
low (suc (suc (suc (suc (suc (suc (suc (suc k)))))))) le = absurd (omega arith)

middle : (k : ℕ) → k ≤ 2 → OneByte (60 + k)
middle zero le = (Less, refl)
middle (suc zero) le = (Assign, refl)
middle (suc (suc zero)) le = (Greater, refl)
middle (suc (suc (suc k))) le = absurd (omega arith)

at_byte : (b n : ℕ) → eqb b n ≡ true → OneByte n → OneByte b
at_byte b n e one = subst OneByte (sym (eqb-true b n e)) one

one_byte : (b : ℕ) → is_symbol b ≡ true → OneByte b
one_byte b e =
    ⊎_elim
    (λ (h : (nat_le 40 b && nat_le b 47) ≡ true).
    let p = and_parts (nat_le 40 b) (nat_le b 47) h in
    let x = leb-true 40 b p.0 in
    let y = leb-true b 47 p.1 in
    let n : 40 + (b - 40) ≡ b = omega arith in
    subst OneByte n (low (b - 40) (omega arith)))
    (λ r. ⊎_elim
    (λ (h : (nat_le 60 b && nat_le b 62) ≡ true).
    let p = and_parts (nat_le 60 b) (nat_le b 62) h in
    let x = leb-true 60 b p.0 in
    let y = leb-true b 62 p.1 in
    let n : 60 + (b - 60) ≡ b = omega arith in
    subst OneByte n (middle (b - 60) (omega arith)))
    (λ s. ⊎_elim
    (λ (h : eqb b 37 ≡ true). at_byte b 37 h (Percent, refl))
    (λ t. ⊎_elim
    (λ (h : eqb b 123 ≡ true). at_byte b 123 h (LeftBrace, refl))
    (λ (h : eqb b 125 ≡ true). at_byte b 125 h (RightBrace, refl))
    (or_cases (eqb b 123) (eqb b 125) t))
    (or_cases (eqb b 37) (eqb b 123 || eqb b 125) s))
    (or_cases (nat_le 60 b && nat_le b 62) (eqb b 37 || (eqb b 123 || eqb b 125)) r))
    (or_cases (nat_le 40 b && nat_le b 47) ((nat_le 60 b && nat_le b 62) || (eqb b 37 || (eqb b 123 || eqb b 125))) e)

is_one : (b : ℕ) (bs : List ℕ) → is_symbol b ≡ true → IsMark (b ∷ bs) 1
is_one b bs e = let one = one_byte b e in record { mark = one.0; rest = bs; parts = ap (λ l. l ++ bs) (sym one.1); count = sym (ap length one.1) }

is_two : (b c : ℕ) (bs : List ℕ) → takes_equals b ≡ true → eqb c 61 ≡ true → IsMark (b ∷ c ∷ bs) 2
is_two b c bs e f =
    let is : c ≡ 61 = eqb-true c 61 f in
    let at : (n : ℕ) (m : Mark) → eqb b n ≡ true → mark_text m ≡ n ∷ 61 ∷ [] → IsMark (b ∷ c ∷ bs) 2 = λ n m h t. record { mark = m; rest = bs; parts = ap (λ x. x ∷ c ∷ bs) (eqb-true b n h) ∙ (ap (λ x. n ∷ x ∷ bs) is ∙ ap (λ l. l ++ bs) (sym t)); count = sym (ap length t) } in
    ⊎_elim
    (λ (h : eqb b 60 ≡ true). at 60 LessEqual h refl)
    (λ r. ⊎_elim
    (λ (h : eqb b 62 ≡ true). at 62 GreaterEqual h refl)
    (λ s. ⊎_elim (λ (h : eqb b 61 ≡ true). at 61 Equal h refl) (λ (h : eqb b 33 ≡ true). at 33 NotEqual h refl) (or_cases (eqb b 61) (eqb b 33) s))
    (or_cases (eqb b 62) (eqb b 61 || eqb b 33) r))
    (or_cases (eqb b 60) (eqb b 62 || (eqb b 61 || eqb b 33)) e)

abbrev kind_is : TokenKind → Bool
kind_is Word = false
kind_is Key = false
kind_is (Number n) = false
kind_is Symbol = true

abbrev is_sym : Result (TokenKind × ℕ) LexFault → Bool
is_sym (Ok p) = kind_is p.0
is_sym (Err e) = false

abbrev len_of : Result (TokenKind × ℕ) LexFault → ℕ
len_of (Ok p) = p.1
len_of (Err e) = 0

word_no : (place : Place) (w : List ℕ) → is_sym (word_token place w) ≡ false
unfolding word_token
word_no place w = by (nat_lt 32 (length w)) (is_reserved w)
  where
    by : (a r : Bool) → is_sym (cond a (Err (LongName place)) (Ok (cond r Key Word, length w))) ≡ false
    by true r = refl
    by false true = refl
    by false false = refl

number_no : (place : Place) (w : List ℕ) → is_sym (number_token place w) ≡ false
unfolding number_token
number_no place w = by (signed_of_text w) refl
  where
    by : (o : Option ℤ) → signed_of_text w ≡ o → is_sym (number_token place w) ≡ false
    by None e = rw e refl
    by (Some n) e = rw e refl

symbol_is : (place : Place) (text : List ℕ) (len : ℕ) → symbol_token place (symbol_len text) ≡ Ok (Symbol, len) → IsMark text len
symbol_is place [] len e = absurd (true≢false (sym (ap is_sym e)))
symbol_is place (b ∷ []) len e = by (is_symbol b) refl e
  where
    by : (s : Bool) → is_symbol b ≡ s → symbol_token place (cond s 1 0) ≡ Ok (Symbol, len) → IsMark (b ∷ []) len
    by false s h = absurd (true≢false (sym (ap is_sym h)))
    by true s h = subst (IsMark (b ∷ [])) (ap len_of h) (is_one b [] s)
symbol_is place (b ∷ c ∷ bs) len e = by (takes_equals b && eqb c 61) refl (is_symbol b) refl e
  where
    by : (t : Bool) → (takes_equals b && eqb c 61) ≡ t → (s : Bool) → is_symbol b ≡ s → symbol_token place (cond t 2 (cond s 1 0)) ≡ Ok (Symbol, len) → IsMark (b ∷ c ∷ bs) len
    by true t s s_is h = let p = and_parts (takes_equals b) (eqb c 61) t in subst (IsMark (b ∷ c ∷ bs)) (ap len_of h) (is_two b c bs p.0 p.1)
    by false t true s_is h = subst (IsMark (b ∷ c ∷ bs)) (ap len_of h) (is_one b (c ∷ bs) s_is)
    by false t false s_is h = absurd (true≢false (sym (ap is_sym h)))

pub symbols_are_only_marks : SymbolsAreOnlyMarks
unfolding first_token
symbols_are_only_marks place [] len e = absurd (true≢false (sym (ap is_sym e)))
symbols_are_only_marks place (b ∷ bs) len e = by (is_letter b) (is_digit b) e
  where
    word : List ℕ
    word = take (prefix_len is_word_byte (b ∷ bs)) (b ∷ bs)

    digits : List ℕ
    digits = take (prefix_len is_digit (b ∷ bs)) (b ∷ bs)

    by : (l d : Bool) → cond l (word_token place word) (cond d (number_token place digits) (symbol_token place (symbol_len (b ∷ bs)))) ≡ Ok (Symbol, len) → IsMark (b ∷ bs) len
    by true d h = absurd (true≢false (sym (ap is_sym h) ∙ word_no place word))
    by false true h = absurd (true≢false (sym (ap is_sym h) ∙ number_no place digits))
    by false false h = symbol_is place (b ∷ bs) len h
