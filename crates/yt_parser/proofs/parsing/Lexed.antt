-- The tokens of a text that has no fault lie in it, and can be those of a graph.
use Rattle.std.proofs.Common.{ℕ, zero, suc, ◌≡◌, ◌+◌, ◌-◌, ◌<◌, ◌≤◌, ◌^◌, ◌==◌, ◌&&◌, nat_lt, Bool, true, false, if◌then◌else◌, List, [], ◌∷◌, length, take, drop, length-take, length-drop, Option, None, Some, Ok, Err, ℤ, pos, refl, ap, arith}
use Rattle.std.specs.List.{prefix_len, list_all}
use Rattle.std.proofs.lemmas.Grind.{common_steps}
use Rattle.std.proofs.lemmas.Bool.Decides.{nat_tests}
use Rattle.yt_base.specs.Digits.{is_digits, value_of, signed_of_text}
use Rattle.yt_graph.specs.declared.place.Place.{Place}
use Rattle.std.specs.Prelude.{nat_le}
use Rattle.yt_graph.specs.Names.{begins_as_word, is_name}
use Rattle.yt_lexer.specs.First.{is_letter, is_digit, is_word_byte, is_reserved, symbol_len, word_token, number_token, first_token}
use Rattle.yt_lexer.specs.Lexes.{next_from, IsTokenAt, Lexes}
use Rattle.yt_lexer.specs.declared.token.Token.{Token}
use Rattle.yt_lexer.specs.declared.token.TokenKind.{TokenKind}
use Rattle.yt_lexer.specs.declared.token.TokenKind.TheVariants.{Word, Key, Number, Symbol}
use Rattle.yt_lexer.specs.declared.token.LexFault.TheVariants.{BadByte, LongName}
use Rattle.yt_grammar.specs.Lexemes.{lexeme_of, digits, IsLexeme, AreTokens, toks_of}
use Rattle.yt_parser.specs.Inside.Signs.{IsSpan, AreSpans}

-- a token of so many bytes in front of a text lies in it and can be a graph's
pub record IsFine (text : List ℕ) (kind : TokenKind) (len : ℕ) : Type 0 where
  pub inside : len ≤ length text
  pub says : IsLexeme (lexeme_of kind (take len text))

-- the bytes of the longest front whose bytes are of a kind are of that kind
front_step : (p : ℕ → Bool) (x : ℕ) (xs : List ℕ) (b : Bool) → p x ≡ b → list_all p (take (prefix_len p xs) xs) ≡ true → list_all p (take (prefix_len p (x ∷ xs)) (x ∷ xs)) ≡ true
front_step p x xs true e h =
    let more : 1 + prefix_len p xs ≡ suc (prefix_len p xs) = omega arith in
    rw (e, more, e) h
front_step p x xs false e h = rw e refl

front_all : (p : ℕ → Bool) (xs : List ℕ) → list_all p (take (prefix_len p xs) xs) ≡ true
front_all p [] = refl
front_all p (x ∷ xs) = front_step p x xs (p x) refl (front_all p xs)

-- what makes a word a name
is_name-parts : (word : List ℕ) → begins_as_word word ≡ true → list_all is_word_byte word ≡ true → length word ≤ 32 → is_reserved word ≡ false → is_name word ≡ true
is_name-parts word begins all short free =
    let fits : nat_le (length word) 32 ≡ true = grind (arith, nat_tests) in
    rw (begins, all, fits, free) refl

-- as many bytes as a front has are that front
take-front : {X : Type 0} (n : ℕ) (xs : List X) → take (length (take n xs)) xs ≡ take n xs
take-front zero xs = refl
take-front (suc n) [] = refl
take-front (suc n) (x ∷ xs) = ap (λ ys. x ∷ ys) (take-front n xs)

-- a front begins as the whole does
begins-front : (n : ℕ) (b : ℕ) (bs : List ℕ) → 0 < n → is_letter b ≡ true → begins_as_word (take n (b ∷ bs)) ≡ true
begins-front zero b bs h e = absurd (omega arith)
begins-front (suc n) b bs h e = e

-- what a word is
word_by : (place : Place) (word : List ℕ) (p : TokenKind × ℕ) (long reserved : Bool) → nat_lt 32 (length word) ≡ long → is_reserved word ≡ reserved → begins_as_word word ≡ true → list_all is_word_byte word ≡ true → (if long then Err (LongName place) else Ok ((if reserved then Key else Word), length word)) ≡ Ok p → (p.1 ≡ length word) × IsLexeme (lexeme_of p.0 word)
word_by place word p true reserved l r h k e = absurd cc
word_by place word p false true l r h k e =
    let same : p ≡ (Key, length word) = cc in
    rw same (refl, tt)
word_by place word p false false l r h k e =
    let same : p ≡ (Word, length word) = cc in
    let short : length word ≤ 32 = grind (arith, nat_tests) in
    rw same (refl, is_name-parts word h k short r)

word_says : (place : Place) (word : List ℕ) (p : TokenKind × ℕ) → begins_as_word word ≡ true → list_all is_word_byte word ≡ true → word_token place word ≡ Ok p → (p.1 ≡ length word) × IsLexeme (lexeme_of p.0 word)
unfolding word_token
word_says place word p h k e = word_by place word p (nat_lt 32 (length word)) (is_reserved word) refl refl h k e

-- what digits are
natural_by : (long small : Bool) (v : ℕ) (z : ℤ) → nat_lt v (2 ^ 63) ≡ small → (if long && small then Some (pos v) else None) ≡ Some z → IsLexeme (digits z)
natural_by false small v z h e = absurd cc
natural_by true false v z h e = absurd cc
natural_by true true v z h e =
    let same : z ≡ pos v = cc in
    rw same (grind (arith, nat_tests))

natural : (c : ℕ) (cs : List ℕ) (z : ℤ) → (c == 45) ≡ false → signed_of_text (c ∷ cs) ≡ Some z → IsLexeme (digits z)
natural c cs z h e =
    let k = rw h at e in
    natural_by (is_digits (c ∷ cs)) (nat_lt (value_of (c ∷ cs)) (2 ^ 63)) (value_of (c ∷ cs)) z refl k

number_by : (place : Place) (ds : List ℕ) (p : TokenKind × ℕ) (o : Option ℤ) → signed_of_text ds ≡ o → ((z : ℤ) → o ≡ Some z → IsLexeme (digits z)) → number_token place ds ≡ Ok p → (p.1 ≡ length ds) × IsLexeme (lexeme_of p.0 ds)
unfolding number_token
number_by place ds p None o fine e = let k = rw o at e in absurd cc
number_by place ds p (Some n) o fine e =
    let k = rw o at e in
    let same : p ≡ (Number n, length ds) = cc in
    rw same (refl, fine n refl)

number_says : (place : Place) (n b : ℕ) (bs : List ℕ) (p : TokenKind × ℕ) → 0 < n → is_digit b ≡ true → number_token place (take n (b ∷ bs)) ≡ Ok p → (p.1 ≡ length (take n (b ∷ bs))) × IsLexeme (lexeme_of p.0 (take n (b ∷ bs)))
number_says place zero b bs p h d e = absurd (omega arith)
number_says place (suc n) b bs p h d e =
    let other : (b == 45) ≡ false = grind (arith, nat_tests) in
    number_by place (b ∷ take n bs) p (signed_of_text (b ∷ take n bs)) refl (λ z. natural b (take n bs) z other) e

-- what a symbol is
symbol_by : (place : Place) (len : ℕ) (text : List ℕ) (p : TokenKind × ℕ) (none : Bool) → (len == 0) ≡ none → len ≤ length text → (if none then Err (BadByte place) else Ok (Symbol, len)) ≡ Ok p → IsFine text p.0 p.1
symbol_by place len text p true h k e = absurd cc
symbol_by place len text p false h k e =
    let same : p ≡ (Symbol, len) = cc in
    rw same (record { inside = k; says = tt })

symbol_len-le : (text : List ℕ) → symbol_len text ≤ length text
symbol_len-le [] = omega arith
symbol_len-le (b ∷ []) = grind (arith, common_steps)
symbol_len-le (b ∷ c ∷ bs) = grind (arith, common_steps)

fine_front : (text : List ℕ) (n : ℕ) (p : TokenKind × ℕ) → (p.1 ≡ length (take n text)) × IsLexeme (lexeme_of p.0 (take n text)) → IsFine text p.0 p.1
fine_front text n p h = record {
  inside = omega (arith, h.0, length-take n text);
  says = rw (h.0, take-front n text) h.1;
}

some_front : (p : ℕ → Bool) (x : ℕ) (xs : List ℕ) → p x ≡ true → 0 < prefix_len p (x ∷ xs)
some_front p x xs e = rw e (omega arith)

-- the one of three that two tests choose
first_of : {X : Type 0} (l d : Bool) (x y z r : X) → l ≡ true → (if l then x else (if d then y else z)) ≡ r → x ≡ r
first_of l d x y z r h e = rw h at e

second_of : {X : Type 0} (l d : Bool) (x y z r : X) → l ≡ false → d ≡ true → (if l then x else (if d then y else z)) ≡ r → y ≡ r
second_of l d x y z r h k e = rw (h, k) at e

third_of : {X : Type 0} (l d : Bool) (x y z r : X) → l ≡ false → d ≡ false → (if l then x else (if d then y else z)) ≡ r → z ≡ r
third_of l d x y z r h k e = rw (h, k) at e

fine_by : (place : Place) (b : ℕ) (bs : List ℕ) (p : TokenKind × ℕ) (letter digit : Bool) → is_letter b ≡ letter → is_digit b ≡ digit → first_token place (b ∷ bs) ≡ Ok p → IsFine (b ∷ bs) p.0 p.1
unfolding first_token
fine_by place b bs p true digit l d e =
    let word : is_word_byte b ≡ true = rw l refl in
    let n = prefix_len is_word_byte (b ∷ bs) in
    fine_front (b ∷ bs) n p (word_says place (take n (b ∷ bs)) p (begins-front n b bs (some_front is_word_byte b bs word) l) (front_all is_word_byte (b ∷ bs)) (first_of (is_letter b) (is_digit b) _ _ _ (Ok p) l e))
fine_by place b bs p false true l d e =
    let n = prefix_len is_digit (b ∷ bs) in
    fine_front (b ∷ bs) n p (number_says place n b bs p (some_front is_digit b bs d) d (second_of (is_letter b) (is_digit b) _ _ _ (Ok p) l d e))
fine_by place b bs p false false l d e =
    symbol_by place (symbol_len (b ∷ bs)) (b ∷ bs) p (symbol_len (b ∷ bs) == 0) refl (symbol_len-le (b ∷ bs)) (third_of (is_letter b) (is_digit b) _ _ _ (Ok p) l d e)

first_fine : (place : Place) (text : List ℕ) (p : TokenKind × ℕ) → first_token place text ≡ Ok p → IsFine text p.0 p.1
unfolding first_token
first_fine place [] p e = absurd cc
first_fine place (b ∷ bs) p e = fine_by place b bs p (is_letter b) (is_digit b) refl refl e

-- a token lies in its text
span : (text : List ℕ) (at : ℕ) (t : Token) → IsTokenAt text at t → IsSpan text t
span text at t h =
    let fine = first_fine t.place (drop t.from text) (t.kind, h.len) h.read in
    (omega (arith, h.ends), omega (arith, h.ends, h.more, fine.inside, length-drop t.from text))

lexeme : (text : List ℕ) (at : ℕ) (t : Token) → IsTokenAt text at t → IsLexeme (lexeme_of t.kind (take (t.to - t.from) (drop t.from text)))
lexeme text at t h =
    let fine = first_fine t.place (drop t.from text) (t.kind, h.len) h.read in
    let len : t.to - t.from ≡ h.len = omega (arith, h.ends) in
    rw len fine.says

-- the tokens of a text lie in it
pub lexes-spans : (text : List ℕ) (at : ℕ) (ts : List Token) → Lexes text at ts None → AreSpans text ts
lexes-spans text at [] h = tt
lexes-spans text at (t ∷ ts) h = (span text (next_from text at) t h.0, lexes-spans text t.to ts h.1)

-- and can be those of a graph
pub lexes-tokens : (text : List ℕ) (at : ℕ) (ts : List Token) → Lexes text at ts None → AreTokens (toks_of text ts)
lexes-tokens text at [] h = tt
lexes-tokens text at (t ∷ ts) h = (lexeme text (next_from text at) t h.0, lexes-tokens text t.to ts h.1)
