-- Each text has tokens and an end of them: none, or a fault.
use Rattle.std.proofs.Common.{◌≡◌, ℕ, zero, suc, ◌+◌, ◌<◌, ◌≤◌, ◌==◌, nat_lt, Bool, true, false, if◌then◌else◌, List, [], ◌∷◌, length, take, drop, length-take, length-drop, Option, None, Some, Ok, Err, ℤ, refl, ap, ⊎_elim, inl, inr, arith}
use Rattle.std.specs.Prelude.{Result, ◌⊎◌}
use Rattle.std.specs.List.{prefix_len}
use Rattle.std.proofs.lemmas.Grind.{common_steps}
use Rattle.yt_base.specs.Digits.{signed_of_text}
use Rattle.yt_graph.specs.declared.place.Place.{Place}
use Rattle.yt_lexer.specs.First.{blank_len_in, is_blank, is_in_comment, is_letter, is_digit, is_word_byte, is_reserved, symbol_len, word_token, number_token, first_token}
use Rattle.yt_lexer.specs.Lexes.{next_from, Lexes}
use Rattle.yt_lexer.specs.Places.{place_of}
use Rattle.yt_lexer.specs.declared.token.Token.{Token}
use Rattle.yt_lexer.specs.declared.token.TokenKind.{TokenKind}
use Rattle.yt_lexer.specs.declared.token.TokenKind.TheVariants.{Word, Key, Number, Symbol}
use Rattle.yt_lexer.specs.declared.token.LexFault.{LexFault}
use Rattle.yt_lexer.specs.declared.token.LexFault.TheVariants.{BadByte, LongName}

-- white space and comments are in their text

blank_by : (blank : Bool) (n m : ℕ) → n ≤ m → (if blank then 1 + n else 0) ≤ suc m
blank_by true n m h = omega (arith, h)
blank_by false n m h = omega arith

blank_len-le : (comment : Bool) (bs : List ℕ) → blank_len_in comment bs ≤ length bs
blank_len-le comment [] = omega arith
blank_len-le comment (b ∷ bs) = blank_by (is_blank comment b) (blank_len_in (is_in_comment comment b) bs) (length bs) (blank_len-le (is_in_comment comment b) bs)

-- a token has some bytes of its text

pub record IsInside (text : List ℕ) (len : ℕ) : Type 0 where
  pub some : 0 < len
  pub inside : len ≤ length text

front_inside : (b : ℕ) (bs : List ℕ) (n len : ℕ) → 0 < n → len ≡ length (take n (b ∷ bs)) → IsInside (b ∷ bs) len
front_inside b bs zero len h e = absurd (omega (arith, h))
front_inside b bs (suc n) len h e = record { some = omega (arith, e); inside = omega (arith, e, length-take (suc n) (b ∷ bs)) }

word_by : (place : Place) (word : List ℕ) (kind : TokenKind) (p : TokenKind × ℕ) (long : Bool) → (if long then Err (LongName place) else Ok (kind, length word)) ≡ Ok p → p.1 ≡ length word
word_by place word kind p true e = absurd cc
word_by place word kind p false e = let same : p ≡ (kind, length word) = cc in ap (λ (q : TokenKind × ℕ). q.1) same

word_len : (place : Place) (word : List ℕ) (p : TokenKind × ℕ) → word_token place word ≡ Ok p → p.1 ≡ length word
unfolding word_token
word_len place word p e = word_by place word (if is_reserved word then Key else Word) p (nat_lt 32 (length word)) e

number_by : (place : Place) (ds : List ℕ) (p : TokenKind × ℕ) (o : Option ℤ) → signed_of_text ds ≡ o → number_token place ds ≡ Ok p → p.1 ≡ length ds
unfolding number_token
number_by place ds p None o e = let k = rw o at e in absurd cc
number_by place ds p (Some n) o e =
    let k = rw o at e in
    let same : p ≡ (Number n, length ds) = cc in
    ap (λ (q : TokenKind × ℕ). q.1) same

symbol_by : (place : Place) (len : ℕ) (text : List ℕ) (p : TokenKind × ℕ) → len ≤ length text → (none : Bool) → (len == 0) ≡ none → (if none then Err (BadByte place) else Ok (Symbol, len)) ≡ Ok p → IsInside text p.1
symbol_by place len text p h true k e = absurd cc
symbol_by place len text p h false k e =
    let same : p ≡ (Symbol, len) = cc in
    let is : p.1 ≡ len = ap (λ (q : TokenKind × ℕ). q.1) same in
    record { some = grind (arith, common_steps, is, k); inside = omega (arith, is, h) }

symbol_len-le : (text : List ℕ) → symbol_len text ≤ length text
symbol_len-le [] = omega arith
symbol_len-le (b ∷ []) = grind (arith, common_steps)
symbol_len-le (b ∷ c ∷ bs) = grind (arith, common_steps)

some_front : (p : ℕ → Bool) (x : ℕ) (xs : List ℕ) → p x ≡ true → 0 < prefix_len p (x ∷ xs)
some_front p x xs e = rw e (omega arith)

-- the one of three that two tests choose
first_of : {X : Type 0} (l d : Bool) (x y z r : X) → l ≡ true → (if l then x else (if d then y else z)) ≡ r → x ≡ r
first_of l d x y z r h e = rw h at e

second_of : {X : Type 0} (l d : Bool) (x y z r : X) → l ≡ false → d ≡ true → (if l then x else (if d then y else z)) ≡ r → y ≡ r
second_of l d x y z r h k e = rw (h, k) at e

third_of : {X : Type 0} (l d : Bool) (x y z r : X) → l ≡ false → d ≡ false → (if l then x else (if d then y else z)) ≡ r → z ≡ r
third_of l d x y z r h k e = rw (h, k) at e

inside_by : (place : Place) (b : ℕ) (bs : List ℕ) (p : TokenKind × ℕ) (letter digit : Bool) → is_letter b ≡ letter → is_digit b ≡ digit → first_token place (b ∷ bs) ≡ Ok p → IsInside (b ∷ bs) p.1
unfolding first_token
inside_by place b bs p true digit l d e =
    let word : is_word_byte b ≡ true = rw l refl in
    let n = prefix_len is_word_byte (b ∷ bs) in
    front_inside b bs n p.1 (some_front is_word_byte b bs word) (word_len place (take n (b ∷ bs)) p (first_of (is_letter b) (is_digit b) _ _ _ (Ok p) l e))
inside_by place b bs p false true l d e =
    let n = prefix_len is_digit (b ∷ bs) in
    front_inside b bs n p.1 (some_front is_digit b bs d) (number_by place (take n (b ∷ bs)) p (signed_of_text (take n (b ∷ bs))) refl (second_of (is_letter b) (is_digit b) _ _ _ (Ok p) l d e))
inside_by place b bs p false false l d e =
    symbol_by place (symbol_len (b ∷ bs)) (b ∷ bs) p (symbol_len-le (b ∷ bs)) (symbol_len (b ∷ bs) == 0) refl (third_of (is_letter b) (is_digit b) _ _ _ (Ok p) l d e)

token_inside : (place : Place) (text : List ℕ) (p : TokenKind × ℕ) → first_token place text ≡ Ok p → IsInside text p.1
unfolding first_token
token_inside place [] p e = absurd cc
token_inside place (b ∷ bs) p e = inside_by place b bs p (is_letter b) (is_digit b) refl refl e

-- what stands from a byte on

pub record Lexed (text : List ℕ) (at : ℕ) : Type 0 where
  pub tokens : List Token
  pub end : Option LexFault
  pub lexed : Lexes text at tokens end

next_within : (text : List ℕ) (at : ℕ) → at ≤ length text → next_from text at ≤ length text
next_within text at here = omega (arith, here, blank_len-le false (drop at text), length-drop at text)

last_or_more : (n m : ℕ) → n ≤ m → (n ≡ m) ⊎ (n < m)
last_or_more n m h = by (nat_lt n m) refl
  where
    by : (less : Bool) → nat_lt n m ≡ less → (n ≡ m) ⊎ (n < m)
    by true e = inr (grind (arith, common_steps, e))
    by false e = inl (grind (arith, common_steps, e, h))

lex_token : (text : List ℕ) (at : ℕ) → next_from text at < length text → ((to : ℕ) → at < to → to ≤ length text → Lexed text to) → Lexed text at
lex_token text at more on = by (first_token (place_of text (next_from text at)) (drop (next_from text at) text)) refl
  where
    by : (r : Result (TokenKind × ℕ) LexFault) → first_token (place_of text (next_from text at)) (drop (next_from text at) text) ≡ r → Lexed text at
    by (Err fault) read = record { tokens = []; end = Some fault; lexed = record { more = more; read = read } }
    by (Ok p) read =
        let from = next_from text at in
        let there = token_inside (place_of text from) (drop from text) p read in
        let rest = on (from + p.1) (omega (arith, there.some)) (omega (arith, more, there.inside, length-drop from text)) in
        record {
          tokens = record { kind = p.0; from = from; to = from + p.1; place = place_of text from } ∷ rest.tokens;
          end = rest.end;
          lexed = (record { begins = refl; more = more; placed = refl; len = p.1; read = read; ends = refl }, rest.lexed);
        }

lex_all : (fuel : ℕ) (text : List ℕ) (at : ℕ) → at ≤ length text → length text ≤ at + fuel → Lexed text at
lex_all zero text at here enough = let next : next_from text at ≡ length text = omega (arith, next_within text at here, enough) in record { tokens = []; end = None; lexed = next }
lex_all (suc fuel) text at here enough =
    ⊎_elim
    (λ (last : next_from text at ≡ length text). record { tokens = []; end = None; lexed = last })
    (λ (more : next_from text at < length text). lex_token text at more (λ to later inside. lex_all fuel text to inside (omega (arith, later, enough))))
    (last_or_more (next_from text at) (length text) (next_within text at here))

pub lexed : (text : List ℕ) → Lexed text 0
lexed text = lex_all (length text) text 0 (omega arith) (omega arith)
