-- Each token's own text is read as this token, where nothing behind it goes on with it.
use Rattle.std.proofs.Common.{ℕ, ◌≡◌, ◌<◌, ◌≤◌, ◌^◌, List, [], ◌∷◌, ◌++◌, length, take, Bool, true, false, ◌&&◌, not, Ok, Some, refl, ap, ◌∙◌, sym, arith}
use Rattle.std.proofs.lemmas.Grind.{common_steps}
use Rattle.std.proofs.lemmas.Bool.Decides.{nat_tests}
use Rattle.std.proofs.lemmas.List.{take_at}
use Rattle.std.proofs.lemmas.List.Folds.{prefix_len-append}
use Rattle.std.specs.Prelude.{ℤ, pos, negsuc, nat_le, if◌then◌else◌}
use Rattle.std.proofs.lemmas.Fmt.{decimal_nonempty}
use Rattle.std.specs.Fmt.{decimal}
use Rattle.std.specs.List.{prefix_len, list_all}
use Rattle.yt_base.specs.Digits.{signed_of_text}
use Rattle.yt_base.proofs.Lemmas.{signed_of_text-decimal, decimal_passes}
use Rattle.yt_graph.specs.declared.place.Place.{Place}
use Rattle.yt_graph.specs.Names.{begins_as_word, is_name}
use Rattle.yt_lexer.specs.First.{is_blank, blank_len, is_letter, is_digit, is_word_byte, is_reserved, symbol_len, word_token, number_token, symbol_token, first_token}
use Rattle.yt_lexer.specs.declared.token.TokenKind.{TokenKind}
use Rattle.yt_lexer.specs.declared.token.TokenKind.TheVariants.{Word, Key, Number, Symbol}
use Rattle.yt_grammar.specs.declared.sign.Mark.{Mark}
use Rattle.yt_grammar.specs.Lexemes.{keyword_text, mark_text, Lexeme, word, key, mark, digits, lexeme_of, IsLexeme}
use Rattle.yt_grammar.specs.CanonicalText.{lexeme_text}
use Rattle.yt_grammar.proofs.Lemmas.{both}
use Rattle.yt_printer.proofs.printing.Marks.{first_passes, is_plain, is_key, StopsMark, symbol_len-mark, is_mark}

-- the bytes don't go on with the token
abbrev pub Stops : Lexeme → List ℕ → Type 0
Stops (word w) more = first_passes is_word_byte more ≡ false
Stops (key k) more = first_passes is_word_byte more ≡ false
Stops (digits n) more = first_passes is_digit more ≡ false
Stops (mark m) more = StopsMark m more

-- in front of more bytes these are read as this token
pub record IsRead (l : Lexeme) (bytes more : List ℕ) : Type 0 where
  pub kind : TokenKind
  pub some : 0 < length bytes
  pub solid : blank_len (bytes ++ more) ≡ 0
  pub read : (place : Place) → first_token place (bytes ++ more) ≡ Ok (kind, length bytes)
  pub means : lexeme_of kind bytes ≡ l

-- nothing in front passes
none_passes : (p : ℕ → Bool) (more : List ℕ) → first_passes p more ≡ false → prefix_len p more ≡ 0
none_passes p [] h = refl
none_passes p (b ∷ bs) h = rw h refl

-- the longest front that passes is all of it
all_prefix : (p : ℕ → Bool) (w : List ℕ) → list_all p w ≡ true → prefix_len p w ≡ length w
all_prefix p [] h = refl
all_prefix p (b ∷ bs) h =
    let here : p b ≡ true = grind (arith, common_steps) in
    let rest : list_all p bs ≡ true = grind (arith, common_steps) in
    let more : prefix_len p bs ≡ length bs = all_prefix p bs rest in
    grind (arith, common_steps)

-- all pass, and nothing behind
all_pass : (p : ℕ → Bool) (w more : List ℕ) → prefix_len p w ≡ length w → first_passes p more ≡ false → prefix_len p (w ++ more) ≡ length w
all_pass p w more h k =
    let none : prefix_len p more ≡ 0 = none_passes p more k in
    let whole = prefix_len-append p w more in
    grind (arith, common_steps)

-- a letter is no white space, and no digit
letter_solid : (b : ℕ) → is_letter b ≡ true → is_blank false b ≡ false
letter_solid b h = grind (arith, nat_tests)

digit_solid : (b : ℕ) → is_digit b ≡ true → is_blank false b ≡ false
digit_solid b h = grind (arith, nat_tests)

digit_no_letter : (b : ℕ) → is_digit b ≡ true → is_letter b ≡ false
digit_no_letter b h = grind (arith, nat_tests)

-- what bytes are read as, whose kind is this
pub record IsReadAs (kind : TokenKind) (bytes more : List ℕ) : Type 0 where
  pub some : 0 < length bytes
  pub solid : blank_len (bytes ++ more) ≡ 0
  pub read : (place : Place) → first_token place (bytes ++ more) ≡ Ok (kind, length bytes)

-- a word's kind, by whether it is reserved
abbrev word_kind : Bool → TokenKind
word_kind r = if r then Key else Word

word_token_is : (place : Place) (w : List ℕ) (r : Bool) → is_reserved w ≡ r → length w ≤ 32 → word_token place w ≡ Ok (word_kind r, length w)
unfolding word_token
word_token_is place w r h k = grind (arith, nat_tests)

first_word : (place : Place) (b : ℕ) (bs : List ℕ) → is_letter b ≡ true → first_token place (b ∷ bs) ≡ word_token place (take (prefix_len is_word_byte (b ∷ bs)) (b ∷ bs))
unfolding first_token
first_word place b bs h = rw h refl

first_number : (place : Place) (b : ℕ) (bs : List ℕ) → is_digit b ≡ true → first_token place (b ∷ bs) ≡ number_token place (take (prefix_len is_digit (b ∷ bs)) (b ∷ bs))
unfolding first_token
first_number place b bs h = rw (digit_no_letter b h, h) refl

first_symbol : (place : Place) (b : ℕ) (bs : List ℕ) → is_letter b ≡ false → is_digit b ≡ false → first_token place (b ∷ bs) ≡ symbol_token place (symbol_len (b ∷ bs))
unfolding first_token
first_symbol place b bs h k = rw (h, k) refl

blank_none : (b : ℕ) (bs : List ℕ) → is_blank false b ≡ false → blank_len (b ∷ bs) ≡ 0
blank_none b bs h = rw h refl

-- a word, reserved or not
word_read : (w more : List ℕ) (r : Bool) → is_plain w ≡ true → is_reserved w ≡ r → first_passes is_word_byte more ≡ false → IsReadAs (word_kind r) w more
word_read [] more r h k stop = absurd (cc)
word_read (b ∷ bs) more r h k stop =
    let letter : is_letter b ≡ true = (both (is_letter b) _ h).0 in
    let fits : nat_le (length (b ∷ bs)) 32 ≡ true = (both (list_all is_word_byte (b ∷ bs)) _ (both (is_letter b) _ h).1).1 in
    let short : length (b ∷ bs) ≤ 32 = grind (arith, nat_tests) in
    let word : list_all is_word_byte (b ∷ bs) ≡ true = (both (list_all is_word_byte (b ∷ bs)) _ (both (is_letter b) _ h).1).0 in
    let goes : prefix_len is_word_byte (b ∷ bs) ≡ length (b ∷ bs) = all_prefix is_word_byte (b ∷ bs) word in
    let whole : prefix_len is_word_byte (b ∷ bs ++ more) ≡ length (b ∷ bs) = all_pass is_word_byte (b ∷ bs) more goes stop in
    record {
      some = grind (arith, common_steps);
      solid = blank_none b (bs ++ more) (letter_solid b letter);
      read = λ place. first_word place b (bs ++ more) letter
          ∙ ap (λ n. word_token place (take n (b ∷ bs ++ more))) whole
          ∙ ap (word_token place) (take_at (b ∷ bs) more (length (b ∷ bs)) refl)
          ∙ word_token_is place (b ∷ bs) r k short;
    }

symbol_token_is : (place : Place) (len : ℕ) → 0 < len → symbol_token place len ≡ Ok (Symbol, len)
symbol_token_is place len h = grind (arith, nat_tests)

-- a number's digits
number_token_is : (place : Place) (ds : List ℕ) (n : ℤ) → signed_of_text ds ≡ Some n → number_token place ds ≡ Ok (Number n, length ds)
unfolding number_token
number_token_is place ds n h = rw h refl

digits_read : (ds more : List ℕ) (n : ℤ) → 0 < length ds → list_all is_digit ds ≡ true → signed_of_text ds ≡ Some n → first_passes is_digit more ≡ false → IsReadAs (Number n) ds more
digits_read [] more n some all k stop = absurd (omega arith)
digits_read (b ∷ bs) more n some all k stop =
    let digit : is_digit b ≡ true = grind (arith, common_steps) in
    let goes : prefix_len is_digit (b ∷ bs) ≡ length (b ∷ bs) = all_prefix is_digit (b ∷ bs) all in
    let whole : prefix_len is_digit (b ∷ bs ++ more) ≡ length (b ∷ bs) = all_pass is_digit (b ∷ bs) more goes stop in
    record {
      some = some;
      solid = blank_none b (bs ++ more) (digit_solid b digit);
      read = λ place. first_number place b (bs ++ more) digit
          ∙ ap (λ n. number_token place (take n (b ∷ bs ++ more))) whole
          ∙ ap (number_token place) (take_at (b ∷ bs) more (length (b ∷ bs)) refl)
          ∙ number_token_is place (b ∷ bs) n k;
    }

decimal_read : (n : ℕ) (more : List ℕ) → n < 2 ^ 63 → first_passes is_digit more ≡ false → IsReadAs (Number (pos n)) (decimal n) more
decimal_read n more fits stop =
    digits_read (decimal n) more (pos n) (decimal_nonempty n (omega arith)) (decimal_passes is_digit (λ b low high. grind (arith, nat_tests)) n (omega arith)) (signed_of_text-decimal (pos n) fits) stop

-- a symbol
mark_read : (m : Mark) (more : List ℕ) → StopsMark m more → IsReadAs Symbol (mark_text m) more
mark_read m more stop =
    let i = is_mark m in
    let len : symbol_len (mark_text m ++ more) ≡ length (mark_text m) = symbol_len-mark m more stop in
    let bytes : mark_text m ++ more ≡ i.first ∷ i.rest ++ more = ap (λ b. b ++ more) i.bytes in
    record {
      some = rw i.bytes (grind (arith, common_steps));
      solid = ap blank_len bytes ∙ blank_none i.first (i.rest ++ more) i.solid;
      read = λ place. ap (first_token place) bytes ∙ first_symbol place i.first (i.rest ++ more) i.letter i.digit
          ∙ ap (symbol_token place) (ap symbol_len (sym bytes) ∙ len) ∙ symbol_token_is place (length (mark_text m)) (rw i.bytes (grind (arith, common_steps)));
    }

of_kind : (l : Lexeme) (kind : TokenKind) (bytes more : List ℕ) → IsReadAs kind bytes more → lexeme_of kind bytes ≡ l → IsRead l bytes more
of_kind l kind bytes more h means = record { kind = kind; some = h.some; solid = h.solid; read = h.read; means = means }

plain_by : (begins goes short free : Bool) → (begins && (goes && (short && free))) ≡ true → ((begins && (goes && short)) ≡ true) × (free ≡ true)
plain_by true true true true h = (refl, refl)
plain_by true true true false h = absurd cc
plain_by true true false free h = absurd cc
plain_by true false short free h = absurd cc
plain_by false goes short free h = absurd cc

not_true : (b : Bool) → not b ≡ true → b ≡ false
not_true true h = absurd cc
not_true false h = refl

-- what a name is
plain_name : (w : List ℕ) → is_name w ≡ true → (is_plain w ≡ true) × (is_reserved w ≡ false)
plain_name w h =
    let parts = plain_by (begins_as_word w) (list_all is_word_byte w) (nat_le (length w) 32) (not (is_reserved w)) h in
    (parts.0, not_true (is_reserved w) parts.1)

pub lexeme_read : (l : Lexeme) (more : List ℕ) → IsLexeme l → Stops l more → IsRead l (lexeme_text l) more
lexeme_read (word w) more h stop = of_kind (word w) Word w more (word_read w more false (plain_name w h).0 (plain_name w h).1 stop) refl
lexeme_read (key k) more h stop =
    let i = is_key k in
    of_kind (key k) Key (keyword_text k) more (word_read (keyword_text k) more true i.plain i.reserved stop) (ap key i.means)
lexeme_read (mark m) more h stop = of_kind (mark m) Symbol (mark_text m) more (mark_read m more stop) (ap mark (is_mark m).means)
lexeme_read (digits (pos n)) more h stop = of_kind (digits (pos n)) (Number (pos n)) (decimal n) more (decimal_read n more h stop) refl
lexeme_read (digits (negsuc n)) more h stop = absurd h
