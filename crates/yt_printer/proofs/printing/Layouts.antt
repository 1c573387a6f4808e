-- The text of a layout whose tokens are kept apart is read as exactly these tokens.
use Rattle.std.proofs.Common.{ℕ, ◌+◌, ◌-◌, ◌≡◌, ◌≤◌, List, [], ◌∷◌, ◌++◌, length, take, drop, map, Bool, true, false, ◌&&◌, None, refl, ap, ◌∙◌, sym, subst, arith, length-append, length-drop, zero, suc}
use Rattle.std.proofs.lemmas.Grind.{common_steps}
use Rattle.std.proofs.lemmas.Bool.Decides.{nat_tests}
use Rattle.std.proofs.lemmas.List.{take_at, drop_at, drop-drop}
use Rattle.std.specs.Prelude.{◌==◌}
use Rattle.std.specs.List.{list_all}
use Rattle.yt_lexer.specs.First.{is_space, is_blank, is_in_comment, blank_len, is_digit, is_word_byte, first_token}
use Rattle.yt_lexer.specs.Places.{place_of}
use Rattle.yt_lexer.specs.Lexes.{next_from, IsTokenAt, Lexes}
use Rattle.yt_lexer.specs.declared.token.Token.{Token}
use Rattle.yt_grammar.specs.declared.sign.Mark.{Mark}
use Rattle.yt_grammar.specs.declared.sign.Mark.TheVariants.{LeftBrace, RightBrace, LeftParen, RightParen, Comma, Dot, Assign, Plus, Minus, Star, Slash, Percent, Less, LessEqual, Greater, GreaterEqual, Equal, NotEqual}
use Rattle.yt_grammar.specs.Lexemes.{mark_text, Lexeme, word, key, mark, digits, Tok, lexeme_of, toks_of, IsLexeme}
use Rattle.yt_grammar.specs.CanonicalText.{Piece, say, space, feed, indent, lexeme_text, indent_text, text_of}
use Rattle.yt_printer.proofs.printing.Marks.{first_passes, is_mark}
use Rattle.yt_printer.proofs.printing.Lexed.{Stops, IsRead, lexeme_read}

-- the tokens of a layout
abbrev pub lexemes_in : List Piece → List Lexeme
lexemes_in [] = []
lexemes_in (say l ∷ ps) = l ∷ lexemes_in ps
lexemes_in (space ∷ ps) = lexemes_in ps
lexemes_in (feed ∷ ps) = lexemes_in ps
lexemes_in (indent n ∷ ps) = lexemes_in ps

-- tokens that can stand in a text
abbrev pub AreLexemes : List Lexeme → Type 0
AreLexemes [] = Unit {0}
AreLexemes (l ∷ ls) = IsLexeme l × AreLexemes ls

-- the layout begins with a space or a line feed, or is empty
abbrev pub is_spaced : List Piece → Bool
is_spaced [] = true
is_spaced (say l ∷ ps) = false
is_spaced (space ∷ ps) = true
is_spaced (feed ∷ ps) = true
is_spaced (indent n ∷ ps) = false

-- the same, or with a symbol
abbrev pub is_free : List Piece → Bool
is_free [] = true
is_free (say (word w) ∷ ps) = false
is_free (say (key k) ∷ ps) = false
is_free (say (mark m) ∷ ps) = true
is_free (say (digits n) ∷ ps) = false
is_free (space ∷ ps) = true
is_free (feed ∷ ps) = true
is_free (indent n ∷ ps) = false

-- what may stand behind a token
abbrev pub keeps : Lexeme → List Piece → Bool
keeps (word w) ps = is_free ps
keeps (key k) ps = is_free ps
keeps (digits n) ps = is_free ps
keeps (mark Assign) ps = is_spaced ps
keeps (mark Less) ps = is_spaced ps
keeps (mark Greater) ps = is_spaced ps
keeps (mark m) ps = true

-- the tokens are kept apart
abbrev pub is_apart : List Piece → Bool
is_apart [] = true
is_apart (say l ∷ ps) = keeps l ps && is_apart ps
is_apart (space ∷ ps) = is_apart ps
is_apart (feed ∷ ps) = is_apart ps
is_apart (indent n ∷ ps) = is_apart ps

-- no letter and no digit begins a symbol
mark_no_word : (m : Mark) (bs : List ℕ) → first_passes is_word_byte (mark_text m ++ bs) ≡ false
mark_no_word m bs =
    let i = is_mark m in
    rw i.bytes (rw (i.letter, i.digit) refl)

mark_no_digit : (m : Mark) (bs : List ℕ) → first_passes is_digit (mark_text m ++ bs) ≡ false
mark_no_digit m bs =
    let i = is_mark m in
    rw i.bytes i.digit

free_no_word : (ps : List Piece) → is_free ps ≡ true → first_passes is_word_byte (text_of ps) ≡ false
free_no_word [] h = refl
free_no_word (say (word w) ∷ ps) h = absurd (cc)
free_no_word (say (key k) ∷ ps) h = absurd (cc)
free_no_word (say (mark m) ∷ ps) h = mark_no_word m (text_of ps)
free_no_word (say (digits n) ∷ ps) h = absurd (cc)
free_no_word (space ∷ ps) h = refl
free_no_word (feed ∷ ps) h = refl
free_no_word (indent n ∷ ps) h = absurd (cc)

free_no_digit : (ps : List Piece) → is_free ps ≡ true → first_passes is_digit (text_of ps) ≡ false
free_no_digit [] h = refl
free_no_digit (say (word w) ∷ ps) h = absurd (cc)
free_no_digit (say (key k) ∷ ps) h = absurd (cc)
free_no_digit (say (mark m) ∷ ps) h = mark_no_digit m (text_of ps)
free_no_digit (say (digits n) ∷ ps) h = absurd (cc)
free_no_digit (space ∷ ps) h = refl
free_no_digit (feed ∷ ps) h = refl
free_no_digit (indent n ∷ ps) h = absurd (cc)

spaced_no_equals : (ps : List Piece) → is_spaced ps ≡ true → first_passes (λ b. b == 61) (text_of ps) ≡ false
spaced_no_equals [] h = refl
spaced_no_equals (say l ∷ ps) h = absurd (cc)
spaced_no_equals (space ∷ ps) h = refl
spaced_no_equals (feed ∷ ps) h = refl
spaced_no_equals (indent n ∷ ps) h = absurd (cc)

-- what may stand behind a token doesn't go on with it
stops : (l : Lexeme) (ps : List Piece) → keeps l ps ≡ true → Stops l (text_of ps)
stops (word w) ps h = free_no_word ps h
stops (key k) ps h = free_no_word ps h
stops (digits n) ps h = free_no_digit ps h
stops (mark LeftBrace) ps h = tt
stops (mark RightBrace) ps h = tt
stops (mark LeftParen) ps h = tt
stops (mark RightParen) ps h = tt
stops (mark Comma) ps h = tt
stops (mark Dot) ps h = tt
stops (mark Assign) ps h = spaced_no_equals ps h
stops (mark Plus) ps h = tt
stops (mark Minus) ps h = tt
stops (mark Star) ps h = tt
stops (mark Slash) ps h = tt
stops (mark Percent) ps h = tt
stops (mark Less) ps h = spaced_no_equals ps h
stops (mark LessEqual) ps h = tt
stops (mark Greater) ps h = spaced_no_equals ps h
stops (mark GreaterEqual) ps h = tt
stops (mark Equal) ps h = tt
stops (mark NotEqual) ps h = tt

-- what tokens say
abbrev pub says_of : List Tok → List Lexeme
says_of toks = map (λ (t : Tok). t.says) toks

-- from here on the text has tokens that say this, and no fault
pub record IsLexed (text : List ℕ) (at : ℕ) (ls : List Lexeme) : Type 0 where
  pub tokens : List Token
  pub lexes : Lexes text at tokens None
  pub say_so : says_of (toks_of text tokens) ≡ ls

-- white space in front of more
blank_space : (b : ℕ) → is_space b ≡ true → (is_blank false b ≡ true) × (is_in_comment false b ≡ false)
blank_space b h = (grind (arith, nat_tests), grind (arith, nat_tests))

blank_len-spaces : (bs more : List ℕ) → list_all is_space bs ≡ true → blank_len (bs ++ more) ≡ length bs + blank_len more
blank_len-spaces [] more h = omega arith
blank_len-spaces (b ∷ bs) more h =
    let here : is_space b ≡ true = grind (arith, common_steps) in
    let rest : list_all is_space bs ≡ true = grind (arith, common_steps) in
    let both = blank_space b here in
    let ih : blank_len (bs ++ more) ≡ length bs + blank_len more = blank_len-spaces bs more rest in
    rw (both.0, both.1) (omega arith)

-- so much further on in a text
cut_more : (text bs more : List ℕ) (at : ℕ) → drop at text ≡ bs ++ more → drop (at + length bs) text ≡ more
cut_more text bs more at h = sym (drop-drop (length bs) at text) ∙ ap (drop (length bs)) h ∙ drop_at bs more (length bs) refl

cut_within : (text bs more : List ℕ) (at : ℕ) → drop at text ≡ bs ++ more → at ≤ length text → at + length bs ≤ length text
cut_within text bs more at h k =
    let same : length (drop at text) ≡ length (bs ++ more) = ap length h in
    omega (arith, same, length-drop at text, length-append bs more)

same_next : (text : List ℕ) (at to : ℕ) (tokens : List Token) → next_from text at ≡ next_from text to → Lexes text to tokens None → Lexes text at tokens None
same_next text at to [] e h = e ∙ h
same_next text at to (t ∷ ts) e h = (subst (λ (n : ℕ). IsTokenAt text n t) (sym e) h.0, h.1)

-- white space changes nothing
past_spaces : (text bs more : List ℕ) (at : ℕ) (ls : List Lexeme) → drop at text ≡ bs ++ more → list_all is_space bs ≡ true → IsLexed text (at + length bs) ls → IsLexed text at ls
past_spaces text bs more at ls h k rest =
    let behind : drop (at + length bs) text ≡ more = cut_more text bs more at h in
    let here : blank_len (drop at text) ≡ length bs + blank_len more = ap blank_len h ∙ blank_len-spaces bs more k in
    let there : blank_len (drop (at + length bs) text) ≡ blank_len more = ap blank_len behind in
    let next : next_from text at ≡ next_from text (at + length bs) = omega (arith, here, there) in
    record { tokens = rest.tokens; lexes = same_next text at (at + length bs) rest.tokens next rest.lexes; say_so = rest.say_so }

same_cons : (l m : Lexeme) (ls ms : List Lexeme) → l ≡ m → ls ≡ ms → (l ∷ ls) ≡ (m ∷ ms)
same_cons l m ls ms h k = cc

-- a token in front
past_token : (text bytes more : List ℕ) (at : ℕ) (l : Lexeme) (ls : List Lexeme) → drop at text ≡ bytes ++ more → at ≤ length text → IsRead l bytes more → IsLexed text (at + length bytes) ls → IsLexed text at (l ∷ ls)
past_token text bytes more at l ls h k i rest =
    let token : Token = record { kind = i.kind; from = at; to = at + length bytes; place = place_of text at } in
    let none : blank_len (drop at text) ≡ 0 = ap blank_len h ∙ i.solid in
    let next : next_from text at ≡ at = omega (arith, none) in
    let within : at + length bytes ≤ length text = cut_within text bytes more at h k in
    let found : IsTokenAt text at token = record {
      begins = refl;
      more = omega (arith, within, i.some);
      placed = refl;
      len = length bytes;
      read = ap (first_token (place_of text at)) h ∙ i.read (place_of text at);
      ends = refl;
    } in
    let size : (at + length bytes) - at ≡ length bytes = omega arith in
    let own : take ((at + length bytes) - at) (drop at text) ≡ bytes = ap (λ n. take n (drop at text)) size ∙ ap (take (length bytes)) h ∙ take_at bytes more (length bytes) refl in
    record {
      tokens = token ∷ rest.tokens;
      lexes = (subst (λ (n : ℕ). IsTokenAt text n token) (sym next) found, rest.lexes);
      say_so = same_cons (lexeme_of i.kind (take ((at + length bytes) - at) (drop at text))) l (says_of (toks_of text rest.tokens)) ls (ap (lexeme_of i.kind) own ∙ i.means) rest.say_so;
    }

indent_spaces : (n : ℕ) → list_all is_space (indent_text n) ≡ true
indent_spaces zero = refl
indent_spaces (suc n) = indent_spaces n

-- the tokens of the layout, and no others
pub lexed : (text : List ℕ) (at : ℕ) (ps : List Piece) → drop at text ≡ text_of ps → at ≤ length text → is_apart ps ≡ true → AreLexemes (lexemes_in ps) → IsLexed text at (lexemes_in ps)
lexed text at [] h k apart can =
    let none : blank_len (drop at text) ≡ 0 = ap blank_len h in
    let gone : length (drop at text) ≡ 0 = ap length h in
    record { tokens = []; lexes = omega (arith, none, gone, length-drop at text); say_so = refl }
lexed text at (say l ∷ ps) h k apart can =
    let keep : keeps l ps ≡ true = grind (arith, common_steps) in
    let more : is_apart ps ≡ true = grind (arith, common_steps) in
    past_token text (lexeme_text l) (text_of ps) at l (lexemes_in ps) h k (lexeme_read l (text_of ps) can.0 (stops l ps keep))
    (lexed text (at + length (lexeme_text l)) ps (cut_more text (lexeme_text l) (text_of ps) at h) (cut_within text (lexeme_text l) (text_of ps) at h k) more can.1)
lexed text at (space ∷ ps) h k apart can =
    past_spaces text (32 ∷ []) (text_of ps) at (lexemes_in ps) h refl
    (lexed text (at + 1) ps (cut_more text (32 ∷ []) (text_of ps) at h) (cut_within text (32 ∷ []) (text_of ps) at h k) apart can)
lexed text at (feed ∷ ps) h k apart can =
    past_spaces text (10 ∷ []) (text_of ps) at (lexemes_in ps) h refl
    (lexed text (at + 1) ps (cut_more text (10 ∷ []) (text_of ps) at h) (cut_within text (10 ∷ []) (text_of ps) at h k) apart can)
lexed text at (indent n ∷ ps) h k apart can =
    past_spaces text (indent_text n) (text_of ps) at (lexemes_in ps) h (indent_spaces n)
    (lexed text (at + length (indent_text n)) ps (cut_more text (indent_text n) (text_of ps) at h) (cut_within text (indent_text n) (text_of ps) at h k) apart can)
