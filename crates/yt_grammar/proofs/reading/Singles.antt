-- Laws of readers of one token.
use Rattle.std.proofs.Common.{◌≡◌, pos, Bool, true, false, if◌then◌else◌, Option, None, Some, List, [], ◌∷◌, ◌++◌, codes, refl, sym, ap, ◌∙◌, subst, nat_eq, unwrap_or, arith}
use Rattle.yt_graph.specs.declared.place.Place.{Place}
use Rattle.yt_graph.specs.declared.ast.Word.{Word}
use Rattle.yt_graph.specs.declared.ast.Num.{Num}
use Rattle.yt_graph.specs.Names.{is_name}
use Rattle.yt_grammar.specs.declared.sign.Keyword.{Keyword}
use Rattle.yt_grammar.specs.declared.sign.Mark.{Mark}
use Rattle.yt_grammar.specs.Lexemes.{Lexeme, word, key, mark, digits, Tok, IsLexeme, keyword_number, mark_number}
use Rattle.yt_grammar.specs.Forms.{Form, keyword, symbol, named, counted}
use Rattle.yt_grammar.specs.Inside.Reading.{Reading, got, stuck, Reader, at_key, at_mark, key_reader, mark_reader, word_reader, number_reader}
use Rattle.yt_grammar.proofs.reading.Lawful.{SameHead, ReadsFront, StopsBehind, Lawful}
use Rattle.yt_grammar.proofs.reading.Signs.{tok_at, keyword_itself, mark_itself, at_key_says, says_at_key, at_mark_says, says_at_mark}

-- a place, where any will do
abbrev pub no_place : Place
no_place = record { line = 1; col = 1 }

-- what follows may be anything
abbrev pub Any : List Tok → Type 0
Any s = Unit {0}

-- readers that read alike are lawful alike
pub lawful_reader : {X : Type 0} (p q : Reader X) (l : X → Form) (follows : List Tok → Type 0) → ((s : List Tok) → q s ≡ p s) → Lawful p l follows → Lawful q l follows
lawful_reader p q l follows e h = record {
  sound = λ s x rest is.
      let a : ReadsFront p l s x rest = h.sound s x rest (sym (e s) ∙ is) in
      record { front = a.front; splits = a.splits; spelled = a.spelled; local = λ other same. e (a.front ++ other) ∙ a.local other same };
  stops = λ s rest is.
      let a : StopsBehind p l s rest = h.stops s rest (sym (e s) ∙ is) in
      record { front = a.front; splits = a.splits; missing = a.missing; fine = a.fine; thing = a.thing; completed = a.completed; local = λ other same. e (a.front ++ other) ∙ a.local other same };
  complete = λ w x rest k f. e (w ++ rest) ∙ h.complete w x rest k f;
}

-- the same tokens, said in another form
pub lawful_form : {X : Type 0} (p : Reader X) (l m : X → Form) (follows : List Tok → Type 0) → ((x : X) (w : List Tok) → l x w → m x w) → ((x : X) (w : List Tok) → m x w → l x w) → Lawful p l follows → Lawful p m follows
lawful_form p l m follows there back h = record {
  sound = λ s x rest is.
      let a : ReadsFront p l s x rest = h.sound s x rest is in
      record { front = a.front; splits = a.splits; spelled = there x a.front a.spelled; local = a.local };
  stops = λ s rest is.
      let a : StopsBehind p l s rest = h.stops s rest is in
      record { front = a.front; splits = a.splits; missing = a.missing; fine = a.fine; thing = a.thing; completed = there a.thing (a.front ++ a.missing) a.completed; local = a.local };
  complete = λ w x rest k f. h.complete w x rest (back x w k) f;
}

-- fewer tokens may follow
pub lawful_follows : {X : Type 0} (p : Reader X) (l : X → Form) (first second : List Tok → Type 0) → ((rest : List Tok) → second rest → first rest) → Lawful p l first → Lawful p l second
lawful_follows p l first second less h = record {
  sound = h.sound;
  stops = h.stops;
  complete = λ w x rest k f. h.complete w x rest k (less rest f);
}

-- a token, where a thing is picked from it
abbrev pub taken : {X : Type 0} → Option X → Tok → List Tok → Reading X
taken None t ts = stuck (t ∷ ts)
taken (Some x) t ts = got x ts

-- such a token first
abbrev pub single : {X : Type 0} → (Tok → Option X) → Reader X
single pick [] = stuck []
single pick (t ∷ ts) = taken (pick t) t ts

-- one token, from which this is picked
abbrev pub Picked : {X : Type 0} → (Tok → Option X) → X → Form
Picked pick x w = (t : Tok) × (w ≡ t ∷ []) × (pick t ≡ Some x)

-- a token from which something is picked
pub record IsPick {X : Type 0} (pick : Tok → Option X) : Type 0 where
  pub thing : X
  pub token : Tok
  pub fine : IsLexeme token.says
  pub picks : pick token ≡ Some thing

module _ {X : Type 0} (pick : Tok → Option X) where
  -- a thing was taken, or none was
  taken_got : (o : Option X) (t : Tok) (ts rest : List Tok) (x : X) → taken o t ts ≡ got x rest → (o ≡ Some x) × (ts ≡ rest)
  taken_got None t ts rest x h = absurd cc
  taken_got (Some y) t ts rest x h = (cc, cc)

  -- none was
  taken_stuck : (o : Option X) (t : Tok) (ts rest : List Tok) → taken o t ts ≡ stuck rest → (o ≡ None) × (t ∷ ts ≡ rest)
  taken_stuck None t ts rest h = (refl, cc)
  taken_stuck (Some y) t ts rest h = absurd cc

  -- what is read is spelled
  single_sound : (s : List Tok) (x : X) (rest : List Tok) → single pick s ≡ got x rest → ReadsFront (single pick) (Picked pick) s x rest
  single_sound [] x rest h = absurd cc
  single_sound (t ∷ ts) x rest h =
      let both = taken_got (pick t) t ts rest x h in
      record {
        front = t ∷ [];
        splits = ap (λ r. t ∷ r) both.1;
        spelled = (t, refl, both.0);
        local = λ other same. ap (λ o. taken o t other) both.0;
      }

  -- tokens that look the same are stuck alike
  stuck_alike : (t : Tok) (ts other : List Tok) → pick t ≡ None → SameHead (t ∷ ts) other → single pick other ≡ stuck other
  stuck_alike t ts [] e h = absurd h
  stuck_alike t ts (u ∷ us) e h = ap (λ v. taken (pick v) u us) (sym h) ∙ ap (λ o. taken o u us) e

  -- where reading is stuck, a token goes on
  single_stops : IsPick pick → (s rest : List Tok) → single pick s ≡ stuck rest → StopsBehind (single pick) (Picked pick) s rest
  single_stops k [] rest h = record {
    front = [];
    splits = cc;
    missing = k.token ∷ [];
    fine = (k.fine, tt);
    thing = k.thing;
    completed = (k.token, refl, k.picks);
    local = λ other same. nothing_left other (let e : rest ≡ [] = cc in rw e at same);
  }
    where
      nothing_left : (other : List Tok) → SameHead [] other → single pick other ≡ stuck other
      nothing_left [] same = refl
      nothing_left (u ∷ us) same = absurd same
  single_stops k (t ∷ ts) rest h =
      let both = taken_stuck (pick t) t ts rest h in
      record {
        front = [];
        splits = both.1;
        missing = k.token ∷ [];
        fine = (k.fine, tt);
        thing = k.thing;
        completed = (k.token, refl, k.picks);
        local = λ other same. stuck_alike t ts other both.0 (subst (λ r. SameHead r other) (sym both.1) same);
      }

  -- what is spelled is read
  single_complete : (w : List Tok) (x : X) (rest : List Tok) → Picked pick x w → single pick (w ++ rest) ≡ got x rest
  single_complete w x rest k = ap (λ v. single pick (v ++ rest)) k.1 ∙ ap (λ o. taken o k.0 rest) k.2

  -- the law of one token
  pub single_lawful : IsPick pick → Lawful (single pick) (Picked pick) Any
  single_lawful k = record {
    sound = single_sound;
    stops = single_stops k;
    complete = λ w x rest h f. single_complete w x rest h;
  }

-- a reserved word
abbrev pick_if : Bool → Option (Unit {0})
pick_if true = Some tt
pick_if false = None

-- whether a token is this one
abbrev pick_key : Keyword → Tok → Option (Unit {0})
pick_key k t = pick_if (at_key k (t ∷ []))

-- where it is, the test passes
pick_true : (b : Bool) (u : Unit {0}) → pick_if b ≡ Some u → b ≡ true
pick_true true u h = refl
pick_true false u h = absurd cc

-- by the test, or by what is picked
if_alike : (b : Bool) (t : Tok) (ts : List Tok) → (if b then got tt ts else stuck (t ∷ ts)) ≡ taken (pick_if b) t ts
if_alike true t ts = refl
if_alike false t ts = refl

-- the reader, by what is picked from a token
key_alike : (k : Keyword) (l : Lexeme) (p : Place) (ts : List Tok) → key_reader k (tok_at l p ∷ ts) ≡ taken (pick_key k (tok_at l p)) (tok_at l p) ts
key_alike k (word w) p ts = refl
key_alike k (key j) p ts = if_alike (nat_eq (keyword_number k) (keyword_number j)) (tok_at (key j) p) ts
key_alike k (mark m) p ts = refl
key_alike k (digits n) p ts = refl

-- from the first token
key_single : (k : Keyword) (s : List Tok) → key_reader k s ≡ single (pick_key k) s
key_single k [] = refl
key_single k (t ∷ ts) = key_alike k t.says t.place ts

-- what is picked is spelled
picked_key : (k : Keyword) (u : Unit {0}) (w : List Tok) → Picked (pick_key k) u w → keyword k w
picked_key k u w h = (h.0, h.1, at_key_says k h.0 [] (pick_true (at_key k (h.0 ∷ [])) u h.2))

-- and back
key_picked : (k : Keyword) (u : Unit {0}) (w : List Tok) → keyword k w → Picked (pick_key k) u w
key_picked k u w h = (h.0, h.1, ap pick_if (says_at_key k h.0 [] h.2))

-- the law of reserved words
pub key_lawful : (k : Keyword) → Lawful (key_reader k) (λ u. keyword k) Any
key_lawful k =
    lawful_form (key_reader k) (Picked (pick_key k)) (λ u. keyword k) Any (picked_key k) (key_picked k)
    (lawful_reader (single (pick_key k)) (key_reader k) (Picked (pick_key k)) Any (key_single k)
    (single_lawful (pick_key k) (record { thing = tt; token = tok_at (key k) no_place; fine = tt; picks = ap pick_if (keyword_itself k) })))

-- a symbol
abbrev pick_mark : Mark → Tok → Option (Unit {0})
pick_mark m t = pick_if (at_mark m (t ∷ []))

-- the reader, by what is picked from a token
mark_alike : (m : Mark) (l : Lexeme) (p : Place) (ts : List Tok) → mark_reader m (tok_at l p ∷ ts) ≡ taken (pick_mark m (tok_at l p)) (tok_at l p) ts
mark_alike m (word w) p ts = refl
mark_alike m (key k) p ts = refl
mark_alike m (mark j) p ts = if_alike (nat_eq (mark_number m) (mark_number j)) (tok_at (mark j) p) ts
mark_alike m (digits n) p ts = refl

-- from the first token
mark_single : (m : Mark) (s : List Tok) → mark_reader m s ≡ single (pick_mark m) s
mark_single m [] = refl
mark_single m (t ∷ ts) = mark_alike m t.says t.place ts

-- what is picked is spelled
picked_mark : (m : Mark) (u : Unit {0}) (w : List Tok) → Picked (pick_mark m) u w → symbol m w
picked_mark m u w h = (h.0, h.1, at_mark_says m h.0 [] (pick_true (at_mark m (h.0 ∷ [])) u h.2))

-- and back
mark_picked : (m : Mark) (u : Unit {0}) (w : List Tok) → symbol m w → Picked (pick_mark m) u w
mark_picked m u w h = (h.0, h.1, ap pick_if (says_at_mark m h.0 [] h.2))

-- the law of symbols
pub mark_lawful : (m : Mark) → Lawful (mark_reader m) (λ u. symbol m) Any
mark_lawful m =
    lawful_form (mark_reader m) (Picked (pick_mark m)) (λ u. symbol m) Any (picked_mark m) (mark_picked m)
    (lawful_reader (single (pick_mark m)) (mark_reader m) (Picked (pick_mark m)) Any (mark_single m)
    (single_lawful (pick_mark m) (record { thing = tt; token = tok_at (mark m) no_place; fine = tt; picks = ap pick_if (mark_itself m) })))

-- a name
abbrev pick_word : Tok → Option Word
pick_word t = word_in t.says
  where
    word_in : Lexeme → Option Word
    word_in (word w) = Some (record { text = w; place = t.place })
    word_in (key k) = None
    word_in (mark m) = None
    word_in (digits n) = None

-- the reader, by what is picked from a token
word_alike : (l : Lexeme) (p : Place) (ts : List Tok) → word_reader (tok_at l p ∷ ts) ≡ taken (pick_word (tok_at l p)) (tok_at l p) ts
word_alike (word w) p ts = refl
word_alike (key k) p ts = refl
word_alike (mark m) p ts = refl
word_alike (digits n) p ts = refl

-- from the first token
word_single : (s : List Tok) → word_reader s ≡ single pick_word s
word_single [] = refl
word_single (t ∷ ts) = word_alike t.says t.place ts

-- a name's token
abbrev word_token : Word → Tok
word_token w = tok_at (word w.text) w.place

-- a token is that of the name picked from it
word_tells : (l : Lexeme) (p : Place) (w : Word) → pick_word (tok_at l p) ≡ Some w → tok_at l p ≡ tok_at (word w.text) w.place
word_tells (word w) p v h = ap (λ o. word_token (unwrap_or o v)) h
word_tells (key k) p v h = absurd cc
word_tells (mark m) p v h = absurd cc
word_tells (digits n) p v h = absurd cc

-- what is picked is spelled
picked_word : (x : Word) (w : List Tok) → Picked pick_word x w → named x w
picked_word x w h = h.1 ∙ ap (λ t. t ∷ []) (word_tells h.0.says h.0.place x h.2)

-- and back
word_picked : (x : Word) (w : List Tok) → named x w → Picked pick_word x w
word_picked x w h = (word_token x, h, refl)

-- a name, where any will do
abbrev pub some_word : Word
some_word = record { text = codes "a"; place = no_place }

-- it is a name
some_name : is_name (codes "a") ≡ true
some_name = refl

-- the law of names
pub word_lawful : Lawful word_reader named Any
word_lawful =
    lawful_form word_reader (Picked pick_word) named Any picked_word word_picked
    (lawful_reader (single pick_word) word_reader (Picked pick_word) Any word_single
    (single_lawful pick_word (record { thing = some_word; token = word_token some_word; fine = some_name; picks = refl })))

-- a number
abbrev pick_number : Tok → Option Num
pick_number t = number_in t.says
  where
    number_in : Lexeme → Option Num
    number_in (digits n) = Some (record { value = n; place = t.place })
    number_in (word w) = None
    number_in (key k) = None
    number_in (mark m) = None

-- the reader, by what is picked from a token
number_alike : (l : Lexeme) (p : Place) (ts : List Tok) → number_reader (tok_at l p ∷ ts) ≡ taken (pick_number (tok_at l p)) (tok_at l p) ts
number_alike (digits n) p ts = refl
number_alike (word w) p ts = refl
number_alike (key k) p ts = refl
number_alike (mark m) p ts = refl

-- from the first token
number_single : (s : List Tok) → number_reader s ≡ single pick_number s
number_single [] = refl
number_single (t ∷ ts) = number_alike t.says t.place ts

-- a number's token
abbrev number_token : Num → Tok
number_token n = tok_at (digits n.value) n.place

-- a token is that of the number picked from it
number_tells : (l : Lexeme) (p : Place) (n : Num) → pick_number (tok_at l p) ≡ Some n → tok_at l p ≡ number_token n
number_tells (digits n) p v h = ap (λ o. number_token (unwrap_or o v)) h
number_tells (word w) p v h = absurd cc
number_tells (key k) p v h = absurd cc
number_tells (mark m) p v h = absurd cc

-- what is picked is spelled
picked_number : (x : Num) (w : List Tok) → Picked pick_number x w → counted x w
picked_number x w h = h.1 ∙ ap (λ t. t ∷ []) (number_tells h.0.says h.0.place x h.2)

-- and back
number_picked : (x : Num) (w : List Tok) → counted x w → Picked pick_number x w
number_picked x w h = (number_token x, h, refl)

-- a number, where any will do
abbrev pub some_number : Num
some_number = record { value = pos 0; place = no_place }

-- the law of numbers
pub number_lawful : Lawful number_reader counted Any
number_lawful =
    lawful_form number_reader (Picked pick_number) counted Any picked_number number_picked
    (lawful_reader (single pick_number) number_reader (Picked pick_number) Any number_single
    (single_lawful pick_number (record { thing = some_number; token = number_token some_number; fine = omega arith; picks = refl })))
