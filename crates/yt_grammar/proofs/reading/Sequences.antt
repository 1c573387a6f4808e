-- Laws of readers one behind the other.
use Rattle.std.proofs.Common.{◌≡◌, ◌⊎◌, inl, inr, List, [], ◌∷◌, ◌++◌, refl, sym, ap, ◌∙◌, append_assoc, subst}
use Rattle.yt_graph.specs.declared.place.Place.{Place}
use Rattle.yt_grammar.specs.declared.sign.Keyword.{Keyword}
use Rattle.yt_grammar.specs.declared.sign.Mark.{Mark}
use Rattle.yt_grammar.specs.declared.sign.Mark.TheVariants.{LeftBrace, RightBrace, LeftParen, RightParen}
use Rattle.yt_grammar.specs.Lexemes.{Tok, mark}
use Rattle.yt_grammar.specs.Forms.{Form, ◌▹◌, keyword, symbol, parens, braces}
use Rattle.yt_grammar.specs.Inside.Reading.{Reading, got, stuck, Reader, and_then, made, both, key_reader, mark_reader, behind_key, behind_mark, before_mark, in_parens, in_braces}
use Rattle.yt_grammar.proofs.reading.Lawful.{SameHead, ReadsFront, StopsBehind, Lawful, IsInhabited}
use Rattle.yt_grammar.proofs.reading.Heads.{same_split, are_tokens_both}
use Rattle.yt_grammar.proofs.reading.Signs.{tok_at, one_follows}
use Rattle.yt_grammar.proofs.reading.Singles.{Any, lawful_form, key_lawful, mark_lawful}

-- one thing and then another was read
pub and_then_got : {X Y : Type 0} (r : Reading X) (f : X → Reader Y) (y : Y) (rest : List Tok) → and_then r f ≡ got y rest → (x : X) × (mid : List Tok) × (r ≡ got x mid) × (f x mid ≡ got y rest)
and_then_got (got x mid) f y rest h = (x, mid, refl, h)
and_then_got (stuck mid) f y rest h = absurd cc

-- the first wasn't read, or the second behind it
pub and_then_stuck : {X Y : Type 0} (r : Reading X) (f : X → Reader Y) (rest : List Tok) → and_then r f ≡ stuck rest → (r ≡ stuck rest) ⊎ ((x : X) × (mid : List Tok) × (r ≡ got x mid) × (f x mid ≡ stuck rest))
and_then_stuck (got x mid) f rest h = inr (x, mid, refl, h)
and_then_stuck (stuck mid) f rest h = inl cc

-- where no tokens come of two lists, the first has none
nothing_first : (a b : List Tok) → [] ≡ a ++ b → a ≡ []
nothing_first [] b e = refl
nothing_first (t ∷ ts) b e = absurd cc

-- a lawful reader's form spells something: what is read in front of no tokens, or what it is stuck for there
pub inhabited : {X : Type 0} (p : Reader X) (l : X → Form) (follows : List Tok → Type 0) → Lawful p l follows → IsInhabited l
inhabited {X} p l follows h = reading (p []) refl
  where
    reading : (r : Reading X) → p [] ≡ r → IsInhabited l
    reading (got x rest) e =
        let a : ReadsFront p l [] x rest = h.sound [] x rest e in
        record { thing = x; tokens = []; fine = tt; spelled = subst (λ w. l x w) (nothing_first a.front rest a.splits) a.spelled }
    reading (stuck rest) e =
        let a : StopsBehind p l [] rest = h.stops [] rest e in
        record { thing = a.thing; tokens = a.missing; fine = a.fine; spelled = subst (λ w. l a.thing (w ++ a.missing)) (nothing_first a.front rest a.splits) a.completed }

-- one form, and then one that depends on the thing
abbrev pub Then : {X Y : Type 0} → (X → Form) → (X → Y → Form) → Y → Form
Then {X} l m y w = (x : X) × (l x ▹ m x y) w

-- what is known of two readers, one behind the other
pub record IsSequence {X Y : Type 0} (p : Reader X) (f : X → Reader Y) (l : X → Form) (m : X → Y → Form) (first second : List Tok → Type 0) : Type 0 where
  pub begins : Lawful p l first
  pub goes_on : (x : X) (a : List Tok) → l x a → Lawful (f x) (m x) second
  pub joins : (x : X) (y : Y) (a b rest : List Tok) → l x a → m x y b → second rest → first (b ++ rest)

module _ {X Y : Type 0} (p : Reader X) (f : X → Reader Y) (l : X → Form) (m : X → Y → Form) (first second : List Tok → Type 0) (h : IsSequence p f l m first second) where
  -- the second thing, behind the first, with what comes behind them
  joined : (s other : List Tok) (x : X) (mid rest : List Tok) (r : Reading Y) → (a : ReadsFront p l s x mid) → (front : List Tok) → mid ≡ front ++ rest → SameHead rest other → f x (front ++ other) ≡ r → and_then (p ((a.front ++ front) ++ other)) f ≡ r
  joined s other x mid rest r a front e same is =
      ap (λ w. and_then (p w) f) (append_assoc a.front front other)
      ∙ ap (λ w. and_then w f) (a.local (front ++ other) (same_split front rest mid other e same))
      ∙ is

  -- the tokens, split at both places
  splits_both : (s front mid more rest : List Tok) → s ≡ front ++ mid → mid ≡ more ++ rest → s ≡ (front ++ more) ++ rest
  splits_both s front mid more rest e d = e ∙ ap (λ w. front ++ w) d ∙ sym (append_assoc front more rest)

  -- what is read behind what is read
  sound_of : (s : List Tok) (y : Y) (rest : List Tok) → (x : X) (mid : List Tok) → ReadsFront p l s x mid → ReadsFront (f x) (m x) mid y rest → ReadsFront (λ t. and_then (p t) f) (Then l m) s y rest
  sound_of s y rest x mid a b = record {
    front = a.front ++ b.front;
    splits = splits_both s a.front mid b.front rest a.splits b.splits;
    spelled = (x, (a.front, b.front, refl, a.spelled, b.spelled));
    local = λ other same. joined s other x mid rest (got y other) a b.front b.splits same (b.local other same);
  }

  -- where the first is stuck, the second may be anything that its form spells
  stops_first : (s rest : List Tok) (a : StopsBehind p l s rest) → IsInhabited (m a.thing) → StopsBehind (λ t. and_then (p t) f) (Then l m) s rest
  stops_first s rest a b = record {
    front = a.front;
    splits = a.splits;
    missing = a.missing ++ b.tokens;
    fine = are_tokens_both a.missing b.tokens a.fine b.fine;
    thing = b.thing;
    completed = (a.thing, (a.front ++ a.missing, b.tokens, sym (append_assoc a.front a.missing b.tokens), a.completed, b.spelled));
    local = λ other same. ap (λ w. and_then w f) (a.local other same);
  }

  -- where the second is stuck
  stops_second : (s rest : List Tok) (x : X) (mid : List Tok) → ReadsFront p l s x mid → StopsBehind (f x) (m x) mid rest → StopsBehind (λ t. and_then (p t) f) (Then l m) s rest
  stops_second s rest x mid a b = record {
    front = a.front ++ b.front;
    splits = splits_both s a.front mid b.front rest a.splits b.splits;
    missing = b.missing;
    fine = b.fine;
    thing = b.thing;
    completed = (x, (a.front, b.front ++ b.missing, append_assoc a.front b.front b.missing, a.spelled, b.completed));
    local = λ other same. joined s other x mid rest (stuck other) a b.front b.splits same (b.local other same);
  }

  -- what is spelled is read
  complete_of : (w : List Tok) (y : Y) (rest : List Tok) (x : X) (a b : List Tok) → w ≡ a ++ b → l x a → m x y b → second rest → and_then (p (w ++ rest)) f ≡ got y rest
  complete_of w y rest x a b e hl hm hs =
      ap (λ v. and_then (p (v ++ rest)) f) e
      ∙ ap (λ v. and_then (p v) f) (append_assoc a b rest)
      ∙ ap (λ v. and_then v f) (h.begins.complete a x (b ++ rest) hl (h.joins x y a b rest hl hm hs))
      ∙ (h.goes_on x a hl).complete b y rest hm hs

  -- what is read is spelled
  sound_sequence : (s : List Tok) (y : Y) (rest : List Tok) → (x : X) × (mid : List Tok) × (p s ≡ got x mid) × (f x mid ≡ got y rest) → ReadsFront (λ t. and_then (p t) f) (Then l m) s y rest
  sound_sequence s y rest c =
      let a : ReadsFront p l s c.0 c.1 = h.begins.sound s c.0 c.1 c.2 in
      sound_of s y rest c.0 c.1 a ((h.goes_on c.0 a.front a.spelled).sound c.1 y rest c.3)

  -- where reading is stuck, some tokens go on
  stops_sequence : (s rest : List Tok) → (p s ≡ stuck rest) ⊎ ((x : X) × (mid : List Tok) × (p s ≡ got x mid) × (f x mid ≡ stuck rest)) → StopsBehind (λ t. and_then (p t) f) (Then l m) s rest
  stops_sequence s rest (inl e) =
      let a : StopsBehind p l s rest = h.begins.stops s rest e in
      stops_first s rest a (inhabited (f a.thing) (m a.thing) second (h.goes_on a.thing (a.front ++ a.missing) a.completed))
  stops_sequence s rest (inr c) =
      let a : ReadsFront p l s c.0 c.1 = h.begins.sound s c.0 c.1 c.2 in
      stops_second s rest c.0 c.1 a ((h.goes_on c.0 a.front a.spelled).stops c.1 rest c.3)

  -- the law of one thing and then, from it, another
  pub and_then_lawful : Lawful (λ t. and_then (p t) f) (Then l m) second
  and_then_lawful = record {
    sound = λ s y rest e. sound_sequence s y rest (and_then_got (p s) f y rest e);
    stops = λ s rest e. stops_sequence s rest (and_then_stuck (p s) f rest e);
    complete = λ w y rest c k. complete_of w y rest c.0 c.1.0 c.1.1 c.1.2 c.1.3 c.1.4 k;
  }

-- what is made of a thing is spelled as the thing
abbrev pub Image : {X Y : Type 0} → (X → Y) → (X → Form) → Y → Form
Image {X} f l y w = (x : X) × (y ≡ f x) × l x w

-- what was made, was made of something read
made_got : {X Y : Type 0} (f : X → Y) (r : Reading X) (y : Y) (rest : List Tok) → made f r ≡ got y rest → (x : X) × (r ≡ got x rest) × (y ≡ f x)
made_got f (got x mid) y rest h = (x, cc, cc)
made_got f (stuck mid) y rest h = absurd cc

-- and not where reading was stuck
made_stuck : {X Y : Type 0} (f : X → Y) (r : Reading X) (rest : List Tok) → made f r ≡ stuck rest → r ≡ stuck rest
made_stuck f (got x mid) rest h = absurd cc
made_stuck f (stuck mid) rest h = cc

module _ {X Y : Type 0} (f : X → Y) (p : Reader X) (l : X → Form) (follows : List Tok → Type 0) (h : Lawful p l follows) where
  -- what is read is spelled
  made_sound : (s : List Tok) (y : Y) (rest : List Tok) → (x : X) × (p s ≡ got x rest) × (y ≡ f x) → ReadsFront (λ t. made f (p t)) (Image f l) s y rest
  made_sound s y rest c =
      let a : ReadsFront p l s c.0 rest = h.sound s c.0 rest c.1 in
      record {
        front = a.front;
        splits = a.splits;
        spelled = (c.0, c.2, a.spelled);
        local = λ other same. ap (made f) (a.local other same) ∙ ap (λ v. got v other) (sym c.2);
      }

  -- where reading is stuck, some tokens go on
  made_stops : (s rest : List Tok) → p s ≡ stuck rest → StopsBehind (λ t. made f (p t)) (Image f l) s rest
  made_stops s rest e =
      let a : StopsBehind p l s rest = h.stops s rest e in
      record {
        front = a.front;
        splits = a.splits;
        missing = a.missing;
        fine = a.fine;
        thing = f a.thing;
        completed = (a.thing, refl, a.completed);
        local = λ other same. ap (made f) (a.local other same);
      }

  -- the law of what is made of a thing
  pub made_lawful : Lawful (λ t. made f (p t)) (Image f l) follows
  made_lawful = record {
    sound = λ s y rest e. made_sound s y rest (made_got f (p s) y rest e);
    stops = λ s rest e. made_stops s rest (made_stuck f (p s) rest e);
    complete = λ w y rest c k. ap (made f) (h.complete w c.0 rest c.2 k) ∙ ap (λ v. got v rest) (sym c.1);
  }

  -- and said in a form of its own
  pub made_as : (m : Y → Form) → ((x : X) (w : List Tok) → l x w → m (f x) w) → ((y : Y) (w : List Tok) → m y w → Image f l y w) → Lawful (λ t. made f (p t)) m follows
  made_as m there back = lawful_form (λ t. made f (p t)) (Image f l) m follows (λ y w c. subst (λ v. m v w) (sym c.1) (there c.0 w c.2)) back made_lawful

-- two things, one behind the other
module _ {X Y : Type 0} (p : Reader X) (q : Reader Y) (l : X → Form) (m : Y → Form) (first second : List Tok → Type 0) (h : Lawful p l first) (k : Lawful q m second) where
  -- the law of two things
  pub both_lawful : ((y : Y) (b rest : List Tok) → m y b → second rest → first (b ++ rest)) → Lawful (both p q) (λ r. l r.0 ▹ m r.1) second
  both_lawful joins =
      lawful_form (both p q) (Then l (λ x. Image (λ y. (x, y)) m)) (λ r. l r.0 ▹ m r.1) second
      (λ r w c. (c.1.0, c.1.1, c.1.2, subst (λ v. l v c.1.0) (sym (ap (λ v. v.0) c.1.4.1)) c.1.3, subst (λ v. m v c.1.1) (sym (ap (λ v. v.1) c.1.4.1)) c.1.4.2))
      (λ r w c. (r.0, (c.0, c.1, c.2, c.3, (r.1, refl, c.4))))
      (and_then_lawful p (λ x rest. made (λ y. (x, y)) (q rest)) l (λ x. Image (λ y. (x, y)) m) first second (record {
        begins = h;
        goes_on = λ x a e. made_lawful (λ y. (x, y)) q m second k;
        joins = λ x r a b rest e c d. joins c.0 b rest c.2 d;
      }))

-- a thing behind tokens that only are there
pub behind_lawful : {X : Type 0} (q : Reader (Unit {0})) (p : Reader X) (l : Form) (m : X → Form) (follows : List Tok → Type 0) → Lawful q (λ u. l) Any → Lawful p m follows → Lawful (λ s. and_then (q s) (λ u. p)) (λ x. l ▹ m x) follows
behind_lawful q p l m follows h k =
    lawful_form (λ s. and_then (q s) (λ u. p)) (Then (λ u. l) (λ u. m)) (λ x. l ▹ m x) follows
    (λ x w c. c.1)
    (λ x w c. (tt, c))
    (and_then_lawful q (λ u. p) (λ u. l) (λ u. m) Any follows (record {
      begins = h;
      goes_on = λ u a e. k;
      joins = λ u x a b rest e c d. tt;
    }))

-- a thing before tokens that only are there
pub before_lawful : {X : Type 0} (p : Reader X) (q : Reader (Unit {0})) (l : X → Form) (m : Form) (follows : List Tok → Type 0) → Lawful p l follows → Lawful q (λ u. m) Any → ((b rest : List Tok) → m b → follows (b ++ rest)) → Lawful (λ s. and_then (p s) (λ x rest. made (λ u. x) (q rest))) (λ x. l x ▹ m) Any
before_lawful p q l m follows h k joins =
    lawful_form (λ s. and_then (p s) (λ x rest. made (λ u. x) (q rest))) (Then l (λ x. Image (λ u. x) (λ u. m))) (λ x. l x ▹ m) Any
    (λ x w c. (c.1.0, c.1.1, c.1.2, subst (λ v. l v c.1.0) (sym c.1.4.1) c.1.3, c.1.4.2))
    (λ x w c. (x, (c.0, c.1, c.2, c.3, (tt, refl, c.4))))
    (and_then_lawful p (λ x rest. made (λ u. x) (q rest)) l (λ x. Image (λ u. x) (λ u. m)) follows Any (record {
      begins = h;
      goes_on = λ x a e. made_lawful (λ u. x) q (λ u. m) Any k;
      joins = λ x r a b rest e c d. joins b rest c.2;
    }))

-- a thing behind a reserved word
pub behind_key_lawful : {X : Type 0} (k : Keyword) (p : Reader X) (m : X → Form) (follows : List Tok → Type 0) → Lawful p m follows → Lawful (behind_key k p) (λ x. keyword k ▹ m x) follows
behind_key_lawful k p m follows h = behind_lawful (key_reader k) p (keyword k) m follows (key_lawful k) h

-- a thing behind a symbol
pub behind_mark_lawful : {X : Type 0} (k : Mark) (p : Reader X) (m : X → Form) (follows : List Tok → Type 0) → Lawful p m follows → Lawful (behind_mark k p) (λ x. symbol k ▹ m x) follows
behind_mark_lawful k p m follows h = behind_lawful (mark_reader k) p (symbol k) m follows (mark_lawful k) h

-- what holds of all tokens that begin with this symbol may be in front of it
pub before_mark_lawful : {X : Type 0} (p : Reader X) (k : Mark) (l : X → Form) (follows : List Tok → Type 0) → Lawful p l follows → ((at : Place) (ts : List Tok) → follows (tok_at (mark k) at ∷ ts)) → Lawful (before_mark p k) (λ x. l x ▹ symbol k) Any
before_mark_lawful p k l follows h joins = before_lawful p (mark_reader k) l (symbol k) follows h (mark_lawful k) (one_follows follows (mark k) joins)

-- a thing in parentheses
pub in_parens_lawful : {X : Type 0} (p : Reader X) (l : X → Form) (follows : List Tok → Type 0) → Lawful p l follows → ((at : Place) (ts : List Tok) → follows (tok_at (mark RightParen) at ∷ ts)) → Lawful (in_parens p) (λ x. parens (l x)) Any
in_parens_lawful p l follows h joins = behind_mark_lawful LeftParen (before_mark p RightParen) (λ x. l x ▹ symbol RightParen) Any (before_mark_lawful p RightParen l follows h joins)

-- a thing in braces
pub in_braces_lawful : {X : Type 0} (p : Reader X) (l : X → Form) (follows : List Tok → Type 0) → Lawful p l follows → ((at : Place) (ts : List Tok) → follows (tok_at (mark RightBrace) at ∷ ts)) → Lawful (in_braces p) (λ x. braces (l x)) Any
in_braces_lawful p l follows h joins = behind_mark_lawful LeftBrace (before_mark p RightBrace) (λ x. l x ▹ symbol RightBrace) Any (before_mark_lawful p RightBrace l follows h joins)
