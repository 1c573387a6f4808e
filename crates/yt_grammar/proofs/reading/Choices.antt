-- Laws of readers that go one way or another, by the first token.
use Rattle.std.proofs.Common.{◌≡◌, ◌⊎◌, inl, inr, Bool, true, false, if◌then◌else◌, Option, None, Some, List, [], ◌++◌, refl, sym, ap, ◌∙◌, subst}
use Rattle.yt_grammar.specs.Lexemes.{Tok}
use Rattle.yt_grammar.specs.Forms.{Form, nothing}
use Rattle.yt_grammar.specs.Inside.Reading.{got, stuck, Reader, made, choice, optional}
use Rattle.yt_grammar.proofs.reading.Lawful.{SameHead, ReadsFront, StopsBehind, Lawful}
use Rattle.yt_grammar.proofs.reading.Heads.{same_split, LooksAhead}
use Rattle.yt_grammar.proofs.reading.Many.{if_false}
use Rattle.yt_grammar.proofs.reading.Singles.{Any, lawful_form, lawful_follows}
use Rattle.yt_grammar.proofs.reading.Sequences.{Image, made_lawful}

-- one form or the other
abbrev pub Either : {X : Type 0} → (X → Form) → (X → Form) → X → Form
Either l m x w = l x w ⊎ m x w

-- what is known of two readers and the test between them; each need only be lawful where some tokens lead to it
pub record IsChoice {X : Type 0} (test : List Tok → Bool) (p q : Reader X) (l m : X → Form) (follows : List Tok → Type 0) : Type 0 where
  pub ahead : LooksAhead test
  pub one : (s : List Tok) → test s ≡ true → Lawful p l follows
  pub other : (s : List Tok) → test s ≡ false → Lawful q m follows
  pub passes : (x : X) (w rest : List Tok) → l x w → follows rest → test (w ++ rest) ≡ true
  pub fails : (x : X) (w rest : List Tok) → m x w → follows rest → test (w ++ rest) ≡ false

-- the first of two, where the test passes
pub if_true : {A : Type 0} (b : Bool) (u w : A) → b ≡ true → (if b then u else w) ≡ u
if_true true u w h = refl
if_true false u w h = absurd cc

module _ {X : Type 0} (test : List Tok → Bool) (p q : Reader X) (l m : X → Form) (follows : List Tok → Type 0) (h : IsChoice test p q l m follows) where
  -- tokens that look the same go the same way
  one_way : (s front rest other : List Tok) → test s ≡ true → s ≡ front ++ rest → SameHead rest other → choice test p q (front ++ other) ≡ p (front ++ other)
  one_way s front rest other t e same = if_true (test (front ++ other)) _ _ (sym (h.ahead s (front ++ other) (same_split front rest s other e same)) ∙ t)

  other_way : (s front rest other : List Tok) → test s ≡ false → s ≡ front ++ rest → SameHead rest other → choice test p q (front ++ other) ≡ q (front ++ other)
  other_way s front rest other t e same = if_false (test (front ++ other)) _ _ (sym (h.ahead s (front ++ other) (same_split front rest s other e same)) ∙ t)

  -- what is read is spelled, by the way that the test goes
  choice_sound : (s : List Tok) (x : X) (rest : List Tok) (b : Bool) → test s ≡ b → choice test p q s ≡ got x rest → ReadsFront (choice test p q) (Either l m) s x rest
  choice_sound s x rest true t e =
      let a : ReadsFront p l s x rest = (h.one s t).sound s x rest (sym (if_true (test s) _ _ t) ∙ e) in
      record { front = a.front; splits = a.splits; spelled = inl a.spelled; local = λ other same. one_way s a.front rest other t a.splits same ∙ a.local other same }
  choice_sound s x rest false t e =
      let a : ReadsFront q m s x rest = (h.other s t).sound s x rest (sym (if_false (test s) _ _ t) ∙ e) in
      record { front = a.front; splits = a.splits; spelled = inr a.spelled; local = λ other same. other_way s a.front rest other t a.splits same ∙ a.local other same }

  -- where reading is stuck, some tokens go on, by the same way
  choice_stops : (s rest : List Tok) (b : Bool) → test s ≡ b → choice test p q s ≡ stuck rest → StopsBehind (choice test p q) (Either l m) s rest
  choice_stops s rest true t e =
      let a : StopsBehind p l s rest = (h.one s t).stops s rest (sym (if_true (test s) _ _ t) ∙ e) in
      record {
        front = a.front;
        splits = a.splits;
        missing = a.missing;
        fine = a.fine;
        thing = a.thing;
        completed = inl a.completed;
        local = λ other same. one_way s a.front rest other t a.splits same ∙ a.local other same;
      }
  choice_stops s rest false t e =
      let a : StopsBehind q m s rest = (h.other s t).stops s rest (sym (if_false (test s) _ _ t) ∙ e) in
      record {
        front = a.front;
        splits = a.splits;
        missing = a.missing;
        fine = a.fine;
        thing = a.thing;
        completed = inr a.completed;
        local = λ other same. other_way s a.front rest other t a.splits same ∙ a.local other same;
      }

  -- what is spelled is read
  choice_complete : (w : List Tok) (x : X) (rest : List Tok) → Either l m x w → follows rest → choice test p q (w ++ rest) ≡ got x rest
  choice_complete w x rest (inl c) f =
      let t : test (w ++ rest) ≡ true = h.passes x w rest c f in
      if_true (test (w ++ rest)) _ _ t ∙ (h.one (w ++ rest) t).complete w x rest c f
  choice_complete w x rest (inr c) f =
      let t : test (w ++ rest) ≡ false = h.fails x w rest c f in
      if_false (test (w ++ rest)) _ _ t ∙ (h.other (w ++ rest) t).complete w x rest c f

  -- the law of a choice
  pub choice_lawful : Lawful (choice test p q) (Either l m) follows
  choice_lawful = record {
    sound = λ s x rest e. choice_sound s x rest (test s) refl e;
    stops = λ s rest e. choice_stops s rest (test s) refl e;
    complete = choice_complete;
  }

-- this thing, and no token
abbrev pub Given : {X : Type 0} → X → X → Form
Given x y w = (y ≡ x) × (w ≡ [])

-- the law of what reads no token
pub given_lawful : {X : Type 0} (x : X) → Lawful (got x) (Given x) Any
given_lawful {X} x = record {
  sound = λ s y rest e. let same : y ≡ x = cc in let left : s ≡ rest = cc in reads s y rest same left;
  stops = λ s rest e. absurd cc;
  complete = λ w y rest c f. ap (λ v. got x (v ++ rest)) c.1 ∙ ap (λ v. got v rest) (sym c.0);
}
  where
    reads : (s : List Tok) (y : X) (rest : List Tok) → y ≡ x → s ≡ rest → ReadsFront (got x) (Given x) s y rest
    reads s y rest e d = record { front = []; splits = d; spelled = (e, refl); local = λ other same. ap (λ v. got v other) (sym e) }

-- a form, where there is a thing
abbrev pub Perhaps : {X : Type 0} → (X → Form) → Option X → Form
Perhaps l None = nothing
Perhaps l (Some x) = l x

-- what may follow where a thing is absent: no tokens that begin like one
pub record Ends (test : List Tok → Bool) (follows : List Tok → Type 0) (s : List Tok) : Type 0 where
  pub fails : test s ≡ false
  pub may : follows s

module _ {X : Type 0} (test : List Tok → Bool) (p : Reader X) (l : X → Form) (follows : List Tok → Type 0) (h : Lawful p l follows) where
  -- a thing or none, as one of two forms
  absent : (o : Option X) (w : List Tok) → Perhaps l o w → Either (Image Some l) (Given None) o w
  absent None w c = inr (refl, c)
  absent (Some x) w c = inl (x, refl, c)

  -- and back
  present : (o : Option X) (w : List Tok) → Either (Image Some l) (Given None) o w → Perhaps l o w
  present o w (inl c) = subst (λ v. Perhaps l v w) (sym c.1) c.2
  present o w (inr c) = subst (λ v. Perhaps l v w) (sym c.0) c.1

  -- the law of what may be absent
  pub optional_lawful : LooksAhead test → ((x : X) (w rest : List Tok) → l x w → test (w ++ rest) ≡ true) → Lawful (optional test p) (Perhaps l) (Ends test follows)
  optional_lawful ahead begins =
      lawful_form (optional test p) (Either (Image Some l) (Given None)) (Perhaps l) (Ends test follows) present absent
      (choice_lawful test (λ s. made Some (p s)) (got None) (Image Some l) (Given None) (Ends test follows) (record {
        ahead = ahead;
        one = λ s t. lawful_follows (λ s. made Some (p s)) (Image Some l) follows (Ends test follows) (λ rest f. f.may) (made_lawful Some p l follows h);
        other = λ s t. lawful_follows (got None) (Given None) Any (Ends test follows) (λ rest f. tt) (given_lawful None);
        passes = λ o w rest c f. begins c.0 w rest c.2;
        fails = λ o w rest c f. ap (λ v. test (v ++ rest)) c.1 ∙ f.fails;
      }))
