-- Laws of readers of many things.
use Rattle.std.proofs.Common.{◌≡◌, ℕ, zero, suc, ◌+◌, ◌≤◌, ◌<◌, inl, inr, Bool, true, false, List, [], ◌∷◌, ◌++◌, length, refl, sym, ap, ◌∙◌, subst, length-append, arith}
use Rattle.std.proofs.lemmas.List.{append_cancel_right}
use Rattle.yt_graph.specs.declared.place.Place.{Place}
use Rattle.yt_grammar.specs.declared.sign.Mark.TheVariants.{RightParen, Comma}
use Rattle.yt_grammar.specs.Lexemes.{Tok, mark}
use Rattle.yt_grammar.specs.Forms.{Form, ◌▹◌, symbol, each, listed}
use Rattle.yt_grammar.specs.Inside.Reading.{Reading, got, stuck, Reader, and_then, made, choice, many_of, many, one_or_more, at_mark, behind_mark}
use Rattle.yt_grammar.proofs.reading.Lawful.{ReadsFront, StopsBehind, Lawful}
use Rattle.yt_grammar.proofs.reading.Heads.{LooksAhead, front_holds}
use Rattle.yt_grammar.proofs.reading.Many.{Steps, many_is}
use Rattle.yt_grammar.proofs.reading.Signs.{tok_at, BeginsWith, first_follows, at_mark_ahead}
use Rattle.yt_grammar.proofs.reading.Singles.{Any, lawful_form, lawful_follows}
use Rattle.yt_grammar.proofs.reading.Sequences.{Image, Then, made_lawful, and_then_lawful, behind_mark_lawful}
use Rattle.yt_grammar.proofs.reading.Choices.{Either, Given, given_lawful, Ends, choice_lawful}

-- what is known of things that are read as long as the tokens begin so
pub record IsRepeat {X : Type 0} (test : List Tok → Bool) (p : Reader X) (l : X → Form) (follows : List Tok → Type 0) : Type 0 where
  pub law : Lawful p l follows
  pub ahead : LooksAhead test
  pub at_end : test [] ≡ false
  pub begins : (x : X) (w rest : List Tok) → l x w → test (w ++ rest) ≡ true
  pub joins : (x : X) (w rest : List Tok) → l x w → follows (w ++ rest)

-- so many at most, one behind the other
abbrev UpTo : {X : Type 0} → ℕ → (X → Form) → List X → Form
UpTo n l xs w = (length xs ≤ n) × each l xs w

-- what is left is shorter where something was in front
shorter : (s front rest : List Tok) → s ≡ front ++ rest → ¬ (front ≡ []) → length rest < length s
shorter s [] rest e h = absurd (h refl)
shorter s (t ∷ ts) rest e h =
    let counts : length s ≡ suc (length (ts ++ rest)) = ap length e in
    let more : length (ts ++ rest) ≡ length ts + length rest = length-append ts rest in
    omega arith

module _ {X : Type 0} (test : List Tok → Bool) (p : Reader X) (l : X → Form) (follows : List Tok → Type 0) (h : IsRepeat test p l follows) where
  -- no thing is empty
  not_empty : (x : X) (w : List Tok) → l x w → ¬ (w ≡ [])
  not_empty x w c e =
      let passes : test (w ++ []) ≡ true = h.begins x w [] c in
      let none : test [] ≡ true = subst (λ v. test (v ++ []) ≡ true) e passes in
      let fails : test [] ≡ false = h.at_end in
      absurd cc

  -- each thing takes a token
  pub repeat_steps : Steps test p
  repeat_steps = record {
    at_end = h.at_end;
    takes = λ s x rest t e.
        let a : ReadsFront p l s x rest = h.law.sound s x rest e in
        shorter s a.front rest a.splits (not_empty x a.front a.spelled);
  }

  -- more things, or none, may follow a thing
  pub many_joins : (xs : List X) (b rest : List Tok) → each l xs b → Ends test follows rest → follows (b ++ rest)
  many_joins [] b rest c f = subst (λ v. follows (v ++ rest)) (sym c) f.may
  many_joins (x ∷ xs) b rest c f = front_holds follows (l x) (each l xs) (h.joins x) b rest c

  -- none, at most, is no thing
  none_there : (xs : List X) (w : List Tok) → Given [] xs w → UpTo zero l xs w
  none_there xs w c = subst (λ v. UpTo zero l v w) (sym c.0) (omega arith, c.1)

  -- and back
  none_back : (xs : List X) (w : List Tok) → UpTo zero l xs w → Given [] xs w
  none_back [] w c = (refl, c.1)
  none_back (x ∷ xs) w c = absurd (omega (arith, c.0))

  -- one and then some, or none, are some
  some_there : (n : ℕ) (xs : List X) (w : List Tok) → Either (Then l (λ x. Image (λ ys. x ∷ ys) (UpTo n l))) (Given []) xs w → UpTo (suc n) l xs w
  some_there n xs w (inl c) = subst (λ v. UpTo (suc n) l v w) (sym c.1.4.1) (omega (arith, c.1.4.2.0), (c.1.0, c.1.1, c.1.2, c.1.3, c.1.4.2.1))
  some_there n xs w (inr c) = subst (λ v. UpTo (suc n) l v w) (sym c.0) (omega arith, c.1)

  -- and back
  some_back : (n : ℕ) (xs : List X) (w : List Tok) → UpTo (suc n) l xs w → Either (Then l (λ x. Image (λ ys. x ∷ ys) (UpTo n l))) (Given []) xs w
  some_back n [] w c = inr (refl, c.1)
  some_back n (x ∷ xs) w c = inl (x, (c.1.0, c.1.1, c.1.2, c.1.3, (xs, refl, (omega (arith, c.0), c.1.4))))

  -- the law of so many at most
  many_of_lawful : (n : ℕ) → Lawful (many_of n test p) (UpTo n l) (Ends test follows)
  many_of_lawful zero =
      lawful_form (many_of zero test p) (Given []) (UpTo zero l) (Ends test follows) none_there none_back
      (lawful_follows (many_of zero test p) (Given []) Any (Ends test follows) (λ rest f. tt) (given_lawful []))
  many_of_lawful (suc n) =
      let more : Lawful (many_of n test p) (UpTo n l) (Ends test follows) = many_of_lawful n in
      lawful_form (many_of (suc n) test p) (Either (Then l (λ x. Image (λ ys. x ∷ ys) (UpTo n l))) (Given [])) (UpTo (suc n) l) (Ends test follows) (some_there n) (some_back n)
      (choice_lawful test (λ s. and_then (p s) (λ x rest. made (λ ys. x ∷ ys) (many_of n test p rest))) (got []) (Then l (λ x. Image (λ ys. x ∷ ys) (UpTo n l))) (Given []) (Ends test follows) (record {
        ahead = h.ahead;
        one = λ s t. and_then_lawful p (λ x rest. made (λ ys. x ∷ ys) (many_of n test p rest)) l (λ x. Image (λ ys. x ∷ ys) (UpTo n l)) follows (Ends test follows) (record {
          begins = h.law;
          goes_on = λ x a c. made_lawful (λ ys. x ∷ ys) (many_of n test p) (UpTo n l) (Ends test follows) more;
          joins = λ x ys a b rest e c f. many_joins c.0 b rest c.2.1 f;
        });
        other = λ s t. lawful_follows (got []) (Given []) Any (Ends test follows) (λ rest f. tt) (given_lawful []);
        passes = λ ys w rest c f. front_holds (λ v. test v ≡ true) (l c.0) (Image (λ zs. c.0 ∷ zs) (UpTo n l) ys) (h.begins c.0) w rest c.1;
        fails = λ ys w rest c f. ap (λ v. test (v ++ rest)) c.1 ∙ f.fails;
      }))

  -- turns enough for the tokens and for others behind the same front
  many_local : (s front rest other : List Tok) (r : Reading (List X)) → s ≡ front ++ rest → many_of (length s + length other) test p (front ++ other) ≡ r → many test p (front ++ other) ≡ r
  many_local s front rest other r e is =
      let all : length s ≡ length (front ++ rest) = ap length e in
      let these : length (front ++ rest) ≡ length front + length rest = length-append front rest in
      let those : length (front ++ other) ≡ length front + length other = length-append front other in
      sym (many_is test p repeat_steps (length s + length other) (front ++ other) (omega arith)) ∙ is

  -- turns enough for the tokens
  turns : (s other : List Tok) → many_of (length s + length other) test p s ≡ many test p s
  turns s other = many_is test p repeat_steps (length s + length other) s (omega arith)

  -- a front is determined by what is behind it
  same_front : (s a b rest : List Tok) → s ≡ a ++ rest → s ≡ b ++ rest → a ≡ b
  same_front s a b rest e d = append_cancel_right a b rest (sym e ∙ d)

  -- what is read is spelled
  many_sound : (s : List Tok) (xs : List X) (rest : List Tok) → many test p s ≡ got xs rest → ReadsFront (many test p) (each l) s xs rest
  many_sound s xs rest e =
      let a : ReadsFront (many_of (length s) test p) (UpTo (length s) l) s xs rest = (many_of_lawful (length s)).sound s xs rest (many_is test p repeat_steps (length s) s (omega arith) ∙ e) in
      record {
        front = a.front;
        splits = a.splits;
        spelled = a.spelled.1;
        local = λ other same.
            let b : ReadsFront (many_of (length s + length other) test p) (UpTo (length s + length other) l) s xs rest = (many_of_lawful (length s + length other)).sound s xs rest (turns s other ∙ e) in
            many_local s a.front rest other (got xs other) a.splits
            (subst (λ v. many_of (length s + length other) test p (v ++ other) ≡ got xs other) (same_front s b.front a.front rest b.splits a.splits) (b.local other same));
      }

  -- where reading is stuck, some tokens go on
  many_stops : (s rest : List Tok) → many test p s ≡ stuck rest → StopsBehind (many test p) (each l) s rest
  many_stops s rest e =
      let a : StopsBehind (many_of (length s) test p) (UpTo (length s) l) s rest = (many_of_lawful (length s)).stops s rest (many_is test p repeat_steps (length s) s (omega arith) ∙ e) in
      record {
        front = a.front;
        splits = a.splits;
        missing = a.missing;
        fine = a.fine;
        thing = a.thing;
        completed = a.completed.1;
        local = λ other same.
            let b : StopsBehind (many_of (length s + length other) test p) (UpTo (length s + length other) l) s rest = (many_of_lawful (length s + length other)).stops s rest (turns s other ∙ e) in
            many_local s a.front rest other (stuck other) a.splits
            (subst (λ v. many_of (length s + length other) test p (v ++ other) ≡ stuck other) (same_front s b.front a.front rest b.splits a.splits) (b.local other same));
      }

  -- what is spelled is read
  many_complete : (w : List Tok) (xs : List X) (rest : List Tok) → each l xs w → Ends test follows rest → many test p (w ++ rest) ≡ got xs rest
  many_complete w xs rest c f =
      sym (many_is test p repeat_steps (length (w ++ rest) + length xs) (w ++ rest) (omega arith))
      ∙ (many_of_lawful (length (w ++ rest) + length xs)).complete w xs rest (omega arith, c) f

  -- the law of many things
  pub many_lawful : Lawful (many test p) (each l) (Ends test follows)
  many_lawful = record { sound = many_sound; stops = many_stops; complete = many_complete }

-- things with commas between them, one at least
abbrev pub OneOrMore : {X : Type 0} → (X → Form) → List X → Form
OneOrMore l [] w = ⊥
OneOrMore l (x ∷ xs) w = listed l (x ∷ xs) w

module _ {X : Type 0} (p : Reader X) (l : X → Form) (follows : List Tok → Type 0) (h : Lawful p l follows) where
  -- things behind commas repeat
  more_repeats : ((at : Place) (ts : List Tok) → follows (tok_at (mark Comma) at ∷ ts)) → IsRepeat (at_mark Comma) (behind_mark Comma p) (λ y. symbol Comma ▹ l y) follows
  more_repeats comma = record {
    law = behind_mark_lawful Comma p l follows h;
    ahead = at_mark_ahead Comma;
    at_end = refl;
    begins = λ x w rest c. first_follows (λ v. at_mark Comma v ≡ true) (mark Comma) (λ at ts. refl) (l x) w rest c;
    joins = λ x w rest c. first_follows follows (mark Comma) comma (l x) w rest c;
  }

  -- one, and then some behind commas
  more_there : (xs : List X) (w : List Tok) → Then l (λ x. Image (λ ys. x ∷ ys) (each (λ y. symbol Comma ▹ l y))) xs w → OneOrMore l xs w
  more_there xs w c = subst (λ v. OneOrMore l v w) (sym c.1.4.1) (c.1.0, c.1.1, c.1.2, c.1.3, c.1.4.2)

  -- and back
  more_back : (xs : List X) (w : List Tok) → OneOrMore l xs w → Then l (λ x. Image (λ ys. x ∷ ys) (each (λ y. symbol Comma ▹ l y))) xs w
  more_back [] w c = absurd c
  more_back (x ∷ xs) w c = (x, (c.0, c.1, c.2, c.3, (xs, refl, c.4)))

  -- the law of things with commas between them
  pub one_or_more_lawful : ((at : Place) (ts : List Tok) → follows (tok_at (mark Comma) at ∷ ts)) → Lawful (one_or_more p) (OneOrMore l) (Ends (at_mark Comma) follows)
  one_or_more_lawful comma =
      let repeats : IsRepeat (at_mark Comma) (behind_mark Comma p) (λ y. symbol Comma ▹ l y) follows = more_repeats comma in
      lawful_form (one_or_more p) (Then l (λ x. Image (λ ys. x ∷ ys) (each (λ y. symbol Comma ▹ l y)))) (OneOrMore l) (Ends (at_mark Comma) follows) more_there more_back
      (and_then_lawful p (λ x rest. made (λ ys. x ∷ ys) (many (at_mark Comma) (behind_mark Comma p) rest)) l (λ x. Image (λ ys. x ∷ ys) (each (λ y. symbol Comma ▹ l y))) follows (Ends (at_mark Comma) follows) (record {
        begins = h;
        goes_on = λ x a c. made_lawful (λ ys. x ∷ ys) (many (at_mark Comma) (behind_mark Comma p)) (each (λ y. symbol Comma ▹ l y)) (Ends (at_mark Comma) follows) (many_lawful (at_mark Comma) (behind_mark Comma p) (λ y. symbol Comma ▹ l y) follows repeats);
        joins = λ x ys a b rest e c f. many_joins (at_mark Comma) (behind_mark Comma p) (λ y. symbol Comma ▹ l y) follows repeats c.0 b rest c.2 f;
      }))

  -- one at least, or none
  listed_there : (xs : List X) (w : List Tok) → Either (Given []) (OneOrMore l) xs w → listed l xs w
  listed_there xs w (inl c) = subst (λ v. listed l v w) (sym c.0) c.1
  listed_there [] w (inr c) = absurd c
  listed_there (x ∷ xs) w (inr c) = c

  -- and back
  listed_back : (xs : List X) (w : List Tok) → listed l xs w → Either (Given []) (OneOrMore l) xs w
  listed_back [] w c = inl (refl, c)
  listed_back (x ∷ xs) w c = inr c

  -- no such things begin with `)`
  not_paren : ((x : X) (w rest : List Tok) → l x w → at_mark RightParen (w ++ rest) ≡ false) → (xs : List X) (w rest : List Tok) → OneOrMore l xs w → at_mark RightParen (w ++ rest) ≡ false
  not_paren starts [] w rest c = absurd c
  not_paren starts (x ∷ xs) w rest c = front_holds (λ v. at_mark RightParen v ≡ false) (l x) (each (λ y. symbol Comma ▹ l y) xs) (starts x) w rest c

  -- things with commas between them, or none, in front of `)`
  pub listed_lawful : ((at : Place) (ts : List Tok) → follows (tok_at (mark Comma) at ∷ ts)) → ((at : Place) (ts : List Tok) → follows (tok_at (mark RightParen) at ∷ ts)) → ((x : X) (w rest : List Tok) → l x w → at_mark RightParen (w ++ rest) ≡ false) → Lawful (choice (at_mark RightParen) (got []) (one_or_more p)) (listed l) (BeginsWith (mark RightParen))
  listed_lawful comma paren starts =
      lawful_form (choice (at_mark RightParen) (got []) (one_or_more p)) (Either (Given []) (OneOrMore l)) (listed l) (BeginsWith (mark RightParen)) listed_there listed_back
      (choice_lawful (at_mark RightParen) (got []) (one_or_more p) (Given []) (OneOrMore l) (BeginsWith (mark RightParen)) (record {
        ahead = at_mark_ahead RightParen;
        one = λ s t. lawful_follows (got []) (Given []) Any (BeginsWith (mark RightParen)) (λ rest f. tt) (given_lawful []);
        other = λ s t. lawful_follows (one_or_more p) (OneOrMore l) (Ends (at_mark Comma) follows) (BeginsWith (mark RightParen)) ends (one_or_more_lawful comma);
        passes = λ xs w rest c f. ap (λ v. at_mark RightParen (v ++ rest)) c.1 ∙ ap (at_mark RightParen) f.2;
        fails = λ xs w rest c f. not_paren starts xs w rest c;
      }))
    where
      ends : (rest : List Tok) → BeginsWith (mark RightParen) rest → Ends (at_mark Comma) follows rest
      ends rest f = subst (Ends (at_mark Comma) follows) (sym f.2) (record { fails = refl; may = paren f.0 f.1 })
