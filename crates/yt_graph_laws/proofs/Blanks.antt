-- White space and comments in front of a text, byte by byte.
use Rattle.std.proofs.Common.{◌≡◌, append-nil, ℕ, suc, ◌+◌, Bool, true, false, cond, not, eqb, List, [], ◌∷◌, ◌++◌, length, length-append, append_assoc, refl, sym, ap, ◌∙◌, subst, arith, true≢false, eqb-true, eq-eqb}
use Rattle.std.specs.Prelude.{◌||◌, ◌&&◌}
use Rattle.std.specs.List.{list_any}
use Rattle.std.proofs.lemmas.Bool.{both_ways, or_from}
use Rattle.yt_base.specs.Lines.{is_feed}
use Rattle.yt_lexer.specs.First.{is_space, is_in_comment, blank_len, blank_len_in}
use Rattle.yt_graph_laws.specs.Blanks.{none, space, comment, last, bytes_of, IsSplit}

-- the rest of a comment: its bytes up to a line feed and what follows, or up to the end
data InComment (text : List ℕ) : Type 0 where
  ends : (front : List ℕ) (more : List ℕ) → list_any is_feed front ≡ false → text ≡ front ++ 10 ∷ more → blank_len_in true text ≡ length front + 1 + blank_len more → IsSplit more → InComment text
  stays : list_any is_feed text ≡ false → blank_len_in true text ≡ length text → InComment text

space_is : (b : ℕ) (bs : List ℕ) → is_space b ≡ true → eqb b 35 ≡ false → blank_len (b ∷ bs) ≡ 1 + blank_len bs
space_is b bs e h = by (is_space b) (eqb b 35) (is_feed b) e h
  where
    by : (s c f : Bool) → s ≡ true → c ≡ false → cond (s || c) (1 + blank_len_in (not f && c) bs) 0 ≡ 1 + blank_len bs
    by true false true p q = refl
    by true false false p q = refl
    by false c f p q = absurd (true≢false (sym p))
    by true true f p q = absurd (true≢false q)

hash_is : (bs : List ℕ) → blank_len (35 ∷ bs) ≡ 1 + blank_len_in true bs
hash_is bs = refl

feed_in : (bs : List ℕ) → blank_len_in true (10 ∷ bs) ≡ 1 + blank_len bs
feed_in bs = refl

other_in : (b : ℕ) (bs : List ℕ) → is_feed b ≡ false → blank_len_in true (b ∷ bs) ≡ 1 + blank_len_in true bs
other_in b bs e = ap (λ f. 1 + blank_len_in (not f && true) bs) e

no_blank : (b : ℕ) (bs : List ℕ) → is_space b ≡ false → eqb b 35 ≡ false → blank_len (b ∷ bs) ≡ 0
no_blank b bs e h = ap (λ t. cond t (1 + blank_len_in (is_in_comment false b) bs) 0) (or_from (is_space b) (eqb b 35) e h)

hash_no_space : (b : ℕ) → eqb b 35 ≡ true → b ≡ 35
hash_no_space b e = eqb-true b 35 e

split_space : (b : ℕ) (bs : List ℕ) → is_space b ≡ true → eqb b 35 ≡ false → IsSplit bs → IsSplit (b ∷ bs)
split_space b bs e h s = record {
  blanks = space b s.blanks;
  rest = s.rest;
  parts = ap (λ l. b ∷ l) s.parts;
  are = (e, s.are);
  count = let k = s.count in let m = space_is b bs e h in omega arith;
}

split_none : (b : ℕ) (bs : List ℕ) → is_space b ≡ false → eqb b 35 ≡ false → IsSplit (b ∷ bs)
split_none b bs e h = record {
  blanks = none;
  rest = b ∷ bs;
  parts = refl;
  are = (e, λ same. both_ways (eqb b 35) h (eq-eqb b 35 same));
  count = no_blank b bs e h;
}

split_hash : (bs : List ℕ) → InComment bs → IsSplit (35 ∷ bs)
split_hash bs (ends front more none_in is len s) =
    let whole : front ++ 10 ∷ more ≡ front ++ 10 ∷ (bytes_of s.blanks ++ s.rest) = ap (λ l. front ++ 10 ∷ l) s.parts in
    let bytes : length (front ++ 10 ∷ bytes_of s.blanks) ≡ length front + suc (length (bytes_of s.blanks)) = length-append front (10 ∷ bytes_of s.blanks) in
    record {
      blanks = comment front s.blanks;
      rest = s.rest;
      parts = ap (λ l. 35 ∷ l) (is ∙ whole ∙ sym (append_assoc front (10 ∷ bytes_of s.blanks) s.rest));
      are = (none_in, s.are);
      count = let k = s.count in let m = hash_is bs in omega arith;
    }
split_hash bs (stays none_in len) = record {
  blanks = last bs;
  rest = [];
  parts = ap (λ l. 35 ∷ l) (sym (append-nil bs));
  are = (none_in, refl);
  count = let m = hash_is bs in omega arith;
}

comment_more : (b : ℕ) (bs : List ℕ) → is_feed b ≡ false → InComment bs → InComment (b ∷ bs)
comment_more b bs e (ends front more none_in is len s) =
    ends (b ∷ front) more (or_from (is_feed b) (list_any is_feed front) e none_in) (ap (λ l. b ∷ l) is) (let m = other_in b bs e in omega arith) s
comment_more b bs e (stays none_in len) = stays (or_from (is_feed b) (list_any is_feed bs) e none_in) (let m = other_in b bs e in omega arith)

comment_feed : (b : ℕ) (bs : List ℕ) → is_feed b ≡ true → IsSplit bs → InComment (b ∷ bs)
comment_feed b bs e s =
    let is : b ≡ 10 = eqb-true b 10 e in
    subst (λ n. InComment (n ∷ bs)) (sym is) (ends [] bs refl refl (let m = feed_in bs in omega arith) s)

choose_comment : (b : ℕ) (bs : List ℕ) (t : Bool) → is_feed b ≡ t → InComment bs → IsSplit bs → InComment (b ∷ bs)
choose_comment b bs true e c s = comment_feed b bs e s
choose_comment b bs false e c s = comment_more b bs e c

choose_split : (b : ℕ) (bs : List ℕ) (h t : Bool) → eqb b 35 ≡ h → is_space b ≡ t → InComment bs → IsSplit bs → IsSplit (b ∷ bs)
choose_split b bs true t e k c s = subst (λ n. IsSplit (n ∷ bs)) (sym (eqb-true b 35 e)) (split_hash bs c)
choose_split b bs false true e k c s = split_space b bs k e s
choose_split b bs false false e k c s = split_none b bs k e

mutual
  in_comment : (text : List ℕ) → InComment text
  in_comment [] = stays refl refl
  in_comment (b ∷ bs) = choose_comment b bs (is_feed b) refl (in_comment bs) (blanks_are_space_and_comments bs)

  pub blanks_are_space_and_comments : (text : List ℕ) → IsSplit text
  blanks_are_space_and_comments [] = record { blanks = none; rest = []; parts = refl; are = tt; count = refl }
  blanks_are_space_and_comments (b ∷ bs) = choose_split b bs (eqb b 35) (is_space b) refl refl (in_comment bs) (blanks_are_space_and_comments bs)
