-- Lists of tokens that look the same one token ahead, and tests that look no further.
use Rattle.std.proofs.Common.{◌≡◌, Bool, ◌&&◌, ◌||◌, List, [], ◌∷◌, ◌++◌, refl, sym, ap, ◌∙◌, subst, append_assoc, append-nil}
use Rattle.yt_grammar.specs.Forms.{Form, nothing, ◌▹◌}
use Rattle.yt_grammar.specs.Lexemes.{Tok, AreTokens}
use Rattle.yt_grammar.proofs.reading.Lawful.{SameHead}

-- each list looks like itself
pub same_self : (s : List Tok) → SameHead s s
same_self [] = tt
same_self (t ∷ ts) = refl

-- behind the same front
pub same_behind : (front s other : List Tok) → SameHead s other → SameHead (front ++ s) (front ++ other)
same_behind [] s other h = h
same_behind (t ∷ ts) s other h = refl

-- where the list is known to be put together
pub same_split : (front s mid other : List Tok) → mid ≡ front ++ s → SameHead s other → SameHead mid (front ++ other)
same_split front s mid other e h = rw e (same_behind front s other h)

-- behind nothing
pub same_nil : (other : List Tok) → SameHead [] other → other ≡ []
same_nil [] h = refl
same_nil (t ∷ ts) h = absurd h

-- a test that looks at the first token only
abbrev pub LooksAhead : (List Tok → Bool) → Type 0
LooksAhead test = (s other : List Tok) → SameHead s other → test s ≡ test other

-- a test is of that kind where all lists that begin with the same token pass it or none
pub looks_ahead : (test : List Tok → Bool) → ((t : Tok) (ts us : List Tok) → test (t ∷ ts) ≡ test (t ∷ us)) → LooksAhead test
looks_ahead test h [] [] e = refl
looks_ahead test h [] (u ∷ us) e = absurd e
looks_ahead test h (t ∷ ts) [] e = absurd e
looks_ahead test h (t ∷ ts) (u ∷ us) e = h t ts us ∙ ap (λ v. test (v ∷ us)) e

-- tokens behind tokens
pub are_tokens_both : (a b : List Tok) → AreTokens a → AreTokens b → AreTokens (a ++ b)
are_tokens_both [] b h k = k
are_tokens_both (t ∷ ts) b h k = (h.0, are_tokens_both ts b h.1 k)

-- and in front of tokens
pub are_tokens_front : (a b : List Tok) → AreTokens (a ++ b) → AreTokens a
are_tokens_front [] b h = tt
are_tokens_front (t ∷ ts) b h = (h.0, are_tokens_front ts b h.1)

-- what holds in front of all tokens behind a first part holds behind the first of two
pub front_holds : (holds : List Tok → Type 0) (l m : Form) → ((a rest : List Tok) → l a → holds (a ++ rest)) → (w rest : List Tok) → (l ▹ m) w → holds (w ++ rest)
front_holds holds l m h w rest c = subst holds (sym (ap (λ v. v ++ rest) c.2 ∙ append_assoc c.0 c.1 rest)) (h c.0 (c.1 ++ rest) c.3)

-- the same tokens, with the forms grouped the other way
pub group_right : (l m n : Form) (w : List Tok) → ((l ▹ m) ▹ n) w → (l ▹ m ▹ n) w
group_right l m n w c = (c.3.0, c.3.1 ++ c.1, c.2 ∙ ap (λ v. v ++ c.1) c.3.2 ∙ append_assoc c.3.0 c.3.1 c.1, c.3.3, (c.3.1, c.1, refl, c.3.4, c.4))

-- and back
pub group_left : (l m n : Form) (w : List Tok) → (l ▹ m ▹ n) w → ((l ▹ m) ▹ n) w
group_left l m n w c = (c.0 ++ c.4.0, c.4.1, c.2 ∙ ap (λ v. c.0 ++ v) c.4.2 ∙ sym (append_assoc c.0 c.4.0 c.4.1), (c.0, c.4.0, refl, c.3, c.4.3), c.4.4)

-- the second of two said in another form
pub second_as : (l m n : Form) → ((w : List Tok) → m w → n w) → (w : List Tok) → (l ▹ m) w → (l ▹ n) w
second_as l m n h w c = (c.0, c.1, c.2, c.3, h c.1 c.4)

-- the first of two said in another form
pub first_as : (l m n : Form) → ((w : List Tok) → l w → m w) → (w : List Tok) → (l ▹ n) w → (m ▹ n) w
first_as l m n h w c = (c.0, c.1, c.2, h c.0 c.3, c.4)

-- with nothing behind
pub add_nothing : (l : Form) (w : List Tok) → l w → (l ▹ nothing) w
add_nothing l w c = (w, [], sym (append-nil w), c, refl)

-- and without it
pub drop_nothing : (l : Form) (w : List Tok) → (l ▹ nothing) w → l w
drop_nothing l w c = subst l (sym (c.2 ∙ ap (λ v. c.0 ++ v) c.4 ∙ append-nil c.0)) c.3

-- tests put together look no further than their parts
pub and_ahead : (b : Bool) (test : List Tok → Bool) → LooksAhead test → LooksAhead (λ s. b && test s)
and_ahead b test h s other same = ap (λ v. b && v) (h s other same)

-- also where either may pass
pub or_ahead : (test more : List Tok → Bool) → LooksAhead test → LooksAhead more → LooksAhead (λ s. test s || more s)
or_ahead test more h k s other same = ap (λ v. v || more s) (h s other same) ∙ ap (λ v. test other || v) (k s other same)
