-- A text has one list of tokens, and one end of it.
use Rattle.std.proofs.Common.{ℕ, ◌≡◌, List, [], ◌∷◌, drop, Option, None, Some, Result, Ok, Err, ◌++◌, refl, ap, append-nil, arith}
use Rattle.yt_graph.specs.declared.place.Place.{Place}
use Rattle.yt_lexer.specs.Places.{place_of}
use Rattle.yt_lexer.specs.First.{first_token}
use Rattle.yt_lexer.specs.Lexes.{next_from, IsTokenAt, IsFaultAt, EndsIn, Lexes, IsFirstFault, Gives}
use Rattle.yt_lexer.specs.declared.token.Token.{Token}
use Rattle.yt_lexer.specs.declared.token.TokenKind.{TokenKind}
use Rattle.yt_lexer.specs.declared.token.LexFault.{LexFault}
use Rattle.yt_lexer.specs.declared.token.LexFault.TheVariants.{BadByte, LongName, BigNumber, Memory}

-- what is read at the byte where a token begins
read_token : (text : List ℕ) (at : ℕ) (t : Token) (h : IsTokenAt text at t) → first_token (place_of text at) (drop at text) ≡ Ok (t.kind, h.len)
read_token text at t h = rw (← h.begins, ← h.placed) h.read

-- one reading gives one kind and one length
same_read : (r : Result (TokenKind × ℕ) LexFault) (a b : TokenKind) (m n : ℕ) → r ≡ Ok (a, m) → r ≡ Ok (b, n) → (a ≡ b) × (m ≡ n)
same_read r a b m n h k =
    let both : (a, m) ≡ (b, n) = cc in
    (ap (λ (p : TokenKind × ℕ). p.0) both, ap (λ (p : TokenKind × ℕ). p.1) both)

abbrev of_parts : TokenKind → ℕ → ℕ → Place → Token
of_parts kind from to place = record { kind = kind; from = from; to = to; place = place }

same_parts : (a b : TokenKind) (f g m n : ℕ) (p q : Place) → a ≡ b → f ≡ g → m ≡ n → p ≡ q → of_parts a f m p ≡ of_parts b g n q
same_parts a b f g m n p q h i j k = cc

one_token : (text : List ℕ) (at : ℕ) (t u : Token) → IsTokenAt text at t → IsTokenAt text at u → t ≡ u
one_token text at t u h k =
    let read = same_read (first_token (place_of text at) (drop at text)) t.kind u.kind h.len k.len (read_token text at t h) (read_token text at u k) in
    let from : t.from ≡ u.from = cc in
    let to : t.to ≡ u.to = grind (arith, h.ends, k.ends, read.1) in
    let place : t.place ≡ u.place = cc in
    same_parts t.kind u.kind t.from u.from t.to u.to t.place u.place read.0 from to place

-- no fault stands where a token begins
no_fault : (text : List ℕ) (at : ℕ) (t : Token) (fault : LexFault) → IsTokenAt text at t → IsFaultAt text at fault → {A : Type 0} → A
no_fault text at t fault h k = let a = read_token text at t h in absurd cc

-- nothing but one end comes behind the tokens
one_end : (text : List ℕ) (at : ℕ) (e d : Option LexFault) → EndsIn text at e → EndsIn text at d → e ≡ d
one_end text at None None h k = refl
one_end text at None (Some g) h k = absurd (omega (arith, k.more))
one_end text at (Some f) None h k = absurd (omega (arith, h.more))
one_end text at (Some f) (Some g) h k = let a = h.read in let b = k.read in cc

no_end : (text : List ℕ) (at : ℕ) (t : Token) (e : Option LexFault) → IsTokenAt text (next_from text at) t → EndsIn text at e → {A : Type 0} → A
no_end text at t None h k = absurd (omega (arith, h.more, h.begins))
no_end text at t (Some f) h k = no_fault text (next_from text at) t f h k

pub lexes_once : (text : List ℕ) (at : ℕ) (ts us : List Token) (e d : Option LexFault) → Lexes text at ts e → Lexes text at us d → (ts ≡ us) × (e ≡ d)
lexes_once text at [] [] e d h k = (refl, one_end text at e d h k)
lexes_once text at [] (u ∷ us) e d h k = no_end text at u e k.0 h
lexes_once text at (t ∷ ts) [] e d h k = no_end text at t d h.0 k
lexes_once text at (t ∷ ts) (u ∷ us) e d h k =
    let same = one_token text (next_from text at) t u h.0 k.0 in
    let rest = lexes_once text t.to ts us e d h.1 (rw same k.1) in
    (cc, rest.1)

-- a text without faults gives its tokens alone
pub gives_tokens : (text : List ℕ) (ts : List Token) → Lexes text 0 ts None → (us : List Token) (d : Option LexFault) → Lexes text 0 us d → Gives (Ok ts) us d
gives_tokens text ts h us d k = let both = lexes_once text 0 ts us None d h k in (both.0, cc)

-- a fault is first among these alone
pub gives_fault : (text : List ℕ) (fault : LexFault) → IsFirstFault text fault → (us : List Token) (d : Option LexFault) → Lexes text 0 us d → Gives (Err fault) us d
gives_fault text Memory h us d k = record {}
gives_fault text (BadByte p) h us d k = let both = lexes_once text 0 h.0 us (Some (BadByte p)) d h.1 k in cc
gives_fault text (LongName p) h us d k = let both = lexes_once text 0 h.0 us (Some (LongName p)) d h.1 k in cc
gives_fault text (BigNumber p) h us d k = let both = lexes_once text 0 h.0 us (Some (BigNumber p)) d h.1 k in cc

-- the front's fault, by its kind
pub first_fault : (text : List ℕ) (front : List Token) (fault : LexFault) → Lexes text 0 front (Some fault) → IsFirstFault text fault
first_fault text front Memory h = record {}
first_fault text front (BadByte p) h = (front, h)
first_fault text front (LongName p) h = (front, h)
first_fault text front (BigNumber p) h = (front, h)

-- where nothing comes behind the tokens so far, they are all
pub ends : (text : List ℕ) (at : ℕ) (tokens : List Token) (e : Option LexFault) → ((rest : List Token) (end : Option LexFault) → Lexes text at rest end → Lexes text 0 (tokens ++ rest) end) → EndsIn text at e → Lexes text 0 tokens e
ends text at tokens e so_far k = rw (append-nil tokens) at (so_far [] e k)
