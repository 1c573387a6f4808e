-- What is shown of each reader: it reads just what a form spells, whatever comes behind, and where it is stuck some tokens would go on.
use Rattle.std.proofs.Common.{◌≡◌, List, [], ◌∷◌, ◌++◌}
use Rattle.yt_grammar.specs.Lexemes.{Tok, AreTokens}
use Rattle.yt_grammar.specs.Forms.{Form}
use Rattle.yt_grammar.specs.Inside.Reading.{got, stuck, Reader}

-- both end, or both begin with the same token: a reader that looks one token ahead can't tell them apart
abbrev pub SameHead : List Tok → List Tok → Type 0
SameHead [] [] = Unit {0}
SameHead [] (u ∷ us) = ⊥
SameHead (t ∷ ts) [] = ⊥
SameHead (t ∷ ts) (u ∷ us) = t ≡ u

-- a thing was read from a front that spells it, and would be in front of all tokens that look the same
pub record ReadsFront {X : Type 0} (p : Reader X) (form : X → Form) (s : List Tok) (x : X) (rest : List Tok) : Type 0 where
  pub front : List Tok
  pub splits : s ≡ front ++ rest
  pub spelled : form x front
  pub local : (other : List Tok) → SameHead rest other → p (front ++ other) ≡ got x other

-- reading is stuck behind a front that some tokens complete, and would be in front of all tokens that look the same
pub record StopsBehind {X : Type 0} (p : Reader X) (form : X → Form) (s rest : List Tok) : Type 0 where
  pub front : List Tok
  pub splits : s ≡ front ++ rest
  pub missing : List Tok
  pub fine : AreTokens missing
  pub thing : X
  pub completed : form thing (front ++ missing)
  pub local : (other : List Tok) → SameHead rest other → p (front ++ other) ≡ stuck other

-- A reader reads just what the form spells, where what follows is of a kind that can't belong to it.
pub record Lawful {X : Type 0} (p : Reader X) (form : X → Form) (follows : List Tok → Type 0) : Type 0 where
  pub sound : (s : List Tok) (x : X) (rest : List Tok) → p s ≡ got x rest → ReadsFront p form s x rest
  pub stops : (s rest : List Tok) → p s ≡ stuck rest → StopsBehind p form s rest
  pub complete : (w : List Tok) (x : X) (rest : List Tok) → form x w → follows rest → p (w ++ rest) ≡ got x rest

-- the form spells something
pub record IsInhabited {X : Type 0} (form : X → Form) : Type 0 where
  pub thing : X
  pub tokens : List Tok
  pub fine : AreTokens tokens
  pub spelled : form thing tokens
