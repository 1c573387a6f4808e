-- What stands in front of a token: white space and comments.
use Rattle.std.specs.Prelude.{◌≡◌, ◌≢◌, ℕ, false, true, List, [], ◌∷◌, ◌++◌, length}
use Rattle.std.specs.List.{list_any}
use Rattle.yt_base.specs.Lines.{is_feed}
use Rattle.yt_lexer.specs.First.{is_space, blank_len}

-- white space and comments in order: none; a byte of white space; a comment with the line feed that ends it; or one that the text's end ends
pub data Blanks : Type 0 where
  none : Blanks
  space : ℕ → Blanks → Blanks
  comment : List ℕ → Blanks → Blanks
  last : List ℕ → Blanks

-- their bytes: a comment begins with `#`
abbrev pub bytes_of : Blanks → List ℕ
bytes_of none = []
bytes_of (space b more) = b ∷ bytes_of more
bytes_of (comment text more) = 35 ∷ text ++ 10 ∷ bytes_of more
bytes_of (last text) = 35 ∷ text

-- no white space and no comment begins here
abbrev pub BeginsWithNone : List ℕ → Type 0
BeginsWithNone [] = Unit {0}
BeginsWithNone (b ∷ rest) = (is_space b ≡ false) × (b ≢ 35)

-- they are white space and comments, a comment has no line feed, and no more of them stand in front of the rest of the text
abbrev pub AreBlanksBefore : Blanks → List ℕ → Type 0
AreBlanksBefore none rest = BeginsWithNone rest
AreBlanksBefore (space b more) rest = (is_space b ≡ true) × AreBlanksBefore more rest
AreBlanksBefore (comment text more) rest = (list_any is_feed text ≡ false) × AreBlanksBefore more rest
AreBlanksBefore (last text) rest = (list_any is_feed text ≡ false) × (rest ≡ [])

-- a text is white space and comments, and a rest in front of which no more of them stand
pub record IsSplit (text : List ℕ) : Type 0 where
  pub blanks : Blanks
  pub rest : List ℕ
  pub parts : text ≡ bytes_of blanks ++ rest
  pub are : AreBlanksBefore blanks rest
  pub count : blank_len text ≡ length (bytes_of blanks)

-- what is passed over in front of a token is white space and comments, and all of these
abbrev pub BlanksAreSpaceAndComments : Type 0
BlanksAreSpaceAndComments = (text : List ℕ) → IsSplit text
