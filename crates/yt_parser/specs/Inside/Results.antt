-- What the parser's functions answer, against what reading comes to.
use Rattle.std.specs.Prelude.{◌≡◌, List, Result, Ok, Err}
use Rattle.yt_parser.specs.declared.cursor.Stop.{Stop}
use Rattle.yt_parser.specs.declared.cursor.Stop.TheVariants.{Syntax, Memory}
use Rattle.yt_grammar.specs.Lexemes.{Tok}
use Rattle.yt_grammar.specs.Inside.Reading.{Reading, got, stuck}

-- reading is stuck in front of what is left, or memory ran out
abbrev pub IsStop : {X : Type 0} → Reading X → Stop → List Tok → Type 0
IsStop r Syntax rest = r ≡ stuck rest
IsStop r Memory rest = Unit {0}

-- the answer is what was read, with the tokens behind it left
abbrev pub IsReading : {X Y : Type 0} → (Y → X) → Reading X → Result Y Stop → List Tok → Type 0
IsReading picture r (Ok y) rest = r ≡ got (picture y) rest
IsReading picture r (Err e) rest = IsStop r e rest
