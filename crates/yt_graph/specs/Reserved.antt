-- Words that are reserved.
use Rattle.std.specs.Prelude.{ℕ, Bool, List, [], ◌∷◌, bytes_eq, codes}
use Rattle.std.specs.List.{list_any}

-- words that name nothing
abbrev pub reserved_words : List (List ℕ)
reserved_words =
    codes "input" ∷ codes "output" ∷ codes "resource" ∷ codes "process" ∷ codes "in" ∷ codes "var" ∷ codes "port" ∷ codes "from" ∷ codes "out" ∷
    codes "every" ∷ codes "period" ∷ codes "let" ∷ codes "send" ∷ codes "if" ∷ codes "else" ∷ codes "repeat" ∷ codes "max" ∷ codes "and" ∷ codes "or" ∷ codes "not" ∷
    codes "burst" ∷ codes "within" ∷ codes "native" ∷ codes "cost" ∷ codes "node" ∷ codes "link" ∷ codes "delay" ∷ []

abbrev pub is_reserved : List ℕ → Bool
is_reserved word = list_any (λ r. bytes_eq r word) reserved_words
