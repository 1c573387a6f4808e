-- The lines of tasks, one after the other.
use Rattle.std.proofs.Common.{◌≡◌, ℕ, ◌+◌, ◌-◌, ◌≤◌, List, [], ◌++◌, length, drop, slice_get, Some, sym, ap, subst, ◌∙◌, append_assoc, append-nil, arith}
use Rattle.std.proofs.lemmas.List.{drop_all}
use Rattle.yt_list.proofs.Lemmas.{drop_at, numbered_next}
use Rattle.yt_list.specs.Numbered.{numbered, numbered_or}
use Rattle.yt_log.specs.Patterns.{Arrivals}
use Rattle.yt_fitting.specs.TaskText.{arrivals_text, arrive_lines}

-- what has a number has the place before it
pub placed : {X : Type 0} (xs : List X) (n : ℕ) (x : X) → numbered xs (n + 1) ≡ Some x → slice_get xs n ≡ Some x
placed xs n x at = sym (numbered_next xs n) ∙ at

-- four parts of a text, one after the other
pub four_parts : (t u v w x a b c d : List ℕ) → t ≡ [] → u ≡ t ++ a → v ≡ u ++ b → w ≡ v ++ c → x ≡ w ++ d → x ≡ a ++ (b ++ (c ++ d))
four_parts t u v w x a b c d e f g h i =
    i ∙ ap (λ y. y ++ d) (h ∙ ap (λ y. y ++ c) (g ∙ ap (λ y. y ++ b) (f ∙ ap (λ y. y ++ a) e)))
    ∙ append_assoc (a ++ b) c d ∙ append_assoc a b (c ++ d)

-- the arrivals of one more task
pub arrive_more : (labels : List (List ℕ)) (n : ℕ) (all : List Arrivals) (a : Arrivals) (label text more : List ℕ) → slice_get all n ≡ Some a → label ≡ numbered_or labels (n + 1) [] →
    more ≡ text ++ arrivals_text label a → more ++ arrive_lines labels (n + 1 + 1) (drop (n + 1) all) ≡ text ++ arrive_lines labels (n + 1) (drop n all)
arrive_more labels n all a label text more at named put =
    let rest = arrive_lines labels (n + 1 + 1) (drop (n + 1) all) in
    ap (λ x. x ++ rest) put ∙ append_assoc text (arrivals_text label a) rest
    ∙ ap (λ x. text ++ (arrivals_text x a ++ rest)) named
    ∙ ap (λ xs. text ++ arrive_lines labels (n + 1) xs) (sym (drop_at all n a at))

-- none is left behind the last
pub arrive_last : (labels : List (List ℕ)) (n : ℕ) (all : List Arrivals) (text : List ℕ) → length all ≤ n → text ++ arrive_lines labels (n + 1) (drop n all) ≡ text
arrive_last labels n all text out = ap (λ xs. text ++ arrive_lines labels (n + 1) xs) (drop_all n all out) ∙ append-nil text
