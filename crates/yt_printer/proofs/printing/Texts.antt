-- What is put piece by piece is the text of the layout.
use Rattle.std.proofs.Common.{ℕ, ◌≡◌, List, [], ◌∷◌, ◌++◌, map, Bool, true, ℤ, Result, Ok, Err, ap, ◌∙◌, sym, append_assoc}
use Rattle.std.proofs.lemmas.List.Concat.{flat_map-append}
use Rattle.std.specs.Prelude.{OnOk, codes}
use Rattle.std.specs.Fmt.{signed_decimal}
use Rattle.std.specs.List.{flat_map, list_all}
use Rattle.yt_grammar.specs.declared.sign.Keyword.TheVariants as keys
use Rattle.yt_grammar.specs.declared.sign.Mark.TheVariants.{LeftBrace, RightBrace}
use Rattle.yt_grammar.specs.Lexemes.{word, key, mark, digits}
use Rattle.yt_grammar.proofs.Lemmas.{both}
use Rattle.yt_grammar.specs.CanonicalText.{Piece, say, space, feed, indent, indent_text, piece_text, text_of}

-- what follows where a call succeeds
pub ok_when : {A E : Type 0} (r : Result A E) (P Q : Type 0) → (P → Q) → OnOk r P → OnOk r Q
ok_when (Ok x) P Q f h = f h
ok_when (Err e) P Q f h = h

pub text_of-append : (a b : List Piece) → text_of (a ++ b) ≡ text_of a ++ text_of b
text_of-append a b = flat_map-append piece_text a b

-- a statement with two blocks
pub else_text : (n : ℕ) (e f s : List Piece) (o a b c d g h : List ℕ) → a ≡ o ++ indent_text n → b ≡ a ++ codes "if " ++ text_of e ++ codes " " → c ≡ b ++ text_of f → d ≡ c ++ codes " else " → g ≡ d ++ text_of s → h ≡ g ++ codes "\n" → h ≡ o ++ text_of (indent n ∷ say (key keys.If) ∷ space ∷ e ++ space ∷ f ++ space ∷ say (key keys.Else) ∷ space ∷ s ++ feed ∷ [])
else_text n e f s o a b c d g h p q r t u v = rw (v, u, t, r, q, p) (simp (text_of-append, append_assoc))

-- a `repeat`
pub repeat_text : (n : ℕ) (e f : List Piece) (most : ℤ) (o a b c d : List ℕ) → a ≡ o ++ indent_text n → b ≡ a ++ codes "repeat " ++ text_of e ++ codes " max " ++ signed_decimal most ++ codes " " → c ≡ b ++ text_of f → d ≡ c ++ codes "\n" → d ≡ o ++ text_of (indent n ∷ say (key keys.Repeat) ∷ space ∷ e ++ space ∷ say (key keys.Max) ∷ space ∷ say (digits most) ∷ space ∷ f ++ feed ∷ [])
repeat_text n e f most o a b c d p q r t = rw (t, r, q, p) (simp (text_of-append, append_assoc))

-- a port
pub port_text : (head outs f : List Piece) (o a b c d e : List ℕ) → a ≡ o ++ text_of head → b ≡ a ++ text_of outs → c ≡ b ++ codes " " → d ≡ c ++ text_of f → e ≡ d ++ codes "\n" → e ≡ o ++ text_of (head ++ outs ++ space ∷ f ++ feed ∷ [])
port_text head outs f o a b c d e p q r t u = rw (u, t, r, q, p) (simp (text_of-append, append_assoc))

-- what stands behind a process's name
body_text : (inside vars ports : List Piece) → text_of (inside ++ space ∷ (say (mark LeftBrace) ∷ feed ∷ (vars ++ ports) ++ indent 0 ∷ say (mark RightBrace) ∷ []) ++ feed ∷ []) ≡ text_of inside ++ (codes " {\n" ++ (text_of vars ++ (text_of ports ++ codes "}\n")))
body_text inside vars ports = simp (text_of-append, append_assoc)

six : (o a b c d e f g : List ℕ) → o ++ a ++ b ++ c ++ d ++ e ++ f ++ g ≡ o ++ (a ++ (b ++ (c ++ (d ++ (e ++ (f ++ g))))))
six o a b c d e f g = simp append_assoc

-- a process
pub process_text : (w : List ℕ) (inside vars ports : List Piece) (o a b c d e f g : List ℕ) → a ≡ o ++ codes "process " → b ≡ a ++ w → c ≡ b ++ text_of inside → d ≡ c ++ codes " {\n" → e ≡ d ++ text_of vars → f ≡ e ++ text_of ports → g ≡ f ++ codes "}\n" → g ≡ o ++ text_of (say (key keys.Process) ∷ space ∷ say (word w) ∷ inside ++ space ∷ (say (mark LeftBrace) ∷ feed ∷ (vars ++ ports) ++ indent 0 ∷ say (mark RightBrace) ∷ []) ++ feed ∷ [])
process_text w inside vars ports o a b c d e f g p q r t u v x =
    rw (x, v, u, t, r, q, p) (six o (codes "process ") w (text_of inside) (codes " {\n") (text_of vars) (text_of ports) (codes "}\n")
    ∙ ap (λ (z : List ℕ). o ++ (codes "process " ++ (w ++ z))) (sym (body_text inside vars ports)))

-- one more item is put, of what is left
pub next_text : {X Y : Type 0} (tree : X → Y) (layout : Y → List Piece) (xs ys : List X) (x : X) (o p q : List ℕ) → xs ≡ x ∷ ys → o ++ text_of (flat_map layout (map tree xs)) ≡ q → p ≡ o ++ text_of (layout (tree x)) → p ++ text_of (flat_map layout (map tree ys)) ≡ q
next_text tree layout xs ys x o p q cut h k =
    let all : o ++ text_of (layout (tree x) ++ flat_map layout (map tree ys)) ≡ q = rw cut at h in
    rw k (append_assoc o (text_of (layout (tree x))) (text_of (flat_map layout (map tree ys)))
    ∙ ap (λ (t : List ℕ). o ++ t) (sym (text_of-append (layout (tree x)) (flat_map layout (map tree ys)))) ∙ all)

-- the first of what is left passes, and so do the others
pub next_passes : {X Y : Type 0} (tree : X → Y) (test : Y → Bool) (xs ys : List X) (x : X) → xs ≡ x ∷ ys → list_all test (map tree xs) ≡ true → (test (tree x) ≡ true) × (list_all test (map tree ys) ≡ true)
next_passes tree test xs ys x cut h = both (test (tree x)) (list_all test (map tree ys)) (rw cut at h)
