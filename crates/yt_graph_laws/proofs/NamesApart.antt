-- Names of a graph that can be told apart: a label is cut at its dot, and no name has a dot or white space.
use Rattle.std.proofs.Common.{◌≡◌, ◌≢◌, ℕ, zero, suc, ◌<◌, List, [], ◌∷◌, ◌++◌, map, length, get_or, drop, bytes_eq, not, nat_le, eqb, true, false, Bool, refl, sym, ap, ◌∙◌, arith, ⊎_elim}
use Rattle.std.specs.Prelude.{◌&&◌, IsTrue}
use Rattle.std.specs.List.{AllPairs, list_all, list_any}
use Rattle.std.proofs.lemmas.Bool.{and_parts, and_from, or_parts, or_from, cases_Bool, eqb-true, both_ways}
use Rattle.std.proofs.lemmas.List.{get_or-map, length-map}
use Rattle.std.proofs.lemmas.List.Elements.{All-map, All-weaker}
use Rattle.std.proofs.lemmas.Slice.Eq.{bytes_eq-Decides}
use Rattle.yt_graph.specs.declared.graph.Output.{Output}
use Rattle.yt_graph.specs.Labels.{label_of, labels_of, no_port}
use Rattle.yt_graph.specs.Names.{begins_as_word, is_name, is_word_byte}
use Rattle.yt_graph.specs.Picture.{PortTree, GraphTree}
use Rattle.yt_graph.specs.Reserved.{is_reserved}
use Rattle.yt_graph.specs.WellFormed.{AreDifferent, AreDifferentWithin, IsFinePort, IsFineOutput, IsWellFormed, outer_names}
use Rattle.yt_lexer.specs.First.{is_space}
use Rattle.yt_graph_laws.specs.NamesApart.{NamesAreApart}

-- a name's bytes are those of words
word_bytes : (word : List ℕ) → IsTrue (is_name word) → list_all is_word_byte word ≡ true
word_bytes word h =
    let parts = and_parts (begins_as_word word) (list_all is_word_byte word && (nat_le (length word) 32 && not (is_reserved word))) h in
    (and_parts (list_all is_word_byte word) (nat_le (length word) 32 && not (is_reserved word)) parts.1).0

-- a byte of a word is none that is no such byte
other_byte : (c b : ℕ) → is_word_byte c ≡ false → is_word_byte b ≡ true → eqb b c ≡ false
other_byte c b other h =
    ⊎_elim
    (λ (e : eqb b c ≡ true). absurd (both_ways (is_word_byte c) other (ap is_word_byte (sym (eqb-true b c e)) ∙ h)))
    (λ (e : eqb b c ≡ false). e)
    (cases_Bool (eqb b c))

no_space : (b : ℕ) → is_word_byte b ≡ true → is_space b ≡ false
no_space b h =
    or_from (eqb b 32) _ (other_byte 32 b refl h)
    (or_from (eqb b 9) _ (other_byte 9 b refl h)
    (or_from (eqb b 13) _ (other_byte 13 b refl h) (other_byte 10 b refl h)))

no_spaces : (word : List ℕ) → list_all is_word_byte word ≡ true → list_any is_space word ≡ false
no_spaces [] h = refl
no_spaces (b ∷ bs) h = let parts = and_parts (is_word_byte b) (list_all is_word_byte bs) h in or_from (is_space b) (list_any is_space bs) (no_space b parts.0) (no_spaces bs parts.1)

no_spaces_append : (xs ys : List ℕ) → list_any is_space xs ≡ false → list_any is_space ys ≡ false → list_any is_space (xs ++ ys) ≡ false
no_spaces_append [] ys h k = k
no_spaces_append (b ∷ bs) ys h k = let parts = or_parts (is_space b) (list_any is_space bs) h in or_from (is_space b) (list_any is_space (bs ++ ys)) parts.0 (no_spaces_append bs ys parts.1 k)

first_same : (a b : ℕ) (x y : List ℕ) → a ∷ x ≡ b ∷ y → a ≡ b
first_same a b x y e = ap (λ (l : List ℕ). get_or l 0 0) e

rest_same : (a b : ℕ) (x y : List ℕ) → a ∷ x ≡ b ∷ y → x ≡ y
rest_same a b x y e = ap (λ (l : List ℕ). drop 1 l) e

-- a dot isn't a byte of a word
no_dot : (b : ℕ) (w : List ℕ) → list_all is_word_byte (b ∷ w) ≡ true → b ≡ 46 → ⊥
no_dot b w h e = both_ways (is_word_byte b) (ap is_word_byte e) (and_parts (is_word_byte b) (list_all is_word_byte w) h).0

-- words before a first dot, and what stands behind it, are the same where the whole is
cut_at_dot : (a b x y : List ℕ) → list_all is_word_byte a ≡ true → list_all is_word_byte b ≡ true → a ++ 46 ∷ x ≡ b ++ 46 ∷ y → (a ≡ b) × (x ≡ y)
cut_at_dot [] [] x y p q e = (refl, rest_same 46 46 x y e)
cut_at_dot [] (c ∷ b) x y p q e = absurd (no_dot c b q (sym (first_same 46 c x (b ++ 46 ∷ y) e)))
cut_at_dot (c ∷ a) [] x y p q e = absurd (no_dot c a p (first_same c 46 (a ++ 46 ∷ x) y e))
cut_at_dot (c ∷ a) (d ∷ b) x y p q e =
    let more = cut_at_dot a b x y (and_parts (is_word_byte c) (list_all is_word_byte a) p).1 (and_parts (is_word_byte d) (list_all is_word_byte b) q).1 (rest_same c d (a ++ 46 ∷ x) (b ++ 46 ∷ y) e) in
    (ap (λ w. c ∷ w) more.0 ∙ ap (λ (n : ℕ). n ∷ b) (first_same c d (a ++ 46 ∷ x) (b ++ 46 ∷ y) e), more.1)

-- where no item passes a test, the one at a place doesn't
none_at : {X : Type 0} (test : X → Bool) (xs : List X) (k : ℕ) (d : X) → list_any test xs ≡ false → k < length xs → test (get_or xs k d) ≡ false
none_at test [] k d h lt = absurd (omega arith)
none_at test (x ∷ xs) zero d h lt = (or_parts (test x) (list_any test xs) h).0
none_at test (x ∷ xs) (suc k) d h lt = none_at test xs k d (or_parts (test x) (list_any test xs) h).1 (omega arith)

same_text : (a b : List ℕ) → a ≡ b → bytes_eq a b ≡ true
same_text a b e = (bytes_eq-Decides a b).1 e

names_differ : (names : List (List ℕ)) → AreDifferent names → AllPairs (λ a b. a ≢ b) names
names_differ [] h i j d lt within same = absurd (omega arith)
names_differ (name ∷ names) h i zero d lt within same = absurd (omega arith)
names_differ (name ∷ names) h zero (suc j) d lt within same =
    both_ways (bytes_eq name (get_or names j d)) (none_at (bytes_eq name) names j d h.0 (omega arith)) (same_text name (get_or names j d) same)
names_differ (name ∷ names) h (suc i) (suc j) d lt within same = names_differ names h.1 i j d (omega arith) (omega arith) same

-- names of the same process differ, at two places
pairs_differ : (ps : List (List ℕ × List ℕ)) → AreDifferentWithin ps → (i j : ℕ) (d : List ℕ × List ℕ) → i < j → j < length ps →
    (get_or ps i d).0 ≡ (get_or ps j d).0 → (get_or ps i d).1 ≡ (get_or ps j d).1 → ⊥
pairs_differ [] h i j d lt within same name = absurd (omega arith)
pairs_differ (p ∷ ps) h i zero d lt within same name = absurd (omega arith)
pairs_differ (p ∷ ps) h zero (suc j) d lt within same name =
    let q = get_or ps j d in
    let test : (List ℕ × List ℕ) → Bool = λ q. bytes_eq p.0 q.0 && bytes_eq p.1 q.1 in
    both_ways (bytes_eq p.0 q.0 && bytes_eq p.1 q.1) (none_at test ps j d h.0 (omega arith)) (and_from (bytes_eq p.0 q.0) (bytes_eq p.1 q.1) (same_text p.0 q.0 same) (same_text p.1 q.1 name))
pairs_differ (p ∷ ps) h (suc i) (suc j) d lt within same name = pairs_differ ps h.1 i j d (omega arith) (omega arith) same name

different_left : (xs ys : List (List ℕ)) → AreDifferent (xs ++ ys) → AreDifferent xs
different_left [] ys h = tt
different_left (x ∷ xs) ys h = (left xs h.0, different_left xs ys h.1)
  where
    left : (zs : List (List ℕ)) → list_any (bytes_eq x) (zs ++ ys) ≡ false → list_any (bytes_eq x) zs ≡ false
    left [] k = refl
    left (z ∷ zs) k = let parts = or_parts (bytes_eq x z) (list_any (bytes_eq x) (zs ++ ys)) k in or_from (bytes_eq x z) (list_any (bytes_eq x) zs) parts.0 (left zs parts.1)

different_right : (xs ys : List (List ℕ)) → AreDifferent (xs ++ ys) → AreDifferent ys
different_right [] ys h = h
different_right (x ∷ xs) ys h = different_right xs ys h.1

pair_of : PortTree → List ℕ × List ℕ
pair_of p = (p.process, p.name)

labels_differ : (g : GraphTree) → IsWellFormed g → AllPairs (λ a b. a ≢ b) (labels_of g)
unfolding pair_of
labels_differ g fine i j d lt within same =
    let count = length-map g.ports label_of in
    let count_pairs = length-map g.ports pair_of in
    let p = get_or g.ports i no_port in
    let q = get_or g.ports j no_port in
    let a : i < length g.ports = omega arith in
    let b : j < length g.ports = omega arith in
    let at_p : get_or (labels_of g) i d ≡ label_of p = get_or-map label_of g.ports i no_port d a in
    let at_q : get_or (labels_of g) j d ≡ label_of q = get_or-map label_of g.ports j no_port d b in
    let parts = cut_at_dot p.process q.process p.name q.name (word_bytes p.process (fine.each_port i no_port a).0) (word_bytes q.process (fine.each_port j no_port b).0) (sym at_p ∙ same ∙ at_q) in
    let none : List ℕ × List ℕ = ([], []) in
    let pair_p : get_or (map pair_of g.ports) i none ≡ (p.process, p.name) = get_or-map pair_of g.ports i no_port none a in
    let pair_q : get_or (map pair_of g.ports) j none ≡ (q.process, q.name) = get_or-map pair_of g.ports j no_port none b in
    pairs_differ (map pair_of g.ports) fine.port_names i j none lt (omega arith)
    (ap (λ (r : List ℕ × List ℕ). r.0) pair_p ∙ parts.0 ∙ sym (ap (λ (r : List ℕ × List ℕ). r.0) pair_q))
    (ap (λ (r : List ℕ × List ℕ). r.1) pair_p ∙ parts.1 ∙ sym (ap (λ (r : List ℕ × List ℕ). r.1) pair_q))

label_whole : (g : GraphTree) (p : PortTree) → IsFinePort g p → list_any is_space (label_of p) ≡ false
label_whole g p fine = no_spaces_append p.process (46 ∷ p.name) (no_spaces p.process (word_bytes p.process fine.0)) (no_spaces p.name (word_bytes p.name fine.1))

output_whole : (g : GraphTree) (o : Output) → IsFineOutput g o → list_any is_space o.name ≡ false
output_whole g o fine = no_spaces o.name (word_bytes o.name fine.0)

pub names_are_apart : NamesAreApart
names_are_apart g fine = record {
  ports = record {
    different = labels_differ g fine;
    whole = All-map (λ name. list_any is_space name ≡ false) label_of g.ports (All-weaker (IsFinePort g) (λ p. list_any is_space (label_of p) ≡ false) (label_whole g) g.ports fine.each_port);
  };
  outputs = record {
    different = names_differ outputs (different_right (map (λ i. i.name) g.inputs) outputs (different_left (outer_names g) g.groups fine.names));
    whole = All-map (λ name. list_any is_space name ≡ false) (λ (o : Output). o.name) g.outputs (All-weaker (IsFineOutput g) (λ (o : Output). list_any is_space o.name ≡ false) (output_whole g) g.outputs fine.each_output);
  };
}
  where
    outputs : List (List ℕ)
    outputs = map (λ (o : Output). o.name) g.outputs
