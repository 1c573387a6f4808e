-- A place counts lines and bytes, byte by byte.
use Rattle.std.proofs.Common.{◌≡◌, ℕ, ◌+◌, List, [], ◌∷◌, ◌++◌, length, take, count_by, cond, Bool, true, false, refl, sym, ap, ◌∙◌, subst, inl, inr, arith, append_assoc, append-nil, length-append, eqb-true}
use Rattle.std.specs.List.{list_any}
use Rattle.std.proofs.lemmas.Bool.{or_from, or_parts}
use Rattle.std.proofs.lemmas.List.Sums.{sum_by_push}
use Rattle.yt_base.specs.Lines.{is_feed}
use Rattle.yt_graph.specs.declared.place.Place.{Place}
use Rattle.yt_lexer.specs.Places.{next_place, place_after}
use Rattle.yt_graph_laws.specs.Places.{IsBehind, PlacesCountLines}

any_push : (xs : List ℕ) (b : ℕ) → list_any is_feed xs ≡ false → is_feed b ≡ false → list_any is_feed (xs ++ b ∷ []) ≡ false
any_push [] b h k = or_from (is_feed b) false k refl
any_push (x ∷ xs) b h k = let parts = or_parts (is_feed x) (list_any is_feed xs) h in or_from (is_feed x) (list_any is_feed (xs ++ b ∷ [])) parts.0 (any_push xs b parts.1 k)

count_push : (xs : List ℕ) (b : ℕ) → count_by is_feed (xs ++ b ∷ []) ≡ count_by is_feed xs + cond (is_feed b) 1 0
count_push xs b = sum_by_push (λ (x : ℕ). cond {A = ℕ} (is_feed x) 1 0) xs b

-- one more byte
behind_more : (bytes : List ℕ) (p : Place) (b : ℕ) → IsBehind bytes p → IsBehind (bytes ++ b ∷ []) (next_place p b)
behind_more bytes p b h = by (is_feed b) refl
  where
    parts : bytes ++ b ∷ [] ≡ h.lines ++ (h.since ++ b ∷ [])
    parts = ap (λ l. l ++ b ∷ []) h.parts ∙ append_assoc h.lines h.since (b ∷ [])

    next : Bool → Place
    next t = cond t (record { line = p.line + 1; col = 1 }) (record { line = p.line; col = p.col + 1 })

    by : (t : Bool) → is_feed b ≡ t → IsBehind (bytes ++ b ∷ []) (next t)
    by true e =
        let count : count_by is_feed (bytes ++ b ∷ []) ≡ count_by is_feed bytes + 1 = count_push bytes b ∙ ap (λ t. count_by is_feed bytes + cond t 1 0) e in
        let feed : b ≡ 10 = eqb-true b 10 e in
        record {
          line = let l = h.line in omega arith;
          lines = bytes ++ b ∷ [];
          since = [];
          parts = sym (append-nil (bytes ++ b ∷ []));
          ended = inr (bytes, ap (λ n. bytes ++ n ∷ []) feed);
          one_line = refl;
          column = refl;
        }
    by false e =
        let count : count_by is_feed (bytes ++ b ∷ []) ≡ count_by is_feed bytes + 0 = count_push bytes b ∙ ap (λ t. count_by is_feed bytes + cond t 1 0) e in
        let len : length (h.since ++ b ∷ []) ≡ length h.since + 1 = length-append h.since (b ∷ []) in
        record {
          line = let l = h.line in omega arith;
          lines = h.lines;
          since = h.since ++ b ∷ [];
          parts = parts;
          ended = h.ended;
          one_line = any_push h.since b h.one_line e;
          column = let c = h.column in omega arith;
        }

behind_all : (bytes more : List ℕ) (p : Place) → IsBehind bytes p → IsBehind (bytes ++ more) (place_after p more)
behind_all bytes [] p h = subst (λ l. IsBehind l p) (sym (append-nil bytes)) h
behind_all bytes (b ∷ more) p h =
    subst (λ l. IsBehind l (place_after (next_place p b) more)) (append_assoc bytes (b ∷ []) more) (behind_all (bytes ++ b ∷ []) more (next_place p b) (behind_more bytes p b h))

pub places_count_lines : PlacesCountLines
places_count_lines text at =
    behind_all [] (take at text) (record { line = 1; col = 1 }) (record { line = refl; lines = []; since = []; parts = refl; ended = inl refl; one_line = refl; column = refl })
