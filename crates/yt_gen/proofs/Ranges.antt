-- What a loop over numbers has made so far.
use Rattle.std.proofs.Common.{ℕ, ◌≡◌, ◌+◌, List, [], ◌∷◌, ◌++◌, map, refl, sym, ap, ◌∙◌, arith, append-nil}
use Rattle.std.specs.List.{flat_map, range_with_len}
use Rattle.std.proofs.lemmas.List.Concat.{flat_map-append}
use Rattle.std.proofs.lemmas.List.FromFn.{map-range_with_len_more}
use Rattle.yt_gen.specs.Pipelines.{pipelines}

-- a list is the list of its elements
map_same : (xs : List ℕ) → xs ≡ map (λ k. k) xs
map_same [] = refl
map_same (x ∷ xs) = ap (λ ys. x ∷ ys) (map_same xs)

-- one more number at the end
pub range_more : (a n : ℕ) → range_with_len a (n + 1) ≡ range_with_len a n ++ (a + n) ∷ []
range_more a n = map_same (range_with_len a (n + 1)) ∙ map-range_with_len_more (λ k. k) a n (a + n) refl ∙ ap (λ xs. xs ++ (a + n) ∷ []) (sym (map_same (range_with_len a n)))

-- one more pipeline
pub pipelines_more : {X : Type 0} (f : ℕ → List X) (n : ℕ) → flat_map f (pipelines (n + 1)) ≡ flat_map f (pipelines n) ++ f (n + 1)
pipelines_more f n =
    let next : 1 + n ≡ n + 1 = omega arith in
    ap (flat_map f) (range_more 1 n) ∙ flat_map-append f (pipelines n) ((1 + n) ∷ []) ∙ rw (append-nil, next) refl
