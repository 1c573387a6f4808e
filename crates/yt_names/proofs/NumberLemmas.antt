-- The number of a name's first item, by its place.
use Rattle.std.proofs.Common.{◌≡◌, ℕ, ◌+◌, List, Some, None, bytes_eq, sym, ap, ◌∙◌, arith}
use Rattle.std.specs.Option.{unwrap_or, option_map}
use Rattle.yt_table.specs.Tables.{first_of}
use Rattle.yt_table.proofs.Lemmas.{numbered_from}
use Rattle.yt_names.specs.Resolved.{place_of, number_of, number_among}

-- the number from 1 of what is found at a place
pub number_found : (word : List ℕ) (names : List (List ℕ)) (place : ℕ) → Some place ≡ first_of word 0 names → number_of place ≡ number_among word names
number_found word names place e =
    let next : place + 1 ≡ 1 + place = omega arith in
    ap place_of next ∙ ap (λ o. place_of (unwrap_or (option_map (λ n. 1 + n) o) 0)) e ∙ ap (λ o. place_of (unwrap_or o 0)) (sym (numbered_from (bytes_eq word) 1 names))

-- 0 where none is
pub number_missing : (word : List ℕ) (names : List (List ℕ)) → None ≡ first_of word 0 names → 0 ≡ number_among word names
number_missing word names e =
    ap (λ o. place_of (unwrap_or (option_map (λ n. 1 + n) o) 0)) e ∙ ap (λ o. place_of (unwrap_or o 0)) (sym (numbered_from (bytes_eq word) 1 names))
