-- The parts of a text, and of texts that are written one behind another.
use Rattle.std.proofs.Common.{ℕ, ℤ, ◌≡◌, ◌<◌, ◌^◌, List, [], ◌∷◌, ◌++◌, get_or, Bool, true, refl, arith}
use Rattle.std.specs.List.{list_all}
use Rattle.std.specs.Fmt.{decimal, signed_decimal}
use Rattle.std.specs.Int.Signed.{mag}
use Rattle.std.proofs.lemmas.Grind.{common_steps}
use Rattle.std.proofs.lemmas.List.Sums.{AllPass-from_list_all, list_all-from_AllPass}
use Rattle.yt_base.proofs.Lemmas.{decimal_passes, signed_decimal_passes}
use Rattle.yt_run.specs.Readable.{is_not, stays_in_word}
use Rattle.yt_run.specs.RunText.{parts_between}

-- a piece and the byte behind it
pub parts_between-piece : (c : ℕ) (piece rest : List ℕ) → list_all (is_not c) piece ≡ true → parts_between c (piece ++ c ∷ rest) ≡ piece ∷ parts_between c rest
parts_between-piece c [] rest all = grind (arith, common_steps)
parts_between-piece c (b ∷ bs) rest all =
    let more = parts_between-piece c bs rest in
    grind (arith, common_steps)

-- a piece at the end of a text
pub parts_between-last : (c : ℕ) (piece : List ℕ) → list_all (is_not c) piece ≡ true → parts_between c piece ≡ piece ∷ []
parts_between-last c [] all = refl
parts_between-last c (b ∷ bs) all =
    let more = parts_between-last c bs in
    grind (arith, common_steps)

-- what passes a test passes a weaker one
pub list_all-weaker : (p q : ℕ → Bool) → ((b : ℕ) → p b ≡ true → q b ≡ true) → (bs : List ℕ) → list_all p bs ≡ true → list_all q bs ≡ true
list_all-weaker p q each bs all = list_all-from_AllPass q bs (λ k d lt. each (get_or bs k d) (AllPass-from_list_all p bs all k d lt))

-- a word is of bytes that are no space
pub without_space : (word : List ℕ) → list_all stays_in_word word ≡ true → list_all (is_not 32) word ≡ true
without_space = list_all-weaker stays_in_word (is_not 32) (λ b stays. grind (arith, common_steps))

-- and no line feed
pub without_feed : (word : List ℕ) → list_all stays_in_word word ≡ true → list_all (is_not 10) word ≡ true
without_feed = list_all-weaker stays_in_word (is_not 10) (λ b stays. grind (arith, common_steps))

-- numbers are words
pub decimal-stays_in_word : (n : ℕ) → n < 2 ^ 63 → list_all stays_in_word (decimal n) ≡ true
decimal-stays_in_word n fits = decimal_passes stays_in_word (λ b low high. grind (arith, common_steps)) n (omega arith)

pub signed_decimal-stays_in_word : (z : ℤ) → mag z < 2 ^ 63 → list_all stays_in_word (signed_decimal z) ≡ true
signed_decimal-stays_in_word z fits = signed_decimal_passes stays_in_word refl (λ b low high. grind (arith, common_steps)) z fits
