-- The number of a task by its index in a table of the tasks' names.
use Rattle.std.proofs.Common.{◌≡◌, ℕ, ◌+◌, List, Option, Some, None, map, bytes_eq, sym, ap, ◌∙◌, arith}
use Rattle.std.specs.Option.{option_map}
use Rattle.yt_table.specs.Tables.{first_of}
use Rattle.yt_table.proofs.Lemmas.{numbered_from, own_names}

number_of : (names labels : List (List ℕ)) (name : List ℕ) (index : Option ℕ) → names ≡ labels → index ≡ first_of name 0 (map (λ x. x) names) → option_map (λ n. 1 + n) index ≡ first_of name 1 labels
number_of names labels name index same is =
    ap (option_map (λ n. 1 + n)) (is ∙ ap (first_of name 0) (own_names names ∙ same)) ∙ sym (numbered_from (bytes_eq name) 1 labels)

pub number_found : (names labels : List (List ℕ)) (name : List ℕ) (index : ℕ) → names ≡ labels → Some index ≡ first_of name 0 (map (λ x. x) names) → Some (index + 1) ≡ first_of name 1 labels
number_found names labels name index same is =
    let next : index + 1 ≡ 1 + index = omega arith in
    ap (λ (n : ℕ). Some n) next ∙ number_of names labels name (Some index) same is

pub none_found : (names labels : List (List ℕ)) (name : List ℕ) → names ≡ labels → None ≡ first_of name 0 (map (λ x. x) names) → None ≡ first_of name 1 labels
none_found names labels name same is = number_of names labels name None same is
