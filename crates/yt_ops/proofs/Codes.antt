-- The code of an operator's number, by what stands beside the heads.
use Rattle.std.proofs.Common.{◌≡◌, ℕ, ◌-◌, ◌≤◌, ◌<◌, List, length, map, get_or, Option, Some, None, slice_get, refl, sym, ap, ◌∙◌, arith}
use Rattle.std.specs.Option.{option_map, option_map_or}
use Rattle.std.proofs.lemmas.List.{length-map}
use Rattle.std.proofs.lemmas.Option.{slice_get-map, slice_get_read, none-some}
use Rattle.yt_list.proofs.Lemmas.{numbered_place}
use Rattle.yt_graph.specs.declared.operator.OpHead.{OpHead}
use Rattle.yt_graph.specs.Operators.{op_code}

read : (head : Option OpHead) (code : ℕ) → option_map (λ h. h.code) head ≡ Some code → option_map_or (λ h. h.code) head 0 ≡ code
read None code is = absurd (none-some code is)
read (Some h) code is = cc

pub code_beside : {E : Type 0} (code : E → ℕ) (es : List E) (heads : List OpHead) (op : ℕ) (e : E)
    → map code es ≡ map (λ h. h.code) heads → 1 ≤ op → op ≤ length heads → e ≡ get_or es (op - 1) e → op_code heads op ≡ code e
code_beside code es heads op e same first last is =
    let within : op - 1 < length es = omega (arith, length-map es code, length-map heads (λ (h : OpHead). h.code), ap length same) in
    let here = slice_get_read es (length es) (op - 1) e refl within is in
    let at : option_map (λ (h : OpHead). h.code) (slice_get heads (op - 1)) ≡ Some (code e) =
    sym (slice_get-map (λ (h : OpHead). h.code) heads (op - 1)) ∙ ap (λ l. slice_get l (op - 1)) (sym same) ∙ slice_get-map code es (op - 1) ∙ ap (option_map code) here in
    ap (λ o. option_map_or (λ (h : OpHead). h.code) o 0) (numbered_place heads op first) ∙ read (slice_get heads (op - 1)) (code e) at
