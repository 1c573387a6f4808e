-- The code of an operator's head.
use Rattle.std.proofs.Common.{◌≡◌, ℕ, ◌-◌, ◌≤◌, List, Some, ap, ◌∙◌}
use Rattle.std.specs.Prelude.{slice_get}
use Rattle.std.specs.Option.{option_map_or}
use Rattle.yt_list.proofs.Lemmas.{numbered_place}
use Rattle.yt_graph.specs.declared.operator.OpHead.{OpHead}
use Rattle.yt_graph.specs.Operators.{op_code}

-- the head of a number stands at the place before it
pub op_code_at : (heads : List OpHead) (op : ℕ) (head : OpHead) → 1 ≤ op → slice_get heads (op - 1) ≡ Some head → op_code heads op ≡ head.code
op_code_at heads op head some is = ap (λ o. option_map_or (λ h. h.code) o 0) (numbered_place heads op some ∙ is)
