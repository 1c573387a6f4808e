-- One head more in a table.
use Rattle.std.proofs.Common.{◌≡◌, Bool, true, false, List, [], ◌∷◌, ◌++◌, map, if◌then◌else◌, sym, subst, arith}
use Rattle.std.proofs.lemmas.List.{map-append, length-append}
use Rattle.std.proofs.lemmas.List.Elements.{All-push}
use Rattle.yt_graph.specs.declared.operator.OpHead.{OpHead}
use Rattle.yt_graph.specs.Operators.{IsNamedHead}
use Rattle.yt_graph.specs.WellFormed.{AreDifferent}
use Rattle.yt_ops.specs.Heads.{AreTableHeads, HasPlaceFor}
use Rattle.yt_ops.proofs.Names.{one_more_differs}

pub one_head_more : (heads : List OpHead) (head : OpHead) → AreTableHeads heads → HasPlaceFor heads head → IsNamedHead head → AreTableHeads (heads ++ head ∷ [])
one_head_more heads head kept place named = record {
  count = let more = length-append heads (head ∷ []) in let room = place.room in omega arith;
  each = All-push IsNamedHead heads head kept.each named;
  names = subst AreDifferent (sym (map-append (λ (h : OpHead). h.name) heads (head ∷ []))) (one_more_differs (map (λ h. h.name) heads) head.name kept.names place.fresh);
}

-- or none, where there was no memory for it
pub perhaps_one_more : (heads new : List OpHead) (head : OpHead) (added : Bool) → AreTableHeads heads → HasPlaceFor heads head → IsNamedHead head → new ≡ (if added then heads ++ head ∷ [] else heads) → AreTableHeads new
perhaps_one_more heads new head true kept place named is = subst AreTableHeads (sym is) (one_head_more heads head kept place named)
perhaps_one_more heads new head false kept place named is = subst AreTableHeads (sym is) kept
