-- The code of a whole handler, from what its emitter leaves.
use Rattle.std.proofs.Common.{◌≡◌, List, [], ◌∷◌, ◌++◌, ap, ◌∙◌}
use Rattle.yt_graph.specs.declared.stmt.Stmt.{Stmt}
use Rattle.yt_graph.specs.Picture.{block_tree}
use Rattle.yt_code.specs.declared.instr.Instr.{Instr}
use Rattle.yt_code.specs.declared.instr.Instr.TheVariants.{End}
use Rattle.yt_cost.specs.Code.{block_code, handler_code}

pub handler_code_is : (all most none : List Instr) (b body : List Stmt) → all ≡ most ++ End ∷ [] → most ≡ none ++ block_code (block_tree b) 0 → none ≡ [] → b ≡ body → all ≡ handler_code (block_tree body)
handler_code_is all most none b body end block begin same =
    end
    ∙ ap (λ l. l ++ End ∷ []) (block ∙ ap (λ l. l ++ block_code (block_tree b) 0) begin ∙ ap (λ x. block_code (block_tree x) 0) same)
