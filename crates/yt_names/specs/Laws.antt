-- What every graph without a fault keeps to.
use Rattle.std.specs.Prelude.{◌≡◌, List, []}
use Rattle.yt_graph.specs.declared.operator.OpHead.{OpHead}
use Rattle.yt_graph.specs.AstPicture.{ItemTree}
use Rattle.yt_graph.specs.AstWellFormed.{IsWritable}
pub use Rattle.yt_graph.specs.Operators.{IsFineHead, AreFineHeads}
use Rattle.yt_graph.specs.WellFormed.{IsWellFormed}
use Rattle.yt_name_faults.specs.Faults.{name_faults}
use Rattle.yt_names.specs.Resolved.{resolved}

-- the graph of a tree without a fault is well formed, where the tree is one that a text can have
abbrev pub ResolvedIsWellFormed : Type 0
ResolvedIsWellFormed = (items : List ItemTree) (ops : List OpHead) → IsWritable items → AreFineHeads ops → name_faults items ops ≡ [] → IsWellFormed (resolved items ops)
