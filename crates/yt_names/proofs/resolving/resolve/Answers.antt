use Rattle.std.proofs.Common.{◌≡◌, List, [], None, ap, sym, ◌∙◌, subst}
use Rattle.yt_graph.specs.declared.ast.Item.{Item}
use Rattle.yt_graph.specs.declared.operator.OpHead.{OpHead}
use Rattle.yt_graph.specs.AstPicture.{ast_tree}
use Rattle.yt_graph.specs.WellFormed.{IsWellFormed}
use Rattle.yt_name_faults.specs.First.{first_fault}
use Rattle.yt_name_faults.specs.Faults.{name_faults}
use Rattle.yt_name_faults.specs.Parts.{trees}
use Rattle.yt_names.specs.Resolved.{resolved}
use Rattle.yt_name_faults.proofs.Lemmas.{no_fault}
use Rattle.yt_names.proofs.formed.Graph.{resolved_is_formed}
use Rattle.yt_names.proofs.resolving.resolve.Goals as goal

-- items of which no fault decides have none
judged : (all items : List Item) (ops : List OpHead) → all ≡ items → first_fault (name_faults (trees all) ops) ≡ None → name_faults (trees items) ops ≡ []
judged all items ops same none = no_fault (name_faults (trees items) ops) (ap (λ l. first_fault (name_faults (trees l) ops)) (sym same) ∙ none)

pub returns-clause-ok : goal.returns-clause-ok
returns-clause-ok c =
    let ops = c.args.ops.now in
    let same : c.in_ok-index.index ≡ c.args.ast.now.items = c.in_ok-index.ensures ∙ c.as_slice-items.ensures in (
      judged c.in_ok-index.index c.args.ast.now.items ops same (sym c.in_ok-fault.ensures ∙ c.in-None.is),
      c.in_ok-graph-in-None.ensures ∙ ap (λ l. resolved (trees l) ops) same,
    )

pub returns-clause-well_formed : goal.returns-clause-well_formed
returns-clause-well_formed c = λ written heads.
    let ops = c.args.ops.now in
    let same : c.in_ok-index.index ≡ c.args.ast.now.items = c.in_ok-index.ensures ∙ c.as_slice-items.ensures in
    let none = judged c.in_ok-index.index c.args.ast.now.items ops same (sym c.in_ok-fault.ensures ∙ c.in-None.is) in
    subst IsWellFormed (sym (c.in_ok-graph-in-None.ensures ∙ ap (λ l. resolved (trees l) ops) same)) (resolved_is_formed (ast_tree c.args.ast.now) ops written heads none)
