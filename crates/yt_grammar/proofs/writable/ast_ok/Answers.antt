use Rattle.std.proofs.Common.{◌∙◌, sym}
use Rattle.yt_graph.specs.AstPicture.{ast_tree}
use Rattle.yt_grammar.proofs.written.Spelled.{spelled_writable}
use Rattle.yt_grammar.proofs.written.WellFormed.{writable_formed}
use Rattle.yt_grammar.proofs.written.Written.{writable_written}
use Rattle.yt_grammar.proofs.writable.ast_ok.Goals as goal

pub returns-clause-written : goal.returns-clause-written
returns-clause-written c =
    let tree = ast_tree c.args.ast.now in
    let same = rw c.as_slice.ensures at c.items_ok.ensures in
    ((λ h. writable_written tree (sym same ∙ h)), (λ w. same ∙ spelled_writable tree w.0 w.1))

pub returns-clause-writable : goal.returns-clause-writable
returns-clause-writable c =
    let same = rw c.as_slice.ensures at c.items_ok.ensures in
    λ h. writable_formed (ast_tree c.args.ast.now) (sym same ∙ h)
