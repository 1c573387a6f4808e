use Rattle.yt_graph.specs.AstPicture.{ast_tree}
use Rattle.yt_admit.specs.Admissions.{IsAdmissionOf}
use Rattle.yt_admit.specs.Inside.Judged.{IsAdmissionIn}
use Rattle.yt_admit.proofs.Answered.{admission_of, unread_refusal}
use Rattle.yt_admit.proofs.Lemmas.{if_ok_from}
use Rattle.yt_admit.proofs.admission.admit.Goals as goal

pub returns-in-Tree : goal.returns-in-Tree
returns-in-Tree c =
    let text = c.args.bytes.now in
    let items = ast_tree c.in-Tree.ast in
    let read = rw c.in-Tree.is at c.in_ok-ast.ensures in
    if_ok_from (IsAdmissionIn items) (IsAdmissionOf text) c.admit_tree.result (λ admission h. admission_of text items read.0 read.1 admission h) c.admit_tree.ensures

pub returns-in-Unread : goal.returns-in-Unread
returns-in-Unread c = unread_refusal c.args.bytes.now c.in-Unread.answer (rw c.in-Unread.is at c.in_ok-ast.ensures)
