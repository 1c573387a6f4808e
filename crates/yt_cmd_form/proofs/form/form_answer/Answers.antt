use Rattle.std.proofs.Common.{◌≡◌, refl}
use Rattle.yt_answer.specs.declared.verdict.Verdict.TheVariants.{Done}
use Rattle.yt_answer.proofs.Lemmas.{due_answer}
use Rattle.yt_graph.specs.AstPicture.{ast_tree}
use Rattle.yt_grammar.specs.Lexemes.{toks_of}
use Rattle.yt_grammar.specs.CanonicalText.{canonical_text}
use Rattle.yt_grammar.specs.SamePlaces.{ReadsAs}
use Rattle.yt_admit.specs.Trees.{tree}
use Rattle.yt_admit.proofs.Lemmas.{tree_refused}
use Rattle.yt_cmd_form.specs.Form.{IsFormText, form_verdict}
use Rattle.yt_cmd_form.proofs.form.form_answer.Goals as goal

pub print_graph-requires : goal.print_graph-requires
print_graph-requires c =
    let read = rw c.in-Tree.is at c.in_ok-ast.ensures in
    let is = read.0 in
    (toks_of c.args.bytes.now is.tokens, is.spelled)

pub returns-in_ok-print_graph-in-Tree : goal.returns-in_ok-print_graph-in-Tree
returns-in_ok-print_graph-in-Tree c =
    let graph = c.args.bytes.now in
    let read = rw c.in-Tree.is at c.in_ok-ast.ensures in
    due_answer (form_verdict {graph = graph}) (IsFormText {graph = graph}) (tree (ast_tree c.in-Tree.ast) read.0 read.1 tt) c.done.result Done c.in_ok-print_graph-in-Tree.field-0 c.done.ensures refl
    (c.in_ok-print_graph-in-Tree.ensures.text, c.in_ok-print_graph-in-Tree.ensures.read)

pub returns-in-Unread : goal.returns-in-Unread
returns-in-Unread c =
    tree_refused c.args.bytes.now {Asked = λ items. Unit {0}} (λ items why. Done) (λ items why line. (line ≡ canonical_text items) × ReadsAs line items)
    c.in-Unread.answer.verdict c.in-Unread.answer.text (rw c.in-Unread.is at c.in_ok-ast.ensures)
