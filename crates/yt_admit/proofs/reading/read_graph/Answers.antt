use Rattle.std.proofs.Common.{refl, sym, ◌∙◌}
use Rattle.yt_graph.specs.AstPicture.{ast_tree}
use Rattle.yt_answer.specs.declared.verdict.Verdict.TheVariants.{Graph, NotYet}
use Rattle.yt_answer.specs.Due.{not_yet_line}
use Rattle.yt_answer.proofs.Lemmas.{due_answer}
use Rattle.yt_admit.specs.Trees.{IsTreeOf, IsUnreadText, unread_verdict, calls_operator, not_spelled}
use Rattle.yt_admit.proofs.Answered.{lex_due}
use Rattle.yt_admit.proofs.reading.read_graph.Goals as goal

pub returns-in-Err : goal.returns-in-Err
returns-in-Err c = lex_due c.args.bytes.now c.in-Err.fault c.refused.result c.in_ok-lex_line-in-Err.field-0 c.in-Err.ensures.err c.in_ok-lex_line-in-Err.ensures c.refused.ensures

pub returns-in-Err-Syntax : goal.returns-in-Err-Syntax
returns-in-Err-Syntax c =
    let fault = rw c.in-Err-Syntax.field-0-is at c.in-Err-Syntax.ensures.err in
    due_answer (unread_verdict {text = c.args.bytes.now}) (IsUnreadText {text = c.args.bytes.now}) (not_spelled c.in-Ok.tokens c.in-Err-Syntax.place c.in-Ok.ensures.ok fault)
    c.refused-in-Err-Syntax.result Graph c.in_ok-syntax_line-in-Err-Syntax.field-0 c.refused-in-Err-Syntax.ensures refl c.in_ok-syntax_line-in-Err-Syntax.ensures

pub returns-then-has_call : goal.returns-then-has_call
returns-then-has_call c =
    let is : IsTreeOf c.args.bytes.now (ast_tree c.in-Ok-parse.ast) = record { tokens = c.in-Ok.tokens; lexed = c.in-Ok.ensures.ok; spelled = c.in-Ok-parse.ensures.ok } in
    due_answer (unread_verdict {text = c.args.bytes.now}) (IsUnreadText {text = c.args.bytes.now}) (calls_operator (ast_tree c.in-Ok-parse.ast) is (sym c.has_call.ensures ∙ c.if-has_call.true))
    c.in_ok-not_yet-in-Ok-parse.field-0 NotYet not_yet_line c.in_ok-not_yet-in-Ok-parse.ensures refl refl
