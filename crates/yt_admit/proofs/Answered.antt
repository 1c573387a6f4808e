-- What is due to a text, by what the code finds of it.
use Rattle.std.proofs.Common.{◌≡◌, ℕ, false, List, refl, subst}
use Rattle.yt_graph.specs.AstPicture.{ItemTree}
use Rattle.yt_graph.specs.Picture.{graph_tree}
use Rattle.yt_lexer.specs.declared.token.LexFault.{LexFault}
use Rattle.yt_lexer.specs.declared.token.LexFault.TheVariants.{BadByte, LongName, BigNumber, Memory}
use Rattle.yt_lexer.specs.Lexes.{IsFirstFault}
use Rattle.yt_answer.specs.declared.answer.Answer.{Answer}
use Rattle.yt_answer.specs.declared.verdict.Verdict.TheVariants as verdict
use Rattle.yt_answer.specs.Due.{IsDue}
use Rattle.yt_answer.proofs.Lemmas.{due_answer}
use Rattle.yt_admit.specs.declared.admission.Admission.{Admission}
use Rattle.yt_admit.specs.declared.admission.Admission.TheVariants.{Refused, Unfit, Accepted}
use Rattle.yt_admit.specs.Admissions.{IsAdmissionOf}
use Rattle.yt_admit.specs.Calls.{has_call}
use Rattle.yt_admit.specs.Causes.{StageCause, IsStageText, stage_verdict, IsRated}
use Rattle.yt_admit.specs.Inside.Judged.{IsAdmissionIn}
use Rattle.yt_admit.specs.Lines.{IsLexLine}
use Rattle.yt_admit.specs.Trees.{IsTreeOf, IsUnreadText, unread_verdict, not_lexed}
use Rattle.yt_admit.proofs.Lemmas.{tree_due, tree_refused}

-- a text with a first fault of tokens
pub lex_due : (text : List ℕ) (fault : LexFault) (answer : Answer) (line : List ℕ) → IsFirstFault text fault → IsLexLine line fault → answer ≡ record { verdict = verdict.Graph; text = line } →
    IsDue (unread_verdict {text = text}) (IsUnreadText {text = text}) answer.verdict answer.text
lex_due text (BadByte p) answer line first told is =
    due_answer (unread_verdict {text = text}) (IsUnreadText {text = text}) (not_lexed first.0 (BadByte p) first.1) answer verdict.Graph line is refl told
lex_due text (LongName p) answer line first told is =
    due_answer (unread_verdict {text = text}) (IsUnreadText {text = text}) (not_lexed first.0 (LongName p) first.1) answer verdict.Graph line is refl told
lex_due text (BigNumber p) answer line first told is =
    due_answer (unread_verdict {text = text}) (IsUnreadText {text = text}) (not_lexed first.0 (BigNumber p) first.1) answer verdict.Graph line is refl told
lex_due text Memory answer line first told is = absurd told

-- a tree with a first fault of names, costs or rates
pub stage_refusal : (items : List ItemTree) (cause : StageCause items (λ graph. ⊥)) (answer : Answer) (line : List ℕ) → answer ≡ record { verdict = verdict.Graph; text = line } →
    IsStageText {items = items} {Asked = λ graph. ⊥} (λ graph why line. ⊥) cause line → verdict.Graph ≡ stage_verdict {items = items} {Asked = λ graph. ⊥} (λ graph why. absurd why) cause → IsAdmissionIn items (Refused answer)
stage_refusal items cause answer line is told same =
    due_answer (stage_verdict {items = items} {Asked = λ graph. ⊥} (λ graph why. absurd why)) (IsStageText {items = items} {Asked = λ graph. ⊥} (λ graph why line. ⊥)) cause answer verdict.Graph line is same told

-- what is admitted of a tree is of each text that has it
pub admission_of : (text : List ℕ) (items : List ItemTree) → IsTreeOf text items → has_call items ≡ false → (admission : Admission) → IsAdmissionIn items admission → IsAdmissionOf text admission
admission_of text items is no_call (Refused answer) due =
    tree_due {text = text} {Asked = λ items. StageCause items (λ graph. ⊥)} (λ items why. stage_verdict {items = items} {Asked = λ graph. ⊥} (λ graph why. absurd why) why)
    (λ items why line. IsStageText {items = items} {Asked = λ graph. ⊥} (λ graph why line. ⊥) why line) items answer.verdict answer.text is no_call due
admission_of text items is no_call (Unfit graph why set) h = ((items, record { is_tree = is; no_call = no_call; stage = h.0 }), h.1, h.2, h.3)
admission_of text items is no_call (Accepted ast accepted) h =
    (subst (λ (these : List ItemTree). IsRated text these (graph_tree accepted.graph)) h.0 (record { is_tree = is; no_call = no_call; stage = h.1 }), h.2)

-- the answer to a text without a tree
pub unread_refusal : (text : List ℕ) (answer : Answer) → IsDue (unread_verdict {text = text}) (IsUnreadText {text = text}) answer.verdict answer.text → IsAdmissionOf text (Refused answer)
unread_refusal text answer due =
    tree_refused text {Asked = λ items. StageCause items (λ graph. ⊥)} (λ items why. stage_verdict {items = items} {Asked = λ graph. ⊥} (λ graph why. absurd why) why)
    (λ items why line. IsStageText {items = items} {Asked = λ graph. ⊥} (λ graph why line. ⊥) why line) answer.verdict answer.text due
