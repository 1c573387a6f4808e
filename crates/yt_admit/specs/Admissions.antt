-- What reading and admitting a graph's text gives.
use Rattle.std.specs.Prelude.{◌≡◌, ℕ, false, List}
use Rattle.yt_graph.specs.AstPicture.{ItemTree, ast_tree}
use Rattle.yt_graph.specs.AstWellFormed.{IsWritable}
use Rattle.yt_graph.specs.Picture.{graph_tree}
use Rattle.yt_graph.specs.WellFormed.{IsWellFormed}
use Rattle.yt_fits.specs.Unfits.{IsReason}
use Rattle.yt_rates.specs.Acceptance.{IsAccepted}
use Rattle.yt_rates.specs.Tables.{tasks_of}
use Rattle.yt_answer.specs.Due.{IsDue}
use Rattle.yt_admit.specs.declared.reading.Reading.{Reading}
use Rattle.yt_admit.specs.declared.reading.Reading.TheVariants.{Tree, Unread}
use Rattle.yt_admit.specs.declared.admission.Admission.{Admission}
use Rattle.yt_admit.specs.declared.admission.Admission.TheVariants.{Refused, Unfit, Accepted}
use Rattle.yt_admit.specs.Calls.{has_call}
use Rattle.yt_admit.specs.Trees.{IsTreeOf, IsUnreadText, unread_verdict}
use Rattle.yt_admit.specs.Causes.{IsRated, IsRefusalText, refusal_verdict}

-- a graph's text has this tree, which calls no operator and can be written; or this answer is due to it, whatever is asked about its tree
abbrev pub IsReadingOf : List ℕ → Reading → Type 0
IsReadingOf text (Tree ast) = IsTreeOf text (ast_tree ast) × (has_call (ast_tree ast) ≡ false) × IsWritable (ast_tree ast)
IsReadingOf text (Unread answer) = IsDue (unread_verdict {text = text}) (IsUnreadText {text = text}) answer.verdict answer.text

-- this answer is due to a graph's text, whatever is asked about its graph; or it stands for this graph, of which these are the tasks,
-- which don't fit for this reason; or it has this tree and stands for this graph, which is accepted
abbrev pub IsAdmissionOf : List ℕ → Admission → Type 0
IsAdmissionOf text (Refused answer) = IsDue (refusal_verdict {text = text}) (IsRefusalText {text = text}) answer.verdict answer.text
IsAdmissionOf text (Unfit graph why set) =
    ((items : List ItemTree) × IsRated text items (graph_tree graph)) × IsWellFormed (graph_tree graph) × (set ≡ tasks_of (graph_tree graph)) × IsReason set why
IsAdmissionOf text (Accepted ast accepted) = IsRated text (ast_tree ast) (graph_tree accepted.graph) × IsAccepted accepted
