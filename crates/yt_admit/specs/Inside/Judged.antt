-- What the code judges of a tree.
use Rattle.std.specs.Prelude.{◌≡◌, List}
use Rattle.yt_graph.specs.AstPicture.{ItemTree, ast_tree}
use Rattle.yt_graph.specs.Picture.{graph_tree}
use Rattle.yt_graph.specs.WellFormed.{IsWellFormed}
use Rattle.yt_fits.specs.Unfits.{IsReason}
use Rattle.yt_rates.specs.Acceptance.{IsAccepted}
use Rattle.yt_rates.specs.Tables.{tasks_of}
use Rattle.yt_answer.specs.Due.{IsDue}
use Rattle.yt_admit.specs.declared.admission.Admission.{Admission}
use Rattle.yt_admit.specs.declared.admission.Admission.TheVariants as admission
use Rattle.yt_admit.specs.declared.judging.Judged.{Judged}
use Rattle.yt_admit.specs.declared.judging.Judged.TheVariants.{Misnamed, Costly, Misrated, Unfit, Accepted}
use Rattle.yt_admit.specs.Causes.{IsStageText, stage_verdict}
use Rattle.yt_admit.specs.Stages.{Stage, misnamed, costly, misrated, rated, stage_of}

-- the stage that is found, with the picture of its graph
abbrev pub stage_found : Judged → Stage
stage_found (Misnamed fault) = misnamed fault
stage_found (Costly graph fault) = costly (graph_tree graph) fault
stage_found (Misrated graph fault) = misrated (graph_tree graph) fault
stage_found (Unfit graph why set) = rated (graph_tree graph)
stage_found (Accepted accepted) = rated (graph_tree accepted.graph)

-- the graph behind the rates is well formed, and its tasks don't fit for the reason beside it, or it is accepted
abbrev pub IsKept : Judged → Type 0
IsKept (Misnamed fault) = Unit {0}
IsKept (Costly graph fault) = Unit {0}
IsKept (Misrated graph fault) = Unit {0}
IsKept (Unfit graph why set) = IsWellFormed (graph_tree graph) × (set ≡ tasks_of (graph_tree graph)) × IsReason set why
IsKept (Accepted accepted) = IsAccepted accepted

-- the same of what is admitted by its tree alone
abbrev pub IsAdmissionIn : List ItemTree → Admission → Type 0
IsAdmissionIn items (admission.Refused answer) =
    IsDue (stage_verdict {items = items} {Asked = λ graph. ⊥} (λ graph why. absurd why)) (IsStageText {items = items} {Asked = λ graph. ⊥} (λ graph why line. ⊥)) answer.verdict answer.text
IsAdmissionIn items (admission.Unfit graph why set) = (stage_of items ≡ rated (graph_tree graph)) × IsWellFormed (graph_tree graph) × (set ≡ tasks_of (graph_tree graph)) × IsReason set why
IsAdmissionIn items (admission.Accepted ast accepted) = (items ≡ ast_tree ast) × (stage_of items ≡ rated (graph_tree accepted.graph)) × IsAccepted accepted
