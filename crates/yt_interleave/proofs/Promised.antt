-- What is promised of a run that is over, where its executive went by the rule.
use Rattle.std.proofs.Common.{◌≡◌, ℕ, max, List, [], length, Option, sym, ap, subst}
use Rattle.std.specs.Option.{option_map_or}
use Rattle.yt_graph.specs.Picture.{GraphTree}
use Rattle.yt_log.specs.declared.plan.PlanItem.{PlanItem}
use Rattle.yt_log.specs.EdfDdm.{IsEdfDdm}
use Rattle.yt_log.specs.Patterns.{item_before}
use Rattle.yt_log.specs.Tasks.{Has}
use Rattle.yt_log.specs.Ticks.{Ticks}
use Rattle.yt_log.proofs.Lemmas.{has_sorted, sorted_has}
use Rattle.yt_order.specs.Sorting.{sort_by}
use Rattle.yt_rates.specs.Tables.{tasks_of}
use Rattle.yt_serial.specs.declared.shown.OutLine.{OutLine}
use Rattle.yt_trace.specs.declared.message.Message.{Message}
use Rattle.yt_serial.specs.Premises.{IsSchedulable}
use Rattle.yt_serial.specs.Beginnings.{busy_until}
use Rattle.yt_serial.specs.Told.{IsPromisedRun, latest, line_before}
use Rattle.yt_serial.specs.SerialHandling.{Serial, items_of, plan_of, plan_of_log}
use Rattle.yt_serial.proofs.Lemmas.{run_rules_are_exact}
use Rattle.yt_interleave.specs.Interleaved.{RunState}
use Rattle.yt_interleave.specs.Laws.{HasHandledAll}
use Rattle.yt_interleave.specs.Moves.{Interleaves, AllKnownHandled}
use Rattle.yt_interleave.specs.Timing.{IsPlanOfRun, IsRuleLog}
use Rattle.yt_interleave.proofs.Over.{ends_are_serial}
use Rattle.yt_interleave.proofs.Plans.{only_begun, rule_same}

-- the lines are those of serial handling, in order of time and then of output, and the log ends with the last job and the last line
pub record TellsLines (s : Serial) (log : Ticks) (lines : List OutLine) : Type 0 where
  pub shown : lines ≡ sort_by line_before s.lines
  pub ends : length log ≡ max (busy_until log (length log)) (latest lines)

pub ends_are_promised : (g : GraphTree) (trace : List Message) → IsSchedulable g trace → (s : Serial) (r : RunState) → Interleaves g trace s r → AllKnownHandled g s r
    → (plan : List PlanItem) (due : ℕ) → IsPlanOfRun s r due plan → IsRuleLog g plan r.log → (lines : List OutLine) → TellsLines s r.log lines → IsPromisedRun g trace r.log lines
ends_are_promised g trace able s r is over plan due goes by lines show =
    let tasks = tasks_of g in
    let told : HasHandledAll g trace s r = ends_are_serial g trace able.can s r is over in
    let whole = plan_of_log g trace r.log in
    let plan_is : whole ≡ plan_of s = ap (λ (o : Option Serial). option_map_or plan_of o []) told.along in
    let into : (z : PlanItem) → Has plan z → Has whole z = λ z has.
    subst (λ (xs : List PlanItem). Has xs z) (sym plan_is) (sorted_has item_before (items_of s) z (only_begun g trace able.can s r is over plan due goes by.legal z has)) in
    let from : (z : PlanItem) → Has whole z → Has plan z = λ z has.
    goes.begun z (has_sorted item_before (items_of s) z (subst (λ (xs : List PlanItem). Has xs z) plan_is has)) in
    let rule : IsEdfDdm tasks whole r.log = rule_same tasks plan whole r.log into from by.rule in
    (run_rules_are_exact.exact g trace able r.log lines).0
    (record { serial = s; along = told.along; all = told.all; rule = rule; finished = told.finished; shown = show.shown; ends = show.ends })
