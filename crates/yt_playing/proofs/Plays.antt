-- What a play of a legal plan keeps, and what is due to it.
use Rattle.std.proofs.Common.{◌≡◌, ℕ, ◌+◌, ◌≤◌, List, [], ◌∷◌, length, refl, sym, ap, subst, ◌∙◌, inl, inr, ⊎_elim, arith}
use Rattle.yt_answer.specs.Due.{IsDue}
use Rattle.yt_answer.specs.declared.verdict.Verdict.{Verdict}
use Rattle.yt_answer.specs.declared.verdict.Verdict.TheVariants.{Done, Missed}
use Rattle.yt_set.specs.declared.task.Task.{Task}
use Rattle.yt_set.specs.Limits.{most_ticks}
use Rattle.yt_set.specs.NamedTasks.{NamedTasks}
use Rattle.yt_set.specs.Tasks.{IsTask, IsTaskSet, Fits}
use Rattle.yt_log.specs.declared.job.Job.{Job}
use Rattle.yt_log.specs.declared.plan.PlanItem.{PlanItem}
use Rattle.yt_log.specs.EdfDdm.{edf_ddm}
use Rattle.yt_log.specs.Judging.{IsFirstMiss}
use Rattle.yt_log.specs.Limits.{most_arrival, most_deadline}
use Rattle.yt_log.specs.Patterns.{MustMiss}
use Rattle.yt_log.specs.Plan.{IsLegal, IsLegalPlan, deadline_of, horizon}
use Rattle.yt_log.specs.Tasks.{Has, task_of}
use Rattle.yt_log.specs.Ticks.{Ticks, IsLawful, KeepsDeadlines, Misses}
use Rattle.yt_log.proofs.Lemmas.{done_same, has_task, rule_is_safe, has_all, fits_keeps, rule_makes_logs, good_item, same_so_far}
use Rattle.yt_playing.specs.Plays.{Ending, IsEndingText, IsPlay, PlayKeeps, PlayMisses, ShowsMiss, ending_verdict, keeps, misses, played}
use Rattle.yt_playing.specs.Texts.{kept_text, missed_text}

is_play : (tasks : List Task) (plan : List PlanItem) → IsLegalPlan tasks plan → IsPlay tasks plan
is_play tasks plan legal =
    record { legal = legal; safe = rule_is_safe tasks plan legal.legal (played tasks plan) (rule_makes_logs tasks plan (horizon tasks plan)).rule }

-- a job that misses its deadline shows that the set doesn't fit
unfit_missed : (tasks : List Task) (plan : List PlanItem) (job : Job) → IsTaskSet tasks → IsLegal tasks plan → IsFirstMiss tasks plan (played tasks plan) (horizon tasks plan) job → Fits tasks → ⊥
unfit_missed tasks plan job set legal first fits =
    let long = (rule_makes_logs tasks plan (horizon tasks plan)).long in
    let due = first.misses.due in
    let kept = fits_keeps tasks set fits plan legal (played tasks plan) (rule_makes_logs tasks plan (horizon tasks plan)).rule first.item first.has (omega arith) in
    omega (arith, first.misses.short)

-- the period of a task of a set in range
period_of_task : (tasks : List Task) (n : ℕ) → IsTaskSet tasks → 1 ≤ n → n ≤ length tasks → (task_of tasks n).period ≤ most_ticks
period_of_task tasks n set from_one within = let h = has_all IsTask tasks set.1 (task_of tasks n) (has_task tasks n from_one within) in h.3

-- deadlines that are all at most a tick have a greatest that is
horizon_most : (tasks : List Task) (most : ℕ) (xs : List PlanItem) → ((i : PlanItem) → Has xs i → deadline_of tasks i ≤ most) → horizon tasks xs ≤ most
horizon_most tasks most [] h = omega arith
horizon_most tasks most (x ∷ xs) h =
    let here = h x (inl refl) in
    let rest = horizon_most tasks most xs (λ i is. h i (inr is)) in
    omega arith

deadline_most : (tasks : List Task) (plan : List PlanItem) (i : PlanItem) → IsTaskSet tasks → IsLegalPlan tasks plan → Has plan i → deadline_of tasks i ≤ most_deadline
unfolding deadline_of
deadline_most tasks plan i set legal is =
    let good = good_item tasks plan legal.legal i is in
    let early = has_all (λ (item : PlanItem). item.arrival ≤ most_arrival) plan legal.early i is in
    let period = period_of_task tasks i.job.task set good.from_one good.in_set in
    omega arith

-- a legal plan's deadlines are all by the last that there may be
pub horizon_short : (tasks : List Task) (plan : List PlanItem) → IsTaskSet tasks → IsLegalPlan tasks plan → horizon tasks plan ≤ most_deadline
horizon_short tasks plan set legal = horizon_most tasks most_deadline plan (λ i is. deadline_most tasks plan i set legal is)

-- a log that the rule makes has as many ticks as are asked for
pub made_long : (tasks : List Task) (plan : List PlanItem) (upto : ℕ) (log : Ticks) → log ≡ edf_ddm tasks plan upto → length log ≡ upto
made_long tasks plan upto log is = ap length is ∙ (rule_makes_logs tasks plan upto).long

pub made_lawful : (tasks : List Task) (plan : List PlanItem) (upto : ℕ) (log : Ticks) → IsLegal tasks plan → log ≡ edf_ddm tasks plan upto → IsLawful plan log
made_lawful tasks plan upto log legal is =
    subst (λ (l : Ticks). IsLawful plan l) (sym is) (rule_is_safe tasks plan legal (edf_ddm tasks plan upto) (rule_makes_logs tasks plan upto).rule).lawful

-- the tick is the deadline of a job's items
abbrev IsDueBy : List Task → List PlanItem → Job → ℕ → Type 0
IsDueBy tasks plan job due = (i : PlanItem) → Has plan i → i.job ≡ job → due ≡ deadline_of tasks i

-- the deadline of the first miss is within the log
pub miss_within : (tasks : List Task) (plan : List PlanItem) (log : Ticks) (upto : ℕ) (job : Job) (due : ℕ) → length log ≡ upto → (first : IsFirstMiss tasks plan log upto job) →
    ((i : PlanItem) → Has plan i → i.job ≡ job → due ≡ deadline_of tasks i) → due ≤ length log
miss_within tasks plan log upto job due long first found =
    let same = found first.item first.has first.named in
    omega (arith, first.misses.due)

shown_miss : (named : NamedTasks) (plan : List PlanItem) (log : Ticks) (job : Job) (due : ℕ) (text : List ℕ) → IsTaskSet named.tasks → IsLegalPlan named.tasks plan → log ≡ played named.tasks plan →
    IsFirstMiss named.tasks plan log (horizon named.tasks plan) job → IsDueBy named.tasks plan job due → text ≡ missed_text named.labels log job due → ShowsMiss named plan text
shown_miss named plan log job due text set legal is first found printed =
    let P : Ticks → Type 0 = λ l. IsFirstMiss named.tasks plan l (horizon named.tasks plan) job in
    let here : IsFirstMiss named.tasks plan (played named.tasks plan) (horizon named.tasks plan) job = subst P is first in
    record {
      play = is_play named.tasks plan legal;
      job = job;
      first = here;
      printed = printed ∙ ap (λ (l : Ticks). missed_text named.labels l job due) is
          ∙ ap (λ (d : ℕ). missed_text named.labels (played named.tasks plan) job d) (found here.item here.has here.named);
      unfit = unfit_missed named.tasks plan job set legal.legal here;
    }

-- a job that is the first to miss its deadline misses it
misses_of : (tasks : List Task) (plan : List PlanItem) (log : Ticks) (h : ℕ) (job : Job) → IsFirstMiss tasks plan log h job → Misses tasks plan log h
misses_of tasks plan log h job first = (first.item, first.has, first.misses)

-- a log that keeps the deadlines misses none
pub kept_or_missed : (tasks : List Task) (plan : List PlanItem) (log : Ticks) (h : ℕ) → KeepsDeadlines tasks plan log h → Misses tasks plan log h → ⊥
kept_or_missed tasks plan log h kept miss =
    let whole = kept miss.0 miss.1 miss.2.due in
    omega (arith, miss.2.short)

-- what is due to a plan of which a job misses its deadline, by the tasks, the log and the tick up to which it was made
pub missed_due : (named : NamedTasks) (tasks : List Task) (plan : List PlanItem) (log : Ticks) (upto : ℕ) (job : Job) (due : ℕ) (labels : List (List ℕ)) (text : List ℕ) → IsTaskSet named.tasks → IsLegalPlan named.tasks plan →
    tasks ≡ named.tasks → upto ≡ horizon tasks plan → log ≡ edf_ddm tasks plan upto → IsFirstMiss tasks plan log upto job → ((i : PlanItem) → Has plan i → i.job ≡ job → due ≡ deadline_of tasks i) →
    labels ≡ named.labels → text ≡ missed_text labels log job due → IsDue (ending_verdict {set = named} {plan = plan}) IsEndingText Missed text
missed_due named tasks plan log upto job due labels text set legal same end made first found names printed =
    let until : upto ≡ horizon named.tasks plan = end ∙ ap (λ (ts : List Task). horizon ts plan) same in
    let is : log ≡ played named.tasks plan = made ∙ ap (λ (ts : List Task). edf_ddm ts plan upto) same ∙ ap (λ (n : ℕ). edf_ddm named.tasks plan n) until in
    let here = subst (λ (n : ℕ). IsFirstMiss named.tasks plan log n job) until (subst (λ (ts : List Task). IsFirstMiss ts plan log upto job) same first) in
    let by = subst (λ (ts : List Task). IsDueBy ts plan job due) same found in
    let shown = shown_miss named plan log job due text set legal is here by (printed ∙ ap (λ (ls : List (List ℕ)). missed_text ls log job due) names) in
    record { cause = misses (misses_of named.tasks plan (played named.tasks plan) (horizon named.tasks plan) shown.job shown.first); verdict = refl; told = shown }

-- what is due to a plan of which no job does
pub kept_due : (named : NamedTasks) (tasks : List Task) (plan : List PlanItem) (log : Ticks) (upto : ℕ) (labels : List (List ℕ)) (given : Verdict) (text : List ℕ) → IsLegalPlan named.tasks plan →
    tasks ≡ named.tasks → upto ≡ horizon tasks plan → log ≡ edf_ddm tasks plan upto → KeepsDeadlines tasks plan log upto →
    labels ≡ named.labels → given ≡ Done → text ≡ kept_text labels log → IsDue (ending_verdict {set = named} {plan = plan}) IsEndingText given text
kept_due named tasks plan log upto labels given text legal same end made kept names done printed =
    let until : upto ≡ horizon named.tasks plan = end ∙ ap (λ (ts : List Task). horizon ts plan) same in
    let is : log ≡ played named.tasks plan = made ∙ ap (λ (ts : List Task). edf_ddm ts plan upto) same ∙ ap (λ (n : ℕ). edf_ddm named.tasks plan n) until in
    let here = subst (λ (n : ℕ). KeepsDeadlines named.tasks plan log n) until (subst (λ (ts : List Task). KeepsDeadlines ts plan log upto) same kept) in
    let whole : PlayKeeps named.tasks plan = subst (λ (l : Ticks). KeepsDeadlines named.tasks plan l (horizon named.tasks plan)) is here in
    record {
      cause = keeps (kept_or_missed named.tasks plan (played named.tasks plan) (horizon named.tasks plan) whole);
      verdict = done;
      told = record {
        play = is_play named.tasks plan legal;
        keeps = whole;
        printed = printed ∙ ap (λ (ls : List (List ℕ)). kept_text ls log) names ∙ ap (λ (l : Ticks). kept_text named.labels l) is;
      };
    }

due_by_end : (tasks : List Task) (plan : List PlanItem) (item : PlanItem) → Has plan item → deadline_of tasks item ≤ horizon tasks plan
due_by_end tasks [] item has = absurd has
due_by_end tasks (x ∷ xs) item has =
    ⊎_elim
    (λ (e : item ≡ x). let same : deadline_of tasks item ≡ deadline_of tasks x = ap (deadline_of tasks) e in omega arith)
    (λ (h : Has xs item). let later = due_by_end tasks xs item h in omega arith)
    has

-- of a plan that must miss the play misses
pub plays_miss : (tasks : List Task) (plan : List PlanItem) (h : ℕ) → MustMiss tasks plan h → PlayMisses tasks plan
plays_miss tasks plan h must =
    let end = horizon tasks plan in
    let long = rule_makes_logs tasks plan (end + h) in
    let log = edf_ddm tasks plan (end + h) in
    let safe = rule_is_safe tasks plan must.legal log long.rule in
    let miss = must.misses log (omega (arith, long.long)) safe.lawful safe.work_conserving safe.exclusive in
    let item = miss.0 in
    let due = deadline_of tasks item in
    let within = due_by_end tasks plan item miss.1 in
    let made = rule_makes_logs tasks plan end in
    let alike = same_so_far tasks plan log (played tasks plan) long.rule made.rule due (omega (arith, long.long)) (omega (arith, made.long)) in
    let same = done_same log (played tasks plan) item.job due alike in
    (item, miss.1, record { due = within; short = omega (arith, miss.2.short) })

-- so what is due to it is the miss
pub miss_is_due : (set : NamedTasks) (plan : List PlanItem) (verdict : Verdict) (text : List ℕ) → PlayMisses set.tasks plan → IsDue (ending_verdict {set = set} {plan = plan}) IsEndingText verdict text →
    (verdict ≡ Missed) × ShowsMiss set plan text
miss_is_due set plan verdict text miss due = by due.cause due.verdict due.told
  where
    by : (ending : Ending set plan) → verdict ≡ ending_verdict ending → IsEndingText ending text → (verdict ≡ Missed) × ShowsMiss set plan text
    by (misses missed) is shown = (is, shown)
    by (keeps none) is shown = absurd (none miss)
