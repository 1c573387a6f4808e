-- Plans as their texts are read.
use Rattle.std.proofs.Common.{◌≡◌, ℕ, ◌+◌, ◌-◌, ◌<◌, ◌≤◌, ◌^◌, min, Bool, true, false, ◌&&◌, ◌||◌, not, cond, eqb, leb, ltb, List, [], ◌∷◌, ◌++◌, length, reverse, Some, None, IfSome, Option, Err, refl, sym, ap, ap₂, subst, ◌∙◌, ⊎_elim, arith, append_assoc}
use Rattle.std.proofs.lemmas.Bool.{cases_Bool, cases_lt, cond-true, cond-false, and_from, and_parts, and_right, or_left, or_right, not_from_false, not_from_true, le-leb, leb-true, lt-leb, lt-ltb, eq-eqb}
use Rattle.std.proofs.lemmas.List.{reverse-append, append-nil, length-reverse}
use Rattle.std.proofs.lemmas.List.Elements.{All-nil, All-cons, All-append}
use Rattle.std.specs.List.{position_from}
use Rattle.yt_list.specs.Numbered.{numbered}
use Rattle.yt_set.specs.declared.task.Task.{Task}
use Rattle.yt_set.specs.Tasks.{IsTask, IsTaskSet}
use Rattle.yt_log.specs.declared.plan.PlanItem.{PlanItem}
use Rattle.yt_log.specs.declared.last_jobs.LastJob.{LastJob}
use Rattle.yt_log.specs.declared.item_fault.ItemFault.{ItemFault}
use Rattle.yt_log.specs.declared.item_fault.ItemFault.TheVariants.{Cost, Late}
use Rattle.yt_log.specs.Tasks.{Has, task_of}
use Rattle.yt_log.specs.Plan.{jobs_of, IsNext, IsLegalAfter, IsLegal, IsLegalPlan, last_from, last_arrival}
use Rattle.yt_log.specs.LastJobs.{last_of, last_job, least_arrival}
use Rattle.yt_log.specs.Inside.LastJobs.{AreLast, may_follow, may_come}
use Rattle.yt_base.specs.Digits.{is_digits, value_of}
use Rattle.yt_set.specs.NamedTasks.{NamedTasks}
use Rattle.yt_table.specs.Tables.{first_of}
use Rattle.yt_log.specs.PlanText.{ItemTexts, item_texts, item_fault, unless, judged_item, judged_named, judged_texts, judged}
use Rattle.yt_log.specs.Inside.PlanReading.{IsFine, capped, PlanSoFar}
use Rattle.yt_log.proofs.Forms.{has_all}
use Rattle.yt_log.proofs.Demands.{has_task}
use Rattle.yt_log.proofs.Plans.{jobs_of-cons}
use Rattle.yt_log.proofs.Appends.{rev_onto, has_rev_onto, legal_more}
use Rattle.yt_log.proofs.Demands.{task_read}
use Rattle.yt_log.proofs.LastItems.{last_at, last_item, IsNewest, newest_more, last_of-none}
use Rattle.yt_log.proofs.PlanJudging.{next_item}

-- a task of a set is in range
pub task_in_range : (tasks : List Task) (n : ℕ) → IsTaskSet tasks → 1 ≤ n → n ≤ length tasks → IsTask (task_of tasks n)
task_in_range tasks n set low high = has_all IsTask tasks set.1 (task_of tasks n) (has_task tasks n low high)

-- there are no more jobs of a task than items
pub jobs_few : (task : ℕ) (xs : List PlanItem) → jobs_of task xs ≤ length xs
unfolding jobs_of
jobs_few task [] = omega arith
jobs_few task (x ∷ xs) = let rest = jobs_few task xs in let c = jobs_of-cons task x xs in ⊎_elim
    (λ (e : eqb x.job.task task ≡ true). let one = cond-true {A = ℕ} (eqb x.job.task task) 1 0 e in omega arith)
    (λ (e : eqb x.job.task task ≡ false). let one = cond-false {A = ℕ} (eqb x.job.task task) 1 0 e in omega arith)
    (cases_Bool (eqb x.job.task task))

-- a task's last arrival is no later than all items may be
pub last_early : (task most : ℕ) (before : List PlanItem) → ((e : PlanItem) → Has before e → e.arrival ≤ most) → last_of task before ≤ most
last_early task most before h =
    ⊎_elim
    (λ (some : 0 < jobs_of task before). let e = last_item task before some in let le = h e.0 e.1 in let is = e.3 in omega arith)
    (λ (none : jobs_of task before ≤ 0). let is = last_of-none task before none in omega arith)
    (cases_lt 0 (jobs_of task before))

-- the items from the last
pub rev_onto-is : (xs ys : List PlanItem) → rev_onto xs ys ≡ reverse xs ++ ys
unfolding rev_onto
rev_onto-is [] ys = refl
rev_onto-is (x ∷ xs) ys =
    rev_onto-is xs (x ∷ ys) ∙ sym (append_assoc (reverse xs) (x ∷ []) ys) ∙ ap (λ (l : List PlanItem). l ++ ys) (sym (reverse-append (x ∷ []) xs))

pub rev_onto-nil : (xs : List PlanItem) → rev_onto xs [] ≡ reverse xs
rev_onto-nil xs = rev_onto-is xs [] ∙ append-nil (reverse xs)

-- of a legal plan's items, the last of a task is the newest, and none is later than the last
record IsOld (before : List PlanItem) (t : ℕ) : Type 0 where
  newest : IsNewest before
  behind : (e : PlanItem) → Has before e → e.arrival ≤ t

old_after : (tasks : List Task) (before xs : List PlanItem) (t : ℕ) → IsOld before t → IsLegalAfter tasks before xs → IsOld (rev_onto xs before) (last_from t xs)
unfolding rev_onto
old_after tasks before [] t old legal = old
old_after tasks before (x ∷ xs) t old legal =
    let order = legal.0.order in
    old_after tasks (x ∷ before) xs x.arrival
    (record {
      newest = newest_more before x old.newest order;
      behind = λ e is. ⊎_elim (λ (q : e ≡ x). let P : PlanItem → Type 0 = λ y. y.arrival ≤ x.arrival in subst P (sym q) (omega arith)) (λ (k : Has before e). order e k) is;
    })
    legal.1

old_plan : (tasks : List Task) (plan : List PlanItem) → IsLegal tasks plan → IsOld (reverse plan) (last_arrival plan)
old_plan tasks plan legal =
    let P : List PlanItem → Type 0 = λ before. IsOld before (last_arrival plan) in
    subst P (rev_onto-nil plan) (old_after tasks [] plan 0 (record { newest = λ e is. absurd is; behind = λ e is. absurd is }) legal)

-- a legal plan with one more item that may come
pub legal_with : (tasks : List Task) (plan : List PlanItem) (x : PlanItem) → IsTaskSet tasks → IsLegalPlan tasks plan → last_arrival plan ≤ x.arrival → may_come tasks (reverse plan) x ≡ true → IsLegalPlan tasks (plan ++ x ∷ [])
legal_with tasks plan x set legal order may =
    let old = old_plan tasks plan legal.legal in
    let before = reverse plan in
    let parts = and_parts _ _ may in
    let more = and_parts _ _ parts.1 in
    let its = task_in_range tasks x.job.task set (leb-true 1 x.job.task parts.0) (leb-true x.job.task (length tasks) more.0) in
    let behind : (e : PlanItem) → Has before e → e.arrival ≤ x.arrival = λ e is. let le = old.behind e is in omega arith in
    let next = next_item tasks before x old.newest behind its.2 may in
    let P : List PlanItem → Type 0 = λ b. IsNext tasks b x in
    let early = λ (i : PlanItem). i.arrival ≤ 8000000 in
    record {
      legal = legal_more tasks [] plan x legal.legal (subst P (sym (rev_onto-nil plan)) next.0);
      early = All-append early plan (x ∷ []) legal.early (All-cons early x [] next.1 (All-nil early));
    }

-- the last jobs with one more
pub reverse-push : (plan : List PlanItem) (x : PlanItem) → reverse (plan ++ x ∷ []) ≡ x ∷ reverse plan
reverse-push plan x = reverse-append plan (x ∷ [])

has_back : (plan : List PlanItem) (e : PlanItem) → Has (reverse plan) e → Has plan e
has_back plan e is =
    let P : List PlanItem → Type 0 = λ xs. Has xs e in
    ⊎_elim (λ (k : Has plan e). k) (λ (k : Has [] e). absurd k) (has_rev_onto plan [] e (subst P (sym (rev_onto-nil plan)) is))

-- all items of a legal plan arrive in time, from the last too
pub early_back : (tasks : List Task) (plan : List PlanItem) → IsLegalPlan tasks plan → (e : PlanItem) → Has (reverse plan) e → e.arrival ≤ 8000000
early_back tasks plan legal e is =
    let early = λ (i : PlanItem). i.arrival ≤ 8000000 in
    has_all early plan legal.early e (has_back plan e is)

-- an item without a fault may come
pub fine_comes : (tasks : List Task) (before : List PlanItem) (its : Task) (last : LastJob) (task latest jobs arrival cost : ℕ) → 1 ≤ task → task ≤ length tasks → 1 ≤ its.period →
    its ≡ task_of tasks task → last ≡ last_job task before → IsFine its last latest jobs arrival cost →
    may_come tasks before (record { job = record { task = task; number = last.number + 1 }; arrival = arrival; cost = cost }) ≡ true
fine_comes tasks before its last task latest jobs arrival cost low high some is last_is fine =
    let x : PlanItem = record { job = record { task = task; number = last.number + 1 }; arrival = arrival; cost = cost } in
    let apart : (eqb last.number 0 || leb its.period (arrival - last.arrival)) ≡ true =
    ⊎_elim
    (λ (e : eqb last.number 0 ≡ true). or_left _ _ e)
    (λ (e : eqb last.number 0 ≡ false).
    let least : least_arrival its last ≡ last.arrival + its.period = cond-false _ _ _ e in
    let le = fine.apart in
    or_right _ _ (le-leb its.period (arrival - last.arrival) (omega arith)))
    (cases_Bool (eqb last.number 0)) in
    let follows : may_follow its last x ≡ true =
    and_from _ _ (eq-eqb (last.number + 1) (last.number + 1) refl)
    (and_from _ _ apart (and_from _ _ (le-leb 1 cost fine.some) (and_from _ _ (le-leb cost its.cost fine.most) (le-leb arrival 8000000 (let e = fine.early in omega arith))))) in
    and_from _ _ (le-leb 1 task low)
    (and_from _ _ (le-leb task (length tasks) high) (sym (ap₂ (λ (t : Task) (l : LastJob). may_follow t l x) is last_is) ∙ follows))

-- the judging of an item by the tests of its task
pub judged_by : (tasks : List Task) (plan : List PlanItem) (its : Task) (last : LastJob) (task latest jobs arrival cost : ℕ) (o : Option ItemFault) →
    its ≡ task_of tasks task → last ≡ last_job task (reverse plan) → latest ≡ last_arrival plan → jobs ≡ length plan → o ≡ item_fault its last latest jobs arrival cost →
    judged_item tasks plan task arrival cost ≡ unless o (plan ++ record { job = record { task = task; number = last.number + 1 }; arrival = arrival; cost = cost } ∷ [])
judged_by tasks plan its last task latest jobs arrival cost o its_is last_is latest_is jobs_is o_is =
    let made : LastJob → List PlanItem = λ l. plan ++ record { job = record { task = task; number = l.number + 1 }; arrival = arrival; cost = cost } ∷ [] in
    sym
    (ap₂ (λ (t : Task) (l : LastJob). unless (item_fault t l latest jobs arrival cost) (made l)) its_is last_is ∙
    ap₂ (λ (m n : ℕ). unless (item_fault (task_of tasks task) (last_job task (reverse plan)) m n arrival cost) (made (last_job task (reverse plan)))) latest_is jobs_is) ∙
    ap (λ (f : Option ItemFault). unless f (made last)) (sym o_is)

-- numbers past 2 ^ 64 - 1 are judged as that
abbrev pub most : ℕ
most = 2 ^ 64 - 1

abbrev new_item : List PlanItem → ℕ → ℕ → ℕ → List PlanItem
new_item plan task arrival cost = plan ++ record { job = record { task = task; number = (last_job task (reverse plan)).number + 1 }; arrival = arrival; cost = cost } ∷ []

costs_much : (tasks : List Task) (plan : List PlanItem) (task arrival cost : ℕ) → (task_of tasks task).cost < cost → judged_item tasks plan task arrival cost ≡ Err Cost
costs_much tasks plan task arrival cost much =
    ap (λ (o : Option ItemFault). unless o (new_item plan task arrival cost))
    (cond-true _ _ _ (not_from_false _ (and_right (leb 1 cost) (leb cost (task_of tasks task).cost) (lt-leb cost (task_of tasks task).cost much))))

comes_late : (tasks : List Task) (plan : List PlanItem) (task arrival cost : ℕ) → 4000000 < arrival → judged_item tasks plan task arrival cost ≡ cond (not (leb 1 cost && leb cost (task_of tasks task).cost)) (Err Cost) (Err Late)
comes_late tasks plan task arrival cost late =
    let its = task_of tasks task in
    let bad = not (leb 1 cost && leb cost its.cost) in
    ⊎_elim
    (λ (e : bad ≡ true). ap (λ (o : Option ItemFault). unless o (new_item plan task arrival cost)) (cond-true bad _ _ e) ∙ sym (cond-true bad _ _ e))
    (λ (e : bad ≡ false). ap (λ (o : Option ItemFault). unless o (new_item plan task arrival cost)) (cond-false bad _ _ e ∙ cond-true (ltb 4000000 arrival) _ _ (lt-ltb 4000000 arrival late)) ∙ sym (cond-false bad _ _ e))
    (cases_Bool bad)

-- an item is judged as with these
pub capped_item : (tasks : List Task) (plan : List PlanItem) (task arrival cost : ℕ) → (task_of tasks task).cost ≤ 1000000 →
    judged_item tasks plan task (min arrival most) (min cost most) ≡ judged_item tasks plan task arrival cost
capped_item tasks plan task arrival cost cheap =
    let a = min arrival most in
    let c = min cost most in
    ⊎_elim
    (λ (over : most < cost). costs_much tasks plan task a c (omega arith) ∙ sym (costs_much tasks plan task arrival cost (omega arith)))
    (λ (le : cost ≤ most).
    let same : c ≡ cost = omega arith in
    ap (λ (n : ℕ). judged_item tasks plan task a n) same ∙
    ⊎_elim
    (λ (over : most < arrival). comes_late tasks plan task a cost (omega arith) ∙ sym (comes_late tasks plan task arrival cost (omega arith)))
    (λ (few : arrival ≤ most). let here : a ≡ arrival = omega arith in ap (λ (n : ℕ). judged_item tasks plan task n cost) here)
    (cases_lt most arrival))
    (cases_lt most cost)

weaker : (P Q : ℕ → Type 0) → ((n : ℕ) → P n → Q n) → (o : Option ℕ) → IfSome o P → IfSome o Q
weaker P Q h None p = tt
weaker P Q h (Some n) p = h n p

position_in : (test : List ℕ → Bool) (i : ℕ) (xs : List (List ℕ)) → IfSome (position_from test i xs) (λ n. (i ≤ n) × (n < i + length xs))
position_in test i [] = tt
position_in test i (x ∷ xs) = by (test x) (position_in test (i + 1) xs)
  where
    by : (b : Bool) → IfSome (position_from test (i + 1) xs) (λ n. (i + 1 ≤ n) × (n < i + 1 + length xs)) → IfSome (cond b (Some i) (position_from test (i + 1) xs)) (λ n. (i ≤ n) × (n < i + length (x ∷ xs)))
    by true rest = (omega arith, omega arith)
    by false rest =
        weaker (λ n. (i + 1 ≤ n) × (n < i + 1 + length xs)) (λ n. (i ≤ n) × (n < i + length (x ∷ xs)))
        (λ n p. let low = p.0 in let high = p.1 in (omega arith, omega arith))
        (position_from test (i + 1) xs) rest

below : {m n o : ℕ} → m ≤ n → n ≤ o → m ≤ o
below a b = omega arith

-- a task that may come is one of at most 64
pub come_few : (tasks : List Task) (before : List PlanItem) (x : PlanItem) → IsTaskSet tasks → may_come tasks before x ≡ true → x.job.task ≤ 64
come_few tasks before x set may =
    let few : length tasks ≤ 64 = set.0 in
    let high : x.job.task ≤ length tasks = leb-true x.job.task (length tasks) (and_parts _ _ (and_parts _ _ may).1).0 in
    below high few

-- the last job of a task of the set
pub item_last : (tasks : List Task) (plan : List PlanItem) (jobs : List LastJob) (task : ℕ) (last : LastJob) → IsTaskSet tasks → 1 ≤ task → task ≤ length tasks → AreLast jobs (reverse plan) →
    numbered jobs task ≡ Some last → last ≡ last_job task (reverse plan)
item_last tasks plan jobs task last set low high are got =
    let few : length tasks ≤ 64 = set.0 in
    last_at jobs (reverse plan) task last low (omega (arith, few, high)) are got

-- a line's fields are judged as its task's next job
pub judged_as : (set : NamedTasks) (plan : List PlanItem) (fields : List (List ℕ)) (texts : ItemTexts) (task arrival cost : ℕ) → IsTaskSet set.tasks → 1 ≤ task → task ≤ length set.tasks →
    item_texts fields ≡ Some texts → is_digits texts.arrival ≡ true → is_digits texts.cost ≡ true → Some task ≡ first_of texts.task 1 set.labels → arrival ≡ capped texts.arrival → cost ≡ capped texts.cost →
    judged set plan fields ≡ judged_item set.tasks plan task arrival cost
judged_as set plan fields texts task arrival cost range low high is first last named a c =
    let its = task_in_range set.tasks task range low high in
    ap (judged_texts set plan) is ∙
    cond-false (not (is_digits texts.arrival && is_digits texts.cost)) _ _ (not_from_true _ (and_from _ _ first last)) ∙
    ap (λ (o : Option ℕ). judged_named set.tasks plan o (value_of texts.arrival) (value_of texts.cost)) (sym named) ∙
    sym (capped_item set.tasks plan task (value_of texts.arrival) (value_of texts.cost) its.1) ∙
    ap₂ (λ (m n : ℕ). judged_item set.tasks plan task m n) (sym a) (sym c)

-- the tests of a task's next job judge it
pub item_answer : (read now : PlanSoFar) (lasts : List LastJob) (its : Task) (last : LastJob) (task latest jobs arrival cost : ℕ) (o : Option ItemFault) → read ≡ now →
    IsTaskSet read.set.tasks → 1 ≤ task → task ≤ length now.set.tasks → numbered read.set.tasks task ≡ Some its → AreLast lasts (reverse read.plan) → numbered lasts task ≡ Some last →
    latest ≡ last_arrival read.plan → jobs ≡ length read.plan → o ≡ item_fault its last latest jobs arrival cost →
    judged_item now.set.tasks now.plan task arrival cost ≡ unless o (now.plan ++ record { job = record { task = task; number = last.number + 1 }; arrival = arrival; cost = cost } ∷ [])
item_answer read now lasts its last task latest jobs arrival cost o same set low high at are got latest_is jobs_is o_is =
    let x : PlanItem = record { job = record { task = task; number = last.number + 1 }; arrival = arrival; cost = cost } in
    let here = subst (λ (r : PlanSoFar). task ≤ length r.set.tasks) (sym same) high in
    subst (λ (r : PlanSoFar). judged_item r.set.tasks r.plan task arrival cost ≡ unless o (r.plan ++ x ∷ [])) same
    (judged_by read.set.tasks read.plan its last task latest jobs arrival cost o (sym (task_read read.set.tasks task its at)) (item_last read.set.tasks read.plan lasts task last set low here are got) latest_is jobs_is o_is)

-- without a fault it may come
pub item_may : (read now : PlanSoFar) (lasts : List LastJob) (its : Task) (last : LastJob) (task latest jobs arrival cost : ℕ) → read ≡ now →
    IsTaskSet read.set.tasks → 1 ≤ task → task ≤ length now.set.tasks → numbered read.set.tasks task ≡ Some its → AreLast lasts (reverse read.plan) → numbered lasts task ≡ Some last →
    1 ≤ its.period → IsFine its last latest jobs arrival cost →
    may_come now.set.tasks (reverse now.plan) (record { job = record { task = task; number = last.number + 1 }; arrival = arrival; cost = cost }) ≡ true
item_may read now lasts its last task latest jobs arrival cost same set low high at are got some fine =
    let x : PlanItem = record { job = record { task = task; number = last.number + 1 }; arrival = arrival; cost = cost } in
    let here = subst (λ (r : PlanSoFar). task ≤ length r.set.tasks) (sym same) high in
    subst (λ (r : PlanSoFar). may_come r.set.tasks (reverse r.plan) x ≡ true) same
    (fine_comes read.set.tasks (reverse read.plan) its last task latest jobs arrival cost low here some (sym (task_read read.set.tasks task its at)) (item_last read.set.tasks read.plan lasts task last set low here are got) fine)

-- a last job is in bounds: it arrived in time, and there are no more jobs of a task than items
pub last_bounds : (read now : PlanSoFar) (lasts : List LastJob) (last : LastJob) (task : ℕ) → read ≡ now →
    IsTaskSet read.set.tasks → IsLegalPlan read.set.tasks read.plan → 1 ≤ task → task ≤ length now.set.tasks → AreLast lasts (reverse read.plan) → numbered lasts task ≡ Some last →
    (last.arrival ≤ 8000000) × (last.number ≤ length read.plan)
last_bounds read now lasts last task same set legal low high are got =
    let here = subst (λ (r : PlanSoFar). task ≤ length r.set.tasks) (sym same) high in
    let is = item_last read.set.tasks read.plan lasts task last set low here are got in
    let few : jobs_of task (reverse read.plan) ≤ length read.plan = omega (arith, jobs_few task (reverse read.plan), length-reverse read.plan) in (
      subst (λ (l : LastJob). l.arrival ≤ 8000000) (sym is) (last_early task 8000000 (reverse read.plan) (early_back read.set.tasks read.plan legal)),
      subst (λ (l : LastJob). l.number ≤ length read.plan) (sym is) few,
    )
