-- Following a log for as long as it goes by the rule, and what it breaks where it leaves it.
use Rattle.std.proofs.Common.{◌≡◌, ℕ, zero, suc, ◌+◌, ◌-◌, ◌<◌, ◌≤◌, ◌↔◌, IsTrue, true, false, not, leb, ltb, List, length, min, set, Option, Some, None, sym, ap, subst, ◌∙◌, ⊎_elim, arith, ltb-true, lt-ltb, leb-true}
use Rattle.std.proofs.lemmas.Bool.{cases_Bool, cases_lt, cases_eq}
use Rattle.std.proofs.lemmas.List.{length-set, get_or-set_same, get_or-set_other}
use Rattle.yt_set.specs.declared.task.Task.{Task}
use Rattle.yt_set.specs.Tasks.{IsTaskSet}
use Rattle.yt_log.specs.declared.job.Job.{Job}
use Rattle.yt_log.specs.declared.job.Segment.{Segment}
use Rattle.yt_log.specs.declared.plan.PlanItem.{PlanItem}
use Rattle.yt_log.specs.declared.judge.heads.Head.{Head}
use Rattle.yt_log.specs.declared.judge.broken.Rule.{Rule}
use Rattle.yt_log.specs.declared.judge.broken.Rule.TheVariants.{Unlawful, Idle, Shared, NotLeast}
use Rattle.yt_log.specs.Tasks.{Has, task_of}
use Rattle.yt_log.specs.Plan.{same_job, its_task, IsLegal}
use Rattle.yt_log.specs.Ticks.{Ticks, tick, done, IsWaiting, IsActive}
use Rattle.yt_log.specs.EdfDdm.{choice, IsEdfDdm}
use Rattle.yt_log.specs.Segments.{segments_of}
use Rattle.yt_log.specs.Judging.{JobWaits, NamesUnwaiting, IdlesWhileWaiting, SharesResource, Breaks, IsFirstBroken, IsUnbroken}
use Rattle.yt_log.specs.Inside.Heads.{item_at, item_of, no_head, head_at, IsHead, AreHeads, IsLeastHead, Leads, ran, Starts, KeepsResource}
use Rattle.yt_log.specs.Inside.Following.{Follows}
use Rattle.yt_log.specs.Inside.Counts.{ticks_below}
use Rattle.yt_log.proofs.Jobs.{same_job_refl, same_job_true}
use Rattle.yt_log.proofs.Ticks.{done_yes, done_no, done_grows, tick_or_not}
use Rattle.yt_log.proofs.Plans.{good_item}
use Rattle.yt_log.proofs.Places.{has_place}
use Rattle.yt_log.proofs.Counting.{done_is_ticks}
use Rattle.yt_log.proofs.HeadChoices.{has_head, head_chosen, behind_head}
use Rattle.yt_log.proofs.HeadSteps.{head_next, head_first}
use Rattle.yt_log.proofs.HeadRuns.{IsQuiet, idles, runs}
use Rattle.yt_log.proofs.Exclusions.{rule_is_safe}
use Rattle.yt_log.proofs.FirstBreaks.{begun_before, unlawful_first, idle_first, shared_first, not_least_first}

-- a job that has arrived waits exactly where its item has had less than it costs
pub waiting_told : (plan : List PlanItem) (log : Ticks) (t ticks : ℕ) (job : Job) (item : PlanItem) (items : List PlanItem) (segments : List Segment) → items ≡ plan → Has items item → item.job ≡ job → segments ≡ segments_of log →
    ticks ≡ ticks_below segments job t → ((a b : PlanItem) → Has plan a → Has plan b → a.job ≡ b.job → a ≡ b) → item.arrival ≤ t → IsTrue (ltb ticks item.cost) ↔ JobWaits plan log t job
waiting_told plan log t ticks job item items segments e has is told counted one arrived =
    let P : List PlanItem → Type 0 = λ xs. Has xs item in
    let in_plan = subst P e has in
    let done_is = done_is_ticks log job t in
    let all : ticks_below segments job t ≡ ticks_below (segments_of log) job t = ap (λ (ss : List Segment). ticks_below ss job t) told in
    let same : done log item.job t ≡ done log job t = ap (λ (j : Job). done log j t) is in (
      λ b. (item, in_plan, is, record { arrived = arrived; unfinished = (let short = ltb-true ticks item.cost b in omega arith) }),
      λ w.
          let i = one w.0 item w.1 in_plan (w.2 ∙ sym is) in
          let Q : PlanItem → Type 0 = λ k. done log k.job t < k.cost in
          let short = subst Q i w.3.unfinished in
          lt-ltb ticks item.cost (omega arith),
    )

-- one that arrives later doesn't wait
pub late_told : (plan : List PlanItem) (log : Ticks) (t : ℕ) (job : Job) (item : PlanItem) (items : List PlanItem) → items ≡ plan → Has items item → item.job ≡ job →
    ((a b : PlanItem) → Has plan a → Has plan b → a.job ≡ b.job → a ≡ b) → t < item.arrival → IsTrue (leb item.arrival t) ↔ JobWaits plan log t job
late_told plan log t job item items e has is one late =
    let P : List PlanItem → Type 0 = λ xs. Has xs item in
    let in_plan = subst P e has in (
      λ b. let early = leb-true item.arrival t b in absurd (omega arith),
      λ w.
          let i = one w.0 item w.1 in_plan (w.2 ∙ sym is) in
          let Q : PlanItem → Type 0 = λ k. k.arrival ≤ t in
          let early = subst Q i w.3.arrived in
          absurd (omega arith),
    )

-- a head set among the heads
head_set : (heads : List Head) (n : ℕ) (head : Head) → n < length heads → head_at (set heads n head) n ≡ head
unfolding head_at
head_set heads n head lt = get_or-set_same heads n head no_head lt

head_kept : (heads : List Head) (n m : ℕ) (head : Head) → (m ≡ n → ⊥) → head_at (set heads n head) m ≡ head_at heads m
unfolding head_at
head_kept heads n m head ne = get_or-set_other heads n m head no_head ne

-- the test that two jobs differ
pub not_same : (a b : Job) → true ≡ not (same_job a b) → a ≡ b → ⊥
not_same a b h e =
    let P : Job → Type 0 = λ j. same_job a j ≡ true in
    let same = subst P e (same_job_refl a) in
    let no : true ≡ not true = h ∙ ap not same in
    cc

pub same_from : (a b : Job) → false ≡ not (same_job a b) → a ≡ b
same_from a b h =
    ⊎_elim
    (λ (yes : same_job a b ≡ true). same_job_true a b yes)
    (λ (no : same_job a b ≡ false). let x : false ≡ not false = h ∙ ap not no in absurd (false_true x))
    (cases_Bool (same_job a b))
  where
    false_true : false ≡ true → ⊥
    false_true e = cc

same_some : (a b : Job) → Some a ≡ Some b → a ≡ b
same_some a b e = cc

module _ (tasks : List Task) (in_range : IsTaskSet tasks) (plan : List PlanItem) (legal : IsLegal tasks plan) (log : Ticks) (t : ℕ) (heads : List Head) (f : Follows tasks plan log t heads) where
  all_tasks : length tasks ≤ length heads
  all_tasks = let l = f.long in omega arith

  -- the task of a head's item is in the set
  pub head_task : (n : ℕ) → n < length heads → (head_at heads n).place < length plan → (1 ≤ (item_of plan (head_at heads n)).job.task) × ((item_of plan (head_at heads n)).job.task ≤ length tasks)
  head_task n lt within = let of = ((f.are n lt).here within).of_task in let l = f.long in (omega arith, omega arith)

  -- no job waits, and the ticks are idle
  pub follows_idle : (to : ℕ) → t ≤ to → to ≤ length log → ((u : ℕ) → t ≤ u → u < to → tick log u ≡ None) → Leads plan t (length heads) (head_at heads) None → IsQuiet plan t to (length heads) (head_at heads) → Follows tasks plan log to heads
  follows_idle to le within idle none quiet =
      let k = to - t in
      let e : t + k ≡ to = omega arith in
      let r = idles tasks in_range plan legal log t to (length heads) (head_at heads) all_tasks f.are f.more quiet none k (omega arith) (λ u from below. idle u from (omega arith)) in
      let P : ℕ → Type 0 = λ u. AreHeads tasks plan log u (length heads) (head_at heads) in
      record {
        within = within;
        ruled = λ u lt. ⊎_elim (λ (a : u < t). f.ruled u a) (λ (a : t ≤ u). r.1 u a (omega arith)) (cases_lt u t);
        long = f.long;
        are = subst P e r.0;
        more = f.more;
      }

  -- no job waits, and the tick goes to one
  pub none_waits : (job : Job) → tick log t ≡ Some job → Leads plan t (length heads) (head_at heads) None → NamesUnwaiting plan log t
  none_waits job named none = record {
    job = job;
    named = named;
    unwaiting = λ w. let h = has_head tasks in_range plan legal log t (length heads) (head_at heads) all_tasks f.are f.more w.0 w.1 w.3 in none h.number h.within h.first.waits;
  }

  -- a job waits, and the tick is idle
  pub head_waits : (n : ℕ) → IsLeastHead plan t (length heads) (head_at heads) n → IsWaiting log t (item_of plan (head_at heads n))
  head_waits n least =
      let w = least.waits in
      let had = ((f.are n least.within).here w.within).had in
      let short = w.unfinished in
      record { arrived = w.arrived; unfinished = omega arith }

  pub idles_while : (n : ℕ) → IsLeastHead plan t (length heads) (head_at heads) n → t < length log → tick log t ≡ None → IdlesWhileWaiting plan log t
  idles_while n least below idle = record {
    below = below;
    idle = idle;
    item = item_of plan (head_at heads n);
    has = has_place plan (head_at heads n).place least.waits.within;
    waiting = head_waits n least;
  }

  -- the rule gives the tick to the least head's item
  pub rule_gives : (n : ℕ) → IsLeastHead plan t (length heads) (head_at heads) n → choice tasks plan log t ≡ Some (item_of plan (head_at heads n)).job
  rule_gives n least = head_chosen tasks in_range plan legal log t (length heads) (head_at heads) all_tasks f.are f.more n least

  -- the head after a run, and whether it has ticks to come
  pub record HasMoved (n k : ℕ) (head : Head) : Type 0 where
    pub leads : IsHead tasks plan log (t + k) (suc n) head
    pub more : head.place < length plan → head.had < (item_of plan head).cost

  moved : (n k : ℕ) → IsLeastHead plan t (length heads) (head_at heads) n → IsHead tasks plan log (t + k) (suc n) (ran tasks plan t k (head_at heads n)) → (head_at heads n).had + k ≤ (item_of plan (head_at heads n)).cost → (head : Head) →
      ((head_at heads n).had + k < (item_of plan (head_at heads n)).cost → head ≡ ran tasks plan t k (head_at heads n)) →
      ((head_at heads n).had + k ≡ (item_of plan (head_at heads n)).cost → Starts tasks plan (item_of plan (head_at heads n)).job.task ((head_at heads n).place + 1) head) → HasMoved n k head
  moved n k least mine most head on next =
      let old = head_at heads n in
      let P : Head → Type 0 = λ h. HasMoved n k h in
      let of = ((f.are n least.within).here least.waits.within).of_task in
      ⊎_elim
      (λ (short : old.had + k < (item_of plan old).cost). subst P (sym (on short)) (record { leads = mine; more = λ _. short }))
      (λ (full : (item_of plan old).cost ≤ old.had + k).
      let e : old.had + k ≡ (item_of plan old).cost = omega arith in
      let Q : ℕ → Type 0 = λ m. Starts tasks plan m (old.place + 1) head in
      let starts = subst Q of (next e) in
      let fresh = starts.fresh in
      record {
        leads = head_next tasks plan legal log (t + k) (suc n) (ran tasks plan t k old) head mine least.waits.within e starts;
        more = λ within. let g = (good_item tasks plan legal (item_of plan head) (has_place plan head.place within)).some in omega arith;
      })
      (cases_lt (old.had + k) (item_of plan old).cost)

  -- the ticks go to the least head's item
  pub follows_run : (n : ℕ) → IsLeastHead plan t (length heads) (head_at heads) n → (to : ℕ) → IsQuiet plan t to (length heads) (head_at heads) → (k : ℕ) → 0 < k → t + k ≤ to → t + k ≤ length log → (head_at heads n).had + k ≤ (item_of plan (head_at heads n)).cost →
      ((u : ℕ) → t ≤ u → u < t + k → tick log u ≡ Some (item_of plan (head_at heads n)).job) → (head : Head) →
      ((head_at heads n).had + k < (item_of plan (head_at heads n)).cost → head ≡ ran tasks plan t k (head_at heads n)) →
      ((head_at heads n).had + k ≡ (item_of plan (head_at heads n)).cost → Starts tasks plan (item_of plan (head_at heads n)).job.task ((head_at heads n).place + 1) head) →
      Follows tasks plan log (t + k) (set heads n head)
  follows_run n least to quiet zero pos soon within most named head on next = absurd (omega arith)
  follows_run n least to quiet (suc k) pos soon within most named head on next =
      let r = runs tasks in_range plan legal log t to (length heads) (head_at heads) all_tasks f.are f.more quiet n least k soon most named in
      let m = moved n (suc k) least r.mine most head on next in
      let long : length (set heads n head) ≡ length heads = length-set heads n head in
      record {
        within = within;
        ruled = λ u lt. ⊎_elim (λ (a : u < t). f.ruled u a) (λ (a : t ≤ u). r.rule u a lt) (cases_lt u t);
        long = long ∙ f.long;
        are = λ j lt.
            let P : Head → Type 0 = λ h. IsHead tasks plan log (t + suc k) (suc j) h in
            ⊎_elim
            (λ (e : j ≡ n).
            let Q : ℕ → Type 0 = λ x. IsHead tasks plan log (t + suc k) (suc x) (head_at (set heads n head) x) in
            let R : Head → Type 0 = λ h. IsHead tasks plan log (t + suc k) (suc n) h in
            subst Q (sym e) (subst R (sym (head_set heads n head least.within)) m.leads))
            (λ (ne : j ≡ n → ⊥). subst P (sym (head_kept heads n j head ne)) (r.others j (omega arith) ne))
            (cases_eq j n);
        more = λ j lt.
            let P : Head → Type 0 = λ h. h.place < length plan → h.had < (item_of plan h).cost in
            ⊎_elim
            (λ (e : j ≡ n).
            let Q : ℕ → Type 0 = λ x. P (head_at (set heads n head) x) in
            subst Q (sym e) (subst P (sym (head_set heads n head least.within)) m.more))
            (λ (ne : j ≡ n → ⊥). subst P (sym (head_kept heads n j head ne)) (f.more j (omega arith)))
            (cases_eq j n);
      }

  -- what the tick breaks where it goes to another job that waits
  module _ (below : t < length log) (item : PlanItem) (has : Has plan item) (waiting : IsWaiting log t item) (named : tick log t ≡ Some item.job) where
    -- an item that has begun by the end of the tick, and doesn't get it, is a head
    begun_head : (other : PlanItem) → Has plan other → (other.job ≡ item.job → ⊥) → IsActive log t other → (n : ℕ) × (n < length heads) × (item_of plan (head_at heads n) ≡ other) × (0 < (head_at heads n).had) × ((head_at heads n).place < length plan)
    begun_head other is ne active =
        let never : tick log t ≡ Some other.job → ⊥ = λ e. ne (same_some other.job item.job (sym e ∙ named)) in
        let same = done_no log other.job t never in
        let begun = active.begun in
        let short = active.unfinished in
        let g = good_item tasks plan legal other is in
        let from = g.from_one in
        let in_set = g.in_set in
        let l = f.long in
        let n = other.job.task - 1 in
        let lt : n < length heads = omega arith in
        let of : other.job.task ≡ suc n = omega arith in
        let head = head_at heads n in
        let h = f.are n lt in
        let b = behind_head tasks in_range plan legal log t (suc n) head h other is of short in
        let w = b.within in
        let at = b.from in
        ⊎_elim
        (λ (e : head.place ≡ b.place).
        let it : item_of plan head ≡ other = ap (item_at plan) e ∙ b.is in
        let within : head.place < length plan = omega arith in
        let had = (h.here within).had in
        let d : done log (item_of plan head).job t ≡ done log other.job t = ap (λ (i : PlanItem). done log i.job t) it in
        (n, lt, it, omega arith, within))
        (λ (ne' : head.place ≡ b.place → ⊥).
        let P : PlanItem → Type 0 = λ i. i.job.task ≡ suc n → done log i.job t ≡ 0 in
        let none = subst P b.is (h.behind b.place (omega arith) w) of in
        absurd (omega arith))
        (cases_eq head.place b.place)

    -- a head that keeps the item's resource from it
    pub shares_with : (n : ℕ) → n < length heads → 0 < (its_task tasks item).resource → KeepsResource tasks plan (its_task tasks item).resource item.job (head_at heads n) → SharesResource tasks plan log t
    shares_with n lt held keeps =
        let head = head_at heads n in
        let had = ((f.are n lt).here keeps.within).had in
        let begun = keeps.begun in
        let short = f.more n lt keeps.within in
        let next = done_yes log item.job t named in
        let g = done_grows log (item_of plan head).job t (suc t) (omega arith) in
        record {
          below = below;
          one = item;
          other = item_of plan head;
          has_one = has;
          has_other = has_place plan head.place keeps.within;
          held = held;
          shared = sym keeps.under;
          active_one = record { begun = omega arith; unfinished = waiting.unfinished };
          active_other = record { begun = omega arith; unfinished = omega arith };
          differ = λ e. keeps.differs (sym e);
        }

    -- where none does, none is shared
    one_named : ((n : ℕ) → n < length heads → KeepsResource tasks plan (its_task tasks item).resource item.job (head_at heads n) → ⊥) → (one other : PlanItem) → Has plan other → one.job ≡ item.job → (one.job ≡ other.job → ⊥) →
        (its_task tasks one).resource ≡ (its_task tasks other).resource → IsActive log t other → ⊥
    one_named none one other is e ne shared active =
        let b = begun_head other is (λ x. ne (e ∙ sym x)) active in
        let under : (its_task tasks other).resource ≡ (its_task tasks item).resource = sym shared ∙ ap (λ (j : Job). (task_of tasks j.task).resource) e in
        none b.0 b.1 (record {
          within = b.4;
          begun = b.3;
          differs = λ x. ne (e ∙ sym x ∙ ap (λ (i : PlanItem). i.job) b.2);
          under = ap (λ (i : PlanItem). (its_task tasks i).resource) b.2 ∙ under;
        })

    pub none_shared : (0 < (its_task tasks item).resource → (n : ℕ) → n < length heads → KeepsResource tasks plan (its_task tasks item).resource item.job (head_at heads n) → ⊥) → SharesResource tasks plan log t → ⊥
    none_shared none s =
        ⊎_elim
        (λ (a : tick log t ≡ Some s.one.job).
        let e = same_some s.one.job item.job (sym a ∙ named) in
        let P : ℕ → Type 0 = λ r. 0 < r in
        let held = subst P (ap (λ (j : Job). (task_of tasks j.task).resource) e) s.held in
        one_named (none held) s.one s.other s.has_other e s.differ s.shared s.active_other)
        (λ (a : tick log t ≡ Some s.one.job → ⊥).
        ⊎_elim
        (λ (b : tick log t ≡ Some s.other.job).
        let e = same_some s.other.job item.job (sym b ∙ named) in
        let P : ℕ → Type 0 = λ r. 0 < r in
        let held = subst P (s.shared ∙ ap (λ (j : Job). (task_of tasks j.task).resource) e) s.held in
        one_named (none held) s.other s.one s.has_one e (λ x. s.differ (sym x)) (sym s.shared) s.active_one)
        (λ (b : tick log t ≡ Some s.other.job → ⊥).
        let x = done_no log s.one.job t a in
        let y = done_no log s.other.job t b in
        let p = s.active_one.begun in
        let q = s.active_other.begun in
        s.differ (begun_before tasks plan legal log t f.within f.ruled s.one s.other s.has_one s.has_other s.held s.shared (omega arith) s.active_one.unfinished (omega arith) s.active_other.unfinished))
        (tick_or_not log s.other.job t))
        (tick_or_not log s.one.job t)

  -- the rule that is broken first where the tick goes to a job that is not the rule's
  pub unlawful_at : (job : Job) → tick log t ≡ Some job → (JobWaits plan log t job → ⊥) → IsFirstBroken tasks plan log (record { tick = t; rule = Unlawful })
  unlawful_at job named none = unlawful_first tasks plan legal log t f.within f.ruled (record { job = job; named = named; unwaiting = none })

  pub none_at : (job : Job) → tick log t ≡ Some job → Leads plan t (length heads) (head_at heads) None → IsFirstBroken tasks plan log (record { tick = t; rule = Unlawful })
  none_at job named none = unlawful_first tasks plan legal log t f.within f.ruled (none_waits job named none)

  pub idle_at : (n : ℕ) → IsLeastHead plan t (length heads) (head_at heads) n → t < length log → tick log t ≡ None → IsFirstBroken tasks plan log (record { tick = t; rule = Idle })
  idle_at n least below idle = idle_first tasks plan legal log t f.within f.ruled (idles_while n least below idle)

  -- the heads that keep the resource of a job's task from it
  abbrev pub Keeper : Job → ℕ → Type 0
  Keeper job n = KeepsResource tasks plan (task_of tasks job.task).resource job (head_at heads n)

  pub shared_at : (job : Job) → t < length log → tick log t ≡ Some job → JobWaits plan log t job → (0 < (task_of tasks job.task).resource) × ((n : ℕ) × (n < length heads) × Keeper job n) → IsFirstBroken tasks plan log (record { tick = t; rule = Shared })
  shared_at job below named w keeps =
      let item = w.0 in
      let N : Job → Type 0 = λ j. tick log t ≡ Some j in
      let K : Job → Type 0 = λ j. (0 < (task_of tasks j.task).resource) × ((n : ℕ) × (n < length heads) × Keeper j n) in
      let its = subst N (sym w.2) named in
      let k = subst K (sym w.2) keeps in
      shared_first tasks plan legal log t f.within f.ruled item w.1 w.3 its (shares_with below item w.1 w.3 its k.1.0 k.1.1 k.0 k.1.2)

  pub not_least_at : (job : Job) → t < length log → tick log t ≡ Some job → JobWaits plan log t job → (0 < (task_of tasks job.task).resource → (n : ℕ) → n < length heads → Keeper job n → ⊥) → (tick log t ≡ choice tasks plan log t → ⊥) → IsFirstBroken tasks plan log (record { tick = t; rule = NotLeast })
  not_least_at job below named w none leaves =
      let item = w.0 in
      let N : Job → Type 0 = λ j. tick log t ≡ Some j in
      let K : Job → Type 0 = λ j. 0 < (task_of tasks j.task).resource → (n : ℕ) → n < length heads → Keeper j n → ⊥ in
      let its = subst N (sym w.2) named in
      not_least_first tasks plan legal log t f.within f.ruled item w.1 w.3 its (none_shared below item w.1 w.3 its (subst K (sym w.2) none)) (record { below = below; elsewhere = leaves })

  -- a job's task is in the set where the job waits
  pub task_waits : (job : Job) → JobWaits plan log t job → (1 ≤ job.task) × (job.task ≤ length tasks)
  task_waits job w =
      let g = good_item tasks plan legal w.0 w.1 in
      let P : Job → Type 0 = λ j. (1 ≤ j.task) × (j.task ≤ length tasks) in
      subst P w.2 (g.from_one, g.in_set)

  -- the same of the plan's items as a slice
  abbrev pub Least : List PlanItem → ℕ → Type 0
  Least items n = IsLeastHead items t (length heads) (head_at heads) n

  least_some : (items : List PlanItem) (least : Option ℕ) (n : ℕ) → least ≡ Some n → Leads items t (length heads) (head_at heads) least → Least items n
  least_some items least n is leads = let P : Option ℕ → Type 0 = λ o. Leads items t (length heads) (head_at heads) o in subst P is leads

  pub runs_on : (items : List PlanItem) → items ≡ plan → (least : Option ℕ) (n : ℕ) → least ≡ Some n → Leads items t (length heads) (head_at heads) least → (to : ℕ) → t < to → to ≤ length log → IsQuiet items t to (length heads) (head_at heads) →
      (job : Job) → ((u : ℕ) → t ≤ u → u < to → tick log u ≡ Some job) → job ≡ (item_of items (head_at heads n)).job → (k : ℕ) → k ≡ min (to - t) ((item_of items (head_at heads n)).cost - (head_at heads n).had) → (head : Head) →
      ((head_at heads n).had + k < (item_of items (head_at heads n)).cost → head ≡ ran tasks items t k (head_at heads n)) →
      ((head_at heads n).had + k ≡ (item_of items (head_at heads n)).cost → Starts tasks items (item_of items (head_at heads n)).job.task ((head_at heads n).place + 1) head) →
      Follows tasks plan log (t + k) (set heads n head)
  runs_on items e least n is leads to after within quiet job goes same k ticks head on next =
      let P : List PlanItem → Type 0 = λ xs. Leads xs t (length heads) (head_at heads) least → IsQuiet xs t to (length heads) (head_at heads) → job ≡ (item_of xs (head_at heads n)).job → k ≡ min (to - t) ((item_of xs (head_at heads n)).cost - (head_at heads n).had) →
      ((head_at heads n).had + k < (item_of xs (head_at heads n)).cost → head ≡ ran tasks xs t k (head_at heads n)) →
      ((head_at heads n).had + k ≡ (item_of xs (head_at heads n)).cost → Starts tasks xs (item_of xs (head_at heads n)).job.task ((head_at heads n).place + 1) head) →
      Follows tasks plan log (t + k) (set heads n head) in
      let base : P plan = λ leads quiet same ticks on next.
      let l = least_some plan least n is leads in
      let short = l.waits.unfinished in
      follows_run n l to quiet k (omega arith) (omega arith) (omega arith) (omega arith) (λ u from below. goes u from (omega arith) ∙ ap (λ (j : Job). Some j) same) head on next in
      subst P (sym e) base leads quiet same ticks on next

  pub idles_on : (items : List PlanItem) → items ≡ plan → (least : Option ℕ) → least ≡ None → Leads items t (length heads) (head_at heads) least → (to : ℕ) → t < to → to ≤ length log → IsQuiet items t to (length heads) (head_at heads) →
      ((u : ℕ) → t ≤ u → u < to → tick log u ≡ None) → Follows tasks plan log to heads
  idles_on items e least is leads to after within quiet idle =
      let P : List PlanItem → Type 0 = λ xs. Leads xs t (length heads) (head_at heads) least → IsQuiet xs t to (length heads) (head_at heads) → Follows tasks plan log to heads in
      let base : P plan = λ leads quiet. let Q : Option ℕ → Type 0 = λ o. Leads plan t (length heads) (head_at heads) o in follows_idle to (omega arith) within idle (subst Q is leads) quiet in
      subst P (sym e) base leads quiet

  pub none_breaks : (items : List PlanItem) → items ≡ plan → (least : Option ℕ) → least ≡ None → Leads items t (length heads) (head_at heads) least → (job : Job) → tick log t ≡ Some job → IsFirstBroken tasks plan log (record { tick = t; rule = Unlawful })
  none_breaks items e least is leads job named =
      let P : List PlanItem → Type 0 = λ xs. Leads xs t (length heads) (head_at heads) least in
      let Q : Option ℕ → Type 0 = λ o. Leads plan t (length heads) (head_at heads) o in
      none_at job named (subst Q is (subst P e leads))

  pub idle_breaks : (items : List PlanItem) → items ≡ plan → (least : Option ℕ) (n : ℕ) → least ≡ Some n → Leads items t (length heads) (head_at heads) least → t < length log → tick log t ≡ None → IsFirstBroken tasks plan log (record { tick = t; rule = Idle })
  idle_breaks items e least n is leads below idle =
      let P : List PlanItem → Type 0 = λ xs. Least xs n in
      idle_at n (subst P e (least_some items least n is leads)) below idle

  -- a tick that goes to another job leaves the rule
  pub leaves : (items : List PlanItem) → items ≡ plan → (least : Option ℕ) (n : ℕ) → least ≡ Some n → Leads items t (length heads) (head_at heads) least → (job : Job) → tick log t ≡ Some job → (job ≡ (item_of items (head_at heads n)).job → ⊥) → tick log t ≡ choice tasks plan log t → ⊥
  leaves items e least n is leads job named ne rule =
      let P : List PlanItem → Type 0 = λ xs. Least xs n in
      let l = subst P e (least_some items least n is leads) in
      let chosen = rule_gives n l in
      let same = same_some job (item_of plan (head_at heads n)).job (sym named ∙ rule ∙ chosen) in
      ne (same ∙ ap (λ (xs : List PlanItem). (item_of xs (head_at heads n)).job) (sym e))

-- at first the heads are the tasks' first items
pub follows_first : (tasks : List Task) (plan : List PlanItem) → IsLegal tasks plan → (log : Ticks) (heads : List Head) → length heads ≡ length tasks → ((n : ℕ) → n < length heads → Starts tasks plan (suc n) 0 (head_at heads n)) → Follows tasks plan log 0 heads
follows_first tasks plan legal log heads long starts = record {
  within = omega arith;
  ruled = λ u lt. absurd (omega arith);
  long = long;
  are = λ n lt. head_first tasks plan legal log (suc n) (head_at heads n) (starts n lt);
  more = λ n lt within.
      let g = (good_item tasks plan legal (item_of plan (head_at heads n)) (has_place plan (head_at heads n).place within)).some in
      let fresh = (starts n lt).fresh in
      omega arith;
}

-- a log that follows the rule to its end breaks nothing
pub unbroken_at_end : (tasks : List Task) (plan : List PlanItem) → IsLegal tasks plan → (log : Ticks) (t : ℕ) (heads : List Head) → Follows tasks plan log t heads → length log ≤ t → IsUnbroken tasks plan log
unbroken_at_end tasks plan legal log t heads f all =
    let rule : IsEdfDdm tasks plan log = λ u lt. f.ruled u (omega arith) in
    let safe = rule_is_safe tasks plan legal log rule in
    record { lawful = safe.lawful; work_conserving = safe.work_conserving; exclusive = safe.exclusive; rule = rule }

-- and one that breaks something is not unbroken
pub broken_not : (tasks : List Task) (plan : List PlanItem) (log : Ticks) (t : ℕ) (rule : Rule) → Breaks rule tasks plan log t → IsUnbroken tasks plan log → ⊥
broken_not tasks plan log t Unlawful b u = b.unwaiting (u.lawful t b.job b.named)
broken_not tasks plan log t Idle b u = u.work_conserving t b.below b.idle b.item b.has b.waiting
broken_not tasks plan log t Shared b u = b.differ (u.exclusive t b.below b.one b.other b.has_one b.has_other b.held b.shared b.active_one b.active_other)
broken_not tasks plan log t NotLeast b u = b.elsewhere (u.rule t b.below)
