-- A plan with another cost of a job.
use Rattle.std.proofs.Common.{◌≡◌, ◌⊎◌, ℕ, ◌+◌, ◌≤◌, true, false, cond, eqb, List, [], ◌∷◌, length, refl, sym, ap, ap₂, subst, ◌∙◌, inl, inr, ⊎_elim, arith}
use Rattle.std.proofs.lemmas.Bool.{cases_Bool, cond-true, cond-false, false_from_ne_true}
use Rattle.yt_set.specs.declared.task.Task.{Task}
use Rattle.yt_log.specs.declared.job.Job.{Job}
use Rattle.yt_log.specs.declared.plan.PlanItem.{PlanItem}
use Rattle.yt_log.specs.Tasks.{Has}
use Rattle.yt_log.specs.Plan.{same_job, its_task, jobs_of, IsNext, IsLegalAfter, IsLegal}
use Rattle.yt_log.specs.Ticks.{Ticks, done}
use Rattle.yt_log.specs.Laws.{AreSameSoFar, IsSameSoFar}
use Rattle.yt_log.proofs.Lemmas.{cases_job, same_job_true, same_job_refl}
use Rattle.yt_log.proofs.Lemmas.{jobs_of-cons}
use Rattle.yt_log.specs.declared.last_jobs.LastJob.{LastJob}
use Rattle.yt_exec.specs.Bodies.{task_in}
use Rattle.yt_exec.specs.StandsFor.{with_cost, last_release}

pub changed : Job → ℕ → PlanItem → PlanItem
changed job c i = cond (same_job i.job job) (record i { cost = c }) i

pub changed_job : (job : Job) (c : ℕ) (i : PlanItem) → (changed job c i).job ≡ i.job
unfolding changed
changed_job job c i =
    let P : PlanItem → Type 0 = λ x. x.job ≡ i.job in
    ⊎_elim
    (λ (e : same_job i.job job ≡ true). subst P (sym (cond-true (same_job i.job job) (record i { cost = c }) i e)) refl)
    (λ (e : same_job i.job job ≡ false). subst P (sym (cond-false (same_job i.job job) (record i { cost = c }) i e)) refl)
    (cases_Bool (same_job i.job job))

pub changed_arrival : (job : Job) (c : ℕ) (i : PlanItem) → (changed job c i).arrival ≡ i.arrival
unfolding changed
changed_arrival job c i =
    let P : PlanItem → Type 0 = λ x. x.arrival ≡ i.arrival in
    ⊎_elim
    (λ (e : same_job i.job job ≡ true). subst P (sym (cond-true (same_job i.job job) (record i { cost = c }) i e)) refl)
    (λ (e : same_job i.job job ≡ false). subst P (sym (cond-false (same_job i.job job) (record i { cost = c }) i e)) refl)
    (cases_Bool (same_job i.job job))

pub changed_yes : (job : Job) (c : ℕ) (i : PlanItem) → i.job ≡ job → (changed job c i).cost ≡ c
unfolding changed
changed_yes job c i e =
    let s : same_job i.job job ≡ true = subst (λ (j : Job). same_job i.job j ≡ true) e (same_job_refl i.job) in
    ap (λ (x : PlanItem). x.cost) (cond-true (same_job i.job job) (record i { cost = c }) i s)

pub changed_is : (job : Job) (c : ℕ) (i : PlanItem) → i.job ≡ job → changed job c i ≡ record i { cost = c }
unfolding changed
changed_is job c i e = cond-true (same_job i.job job) (record i { cost = c }) i (subst (λ (j : Job). same_job i.job j ≡ true) e (same_job_refl i.job))

pub changed_no : (job : Job) (c : ℕ) (i : PlanItem) → (i.job ≡ job → ⊥) → changed job c i ≡ i
unfolding changed
changed_no job c i ne =
    cond-false (same_job i.job job) (record i { cost = c }) i (false_from_ne_true (same_job i.job job) (λ h. ne (same_job_true i.job job h)))

-- an item is of the job or not
pub job_or_not : (i : PlanItem) (job : Job) → (i.job ≡ job) ⊎ (i.job ≡ job → ⊥)
job_or_not i job = cases_job i.job job

pub with_cost-cons : (job : Job) (c : ℕ) (x : PlanItem) (xs : List PlanItem) → with_cost job c (x ∷ xs) ≡ changed job c x ∷ with_cost job c xs
unfolding with_cost changed
with_cost-cons job c x xs = refl

pub has_with : (job : Job) (c : ℕ) (xs : List PlanItem) (i : PlanItem) → Has (with_cost job c xs) i → (k : PlanItem) × (Has xs k) × (i ≡ changed job c k)
unfolding with_cost changed
has_with job c [] i has = absurd has
has_with job c (x ∷ xs) i has =
    ⊎_elim
    (λ (e : i ≡ changed job c x). (x, inl refl, e))
    (λ (h : Has (with_cost job c xs) i). let r = has_with job c xs i h in (r.0, inr r.1, r.2))
    has

pub has_from : (job : Job) (c : ℕ) (xs : List PlanItem) (i : PlanItem) → Has xs i → Has (with_cost job c xs) (changed job c i)
unfolding with_cost changed
has_from job c [] i has = absurd has
has_from job c (x ∷ xs) i has =
    ⊎_elim (λ (e : i ≡ x). inl (ap (changed job c) e)) (λ (h : Has xs i). inr (has_from job c xs i h)) has

-- nothing but the cost changes
jobs_with : (job : Job) (c n : ℕ) (xs : List PlanItem) → jobs_of n (with_cost job c xs) ≡ jobs_of n xs
unfolding with_cost jobs_of
jobs_with job c n [] = refl
jobs_with job c n (x ∷ xs) =
    let e : (changed job c x).job.task ≡ x.job.task = ap (λ (j : Job). j.task) (changed_job job c x) in
    let f = with_cost-cons job c x xs in
    ap (jobs_of n) f ∙ jobs_of-cons n (changed job c x) (with_cost job c xs) ∙
    ap₂ (λ (t r : ℕ). cond (eqb t n) 1 0 + r) e (jobs_with job c n xs) ∙ sym (jobs_of-cons n x xs)

pub releases_with : (job : Job) (c n : ℕ) (last : LastJob) (xs : List PlanItem) → last_release last n (with_cost job c xs) ≡ last_release last n xs
unfolding with_cost last_release
releases_with job c n last [] = refl
releases_with job c n last (x ∷ xs) =
    let made : Job → ℕ → LastJob = λ j a. cond (eqb j.task n) (record { number = j.number; arrival = a }) last in
    let e : made (changed job c x).job (changed job c x).arrival ≡ made x.job x.arrival = ap₂ made (changed_job job c x) (changed_arrival job c x) in
    let f : last_release last n (with_cost job c (x ∷ xs)) ≡ last_release (made (changed job c x).job (changed job c x).arrival) n (with_cost job c xs) = ap (last_release last n) (with_cost-cons job c x xs) in
    f ∙ ap (λ (r : LastJob). last_release r n (with_cost job c xs)) e ∙ releases_with job c n (made x.job x.arrival) xs

module _ (tasks : List Task) (job : Job) (c : ℕ) (some : 1 ≤ c) (most : c ≤ (task_in tasks job).cost) where
  changed_some : (i : PlanItem) → 1 ≤ i.cost → 1 ≤ (changed job c i).cost
  changed_some i h =
      ⊎_elim
      (λ (e : i.job ≡ job). let k = changed_yes job c i e in omega arith)
      (λ (ne : i.job ≡ job → ⊥). subst (λ (x : PlanItem). 1 ≤ x.cost) (sym (changed_no job c i ne)) h)
      (job_or_not i job)

  changed_most : (i : PlanItem) → i.cost ≤ (its_task tasks i).cost → (changed job c i).cost ≤ (its_task tasks i).cost
  changed_most i h =
      ⊎_elim
      (λ (e : i.job ≡ job). let k = changed_yes job c i e in let t : (its_task tasks i).cost ≡ (task_in tasks job).cost = ap (λ (j : Job). (task_in tasks j).cost) e in omega arith)
      (λ (ne : i.job ≡ job → ⊥). subst (λ (x : PlanItem). x.cost ≤ (its_task tasks i).cost) (sym (changed_no job c i ne)) h)
      (job_or_not i job)

  next_with : (before : List PlanItem) (x : PlanItem) → IsNext tasks before x → IsNext tasks (with_cost job c before) (changed job c x)
  next_with before x next =
      let y = changed job c x in
      let j = changed_job job c x in
      let a = changed_arrival job c x in
      let t : y.job.task ≡ x.job.task = ap (λ (k : Job). k.task) j in
      let n : y.job.number ≡ x.job.number = ap (λ (k : Job). k.number) j in
      let its : its_task tasks y ≡ its_task tasks x = ap (λ (k : Job). task_in tasks k) j in
      record {
        from_one = let f = next.from_one in omega arith;
        in_set = let f = next.in_set in omega arith;
        number =
            let w = jobs_with job c x.job.task before in
            let u : jobs_of y.job.task (with_cost job c before) ≡ jobs_of x.job.task (with_cost job c before) = ap (λ (m : ℕ). jobs_of m (with_cost job c before)) t in
            let f = next.number in
            omega arith;
        order = λ e has.
            let w = has_with job c before e has in
            let o = next.order w.0 w.1 in
            let q : e.arrival ≡ w.0.arrival = ap (λ (k : PlanItem). k.arrival) w.2 ∙ changed_arrival job c w.0 in
            omega arith;
        apart = λ e has same.
            let w = has_with job c before e has in
            let q : e.arrival ≡ w.0.arrival = ap (λ (k : PlanItem). k.arrival) w.2 ∙ changed_arrival job c w.0 in
            let r : e.job.task ≡ w.0.job.task = ap (λ (k : PlanItem). k.job.task) w.2 ∙ ap (λ (k : Job). k.task) (changed_job job c w.0) in
            let o = next.apart w.0 w.1 (sym r ∙ same ∙ t) in
            let p : (its_task tasks y).period ≡ (its_task tasks x).period = ap (λ (k : Task). k.period) its in
            omega arith;
        some = changed_some x next.some;
        most = let m = changed_most x next.most in let p : (its_task tasks y).cost ≡ (its_task tasks x).cost = ap (λ (k : Task). k.cost) its in omega arith;
      }

  legal_after : (before xs : List PlanItem) → IsLegalAfter tasks before xs → IsLegalAfter tasks (with_cost job c before) (with_cost job c xs)
  unfolding with_cost changed
  legal_after before [] legal = tt
  legal_after before (x ∷ xs) legal = (next_with before x legal.0, legal_after (x ∷ before) xs legal.1)

  pub legal_with : (plan : List PlanItem) → IsLegal tasks plan → IsLegal tasks (with_cost job c plan)
  unfolding with_cost
  legal_with plan legal = legal_after [] plan legal

  like_one : (log : Ticks) (i : PlanItem) → done log job (length log) ≡ 0 → 1 ≤ i.cost → IsSameSoFar log i (changed job c i)
  like_one log i none h = record {
    job = sym (changed_job job c i);
    arrival = sym (changed_arrival job c i);
    cost = ⊎_elim
        (λ (e : i.job ≡ job).
        let mine : done log i.job (length log) ≡ 0 = ap (λ (j : Job). done log j (length log)) e ∙ none in
        let its : done log (changed job c i).job (length log) ≡ 0 = ap (λ (j : Job). done log j (length log)) (changed_job job c i) ∙ mine in
        let cost = changed_some i h in
        inr (omega arith, omega arith))
        (λ (ne : i.job ≡ job → ⊥). inl (ap (λ (x : PlanItem). x.cost) (sym (changed_no job c i ne))))
        (job_or_not i job);
  }

  pub like_with : (log : Ticks) (xs : List PlanItem) → done log job (length log) ≡ 0 → ((i : PlanItem) → Has xs i → 1 ≤ i.cost) → AreSameSoFar log xs (with_cost job c xs)
  unfolding with_cost changed
  like_with log [] none h = tt
  like_with log (x ∷ xs) none h = (like_one log x none (h x (inl refl)), like_with log xs none (λ i has. h i (inr has)))

-- where the job's cost is this already, nothing changes
pub with_same : (job : Job) (c : ℕ) (xs : List PlanItem) → ((i : PlanItem) → Has xs i → i.job ≡ job → i.cost ≡ c) → with_cost job c xs ≡ xs
unfolding with_cost
with_same job c [] h = refl
with_same job c (x ∷ xs) h =
    let made : ℕ → PlanItem = λ k. record { job = x.job; arrival = x.arrival; cost = k } in
    let e : changed job c x ≡ x = ⊎_elim
    (λ (e : x.job ≡ job). changed_is job c x e ∙ ap made (sym (h x (inl refl) e)))
    (λ (ne : x.job ≡ job → ⊥). changed_no job c x ne)
    (job_or_not x job) in
    with_cost-cons job c x xs ∙ ap₂ (λ (i : PlanItem) (is : List PlanItem). i ∷ is) e (with_same job c xs (λ i has. h i (inr has)))
