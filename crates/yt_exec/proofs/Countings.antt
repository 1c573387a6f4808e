-- The counts of a plan's jobs.
use Rattle.std.proofs.Common.{◌≡◌, ◌⊎◌, ℕ, zero, suc, ◌+◌, ◌<◌, ◌≤◌, List, [], ◌∷◌, ◌++◌, length, take, drop, get_or, set, replicate, refl, sym, ap, subst, ◌∙◌, inl, inr, ⊎_elim, arith, length-append, get_or-set_same, get_or-set_other}
use Rattle.std.proofs.lemmas.Bool.{cases_eq, cases_lt, cases_order}
use Rattle.std.proofs.lemmas.List.{take_more, drop_more, get_or_append_left, get_or_push, get_or_past, get_or_default, get_or-replicate, length-replicate}
use Rattle.std.proofs.Math.ListN.{length-set}
use Rattle.yt_set.specs.declared.task.Task.{Task}
use Rattle.yt_log.specs.declared.job.Job.{Job}
use Rattle.yt_log.specs.declared.plan.PlanItem.{PlanItem}
use Rattle.yt_log.specs.Tasks.{Has}
use Rattle.yt_log.specs.Plan.{its_task, jobs_of, IsNext, IsLegalAfter, IsLegal}
use Rattle.yt_log.proofs.Lemmas.{jobs_of-cons, good_item}
use Rattle.yt_log.proofs.Lemmas.{has_push, jobs_push_same, jobs_push_other, jobs_none}
use Rattle.yt_exec.specs.declared.counts.Count.{Count}
use Rattle.yt_exec.specs.Inside.Counting.{no_count, count_at, cost_at, left_at}

-- an item of a legal plan may follow those before it
record IsNextIn (tasks : List Task) (before xs : List PlanItem) (x : PlanItem) : Type 0 where
  from_one : 1 ≤ x.job.task
  in_set : x.job.task ≤ length tasks
  number : x.job.number ≡ 1 + (jobs_of x.job.task before + jobs_of x.job.task xs)
  order : (e : PlanItem) → Has before e ⊎ Has xs e → e.arrival ≤ x.arrival
  apart : (e : PlanItem) → Has before e ⊎ Has xs e → e.job.task ≡ x.job.task → e.arrival + (its_task tasks x).period ≤ x.arrival
  some : 1 ≤ x.cost
  most : x.cost ≤ (its_task tasks x).cost

next_after : (tasks : List Task) (before xs ys : List PlanItem) (x : PlanItem) → IsLegalAfter tasks before (xs ++ x ∷ ys) → IsNextIn tasks before xs x
next_after tasks before [] ys x legal =
    let next = legal.0 in
    let z = jobs_none x.job.task in
    record {
      from_one = next.from_one;
      in_set = next.in_set;
      number = let n = next.number in omega arith;
      order = λ e has. ⊎_elim (λ (h : Has before e). next.order e h) (λ (h : Has [] e). absurd h) has;
      apart = λ e has same. ⊎_elim (λ (h : Has before e). next.apart e h same) (λ (h : Has [] e). absurd h) has;
      some = next.some;
      most = next.most;
    }
next_after tasks before (y ∷ xs) ys x legal =
    let rest = next_after tasks (y ∷ before) xs ys x legal.1 in
    let a = jobs_of-cons x.job.task y before in
    let b = jobs_of-cons x.job.task y xs in
    let move : (e : PlanItem) → Has before e ⊎ Has (y ∷ xs) e → Has (y ∷ before) e ⊎ Has xs e = λ e has.
    ⊎_elim (λ (h : Has before e). inl (inr h)) (λ (h : Has (y ∷ xs) e). ⊎_elim (λ (q : e ≡ y). inl (inl q)) (λ (k : Has xs e). inr k) h) has in
    record {
      from_one = rest.from_one;
      in_set = rest.in_set;
      number = let n = rest.number in omega arith;
      order = λ e has. rest.order e (move e has);
      apart = λ e has same. rest.apart e (move e has) same;
      some = rest.some;
      most = rest.most;
    }

pub take_push : (plan : List PlanItem) (k : ℕ) (x : PlanItem) → k < length plan → get_or plan k x ≡ x → take (k + 1) plan ≡ take k plan ++ x ∷ []
take_push plan k x h e = take_more plan k x h ∙ ap (λ (y : PlanItem). take k plan ++ y ∷ []) e

pub drop_push : (plan : List PlanItem) (k : ℕ) (x : PlanItem) → k < length plan → get_or plan k x ≡ x → drop k plan ≡ x ∷ drop (k + 1) plan
drop_push plan k x h e = drop_more plan k x h ∙ ap (λ (y : PlanItem). y ∷ drop (k + 1) plan) e

pub split : (plan : List PlanItem) (k : ℕ) → plan ≡ take k plan ++ drop k plan
split [] zero = refl
split [] (suc k) = refl
split (x ∷ xs) zero = refl
split (x ∷ xs) (suc k) = ap (λ (ys : List PlanItem). x ∷ ys) (split xs k)

pub next_item : (tasks : List Task) (plan : List PlanItem) (k : ℕ) (x : PlanItem) → IsLegal tasks plan → k < length plan → get_or plan k x ≡ x → IsNext tasks (take k plan) x
next_item tasks plan k x legal h e =
    let whole : plan ≡ take k plan ++ x ∷ drop (k + 1) plan = split plan k ∙ ap (λ (ys : List PlanItem). take k plan ++ ys) (drop_push plan k x h e) in
    let n = next_after tasks [] (take k plan) (drop (k + 1) plan) x (subst (λ (ys : List PlanItem). IsLegal tasks ys) whole legal) in
    let z = jobs_none x.job.task in
    record {
      from_one = n.from_one;
      in_set = n.in_set;
      number = let m = n.number in omega arith;
      order = λ e has. n.order e (inr has);
      apart = λ e has same. n.apart e (inr has) same;
      some = n.some;
      most = n.most;
    }

pub has_front_of : (xs ys : List PlanItem) (i : PlanItem) → Has xs i → Has (xs ++ ys) i
has_front_of [] ys i has = absurd has
has_front_of (x ∷ xs) ys i has = ⊎_elim (λ (e : i ≡ x). inl e) (λ (h : Has xs i). inr (has_front_of xs ys i h)) has

pub has_back_of : (xs ys : List PlanItem) (i : PlanItem) → Has ys i → Has (xs ++ ys) i
has_back_of [] ys i has = has
has_back_of (x ∷ xs) ys i has = inr (has_back_of xs ys i has)

pub has_taken : (plan : List PlanItem) (k : ℕ) (i : PlanItem) → Has (take k plan) i → Has plan i
has_taken plan k i has = subst (λ (ys : List PlanItem). Has ys i) (sym (split plan k)) (has_front_of (take k plan) (drop k plan) i has)

pub has_dropped : (plan : List PlanItem) (k : ℕ) (i : PlanItem) → Has (drop k plan) i → Has plan i
has_dropped plan k i has = subst (λ (ys : List PlanItem). Has ys i) (sym (split plan k)) (has_back_of (take k plan) (drop k plan) i has)

-- of a legal plan no item arrives before those in front of it
order_after : (tasks : List Task) (before xs : List PlanItem) → IsLegalAfter tasks before xs → (e i : PlanItem) → Has before e → Has xs i → e.arrival ≤ i.arrival
order_after tasks before [] legal e i early late = absurd late
order_after tasks before (x ∷ xs) legal e i early late =
    ⊎_elim
    (λ (q : i ≡ x). let o = legal.0.order e early in let a : i.arrival ≡ x.arrival = ap (λ (y : PlanItem). y.arrival) q in omega arith)
    (λ (h : Has xs i). order_after tasks (x ∷ before) xs legal.1 e i (inr early) h)
    late

rest_legal : (tasks : List Task) (before xs ys : List PlanItem) → IsLegalAfter tasks before (xs ++ ys) → (b : List PlanItem) × IsLegalAfter tasks b ys
rest_legal tasks before [] ys legal = (before, legal)
rest_legal tasks before (x ∷ xs) ys legal = rest_legal tasks (x ∷ before) xs ys legal.1

pub later_items : (tasks : List Task) (plan : List PlanItem) (k : ℕ) (x i : PlanItem) → IsLegal tasks plan → k < length plan → get_or plan k x ≡ x → Has (drop k plan) i → x.arrival ≤ i.arrival
later_items tasks plan k x i legal h e has =
    let d = drop_push plan k x h e in
    let r = rest_legal tasks [] (take k plan) (drop k plan) (subst (λ (ys : List PlanItem). IsLegal tasks ys) (split plan k) legal) in
    let rest : IsLegalAfter tasks r.0 (x ∷ drop (k + 1) plan) = subst (λ (ys : List PlanItem). IsLegalAfter tasks r.0 ys) d r.1 in
    ⊎_elim
    (λ (q : i ≡ x). let a : i.arrival ≡ x.arrival = ap (λ (y : PlanItem). y.arrival) q in omega arith)
    (λ (k' : Has (drop (k + 1) plan) i). order_after tasks (x ∷ r.0) (drop (k + 1) plan) rest.1 x i (inl refl) k')
    (subst (λ (ys : List PlanItem). Has ys i) d has)

-- so far the rows hold the counts of these items
pub record IsCounted (tasks : List Task) (items : List PlanItem) (rows : List (List Count)) : Type 0 where
  pub long : length rows ≡ length tasks + 1
  pub counts : (task : ℕ) → task ≤ length tasks → length (get_or rows task []) ≡ 1 + jobs_of task items
  pub told : (item : PlanItem) → Has items item → cost_at rows item.job ≡ item.cost
  pub idle : (job : Job) → left_at rows job ≡ 0

pub counted_start : (tasks : List Task) (rows : List (List Count)) → rows ≡ replicate (length tasks + 1) (no_count ∷ []) → IsCounted tasks [] rows
counted_start tasks rows e =
    let n = length tasks + 1 in
    let none : List Count = no_count ∷ [] in
    let row : (t : ℕ) → t < n → get_or rows t [] ≡ none = λ t h. ap (λ (rs : List (List Count)). get_or rs t []) e ∙ get_or-replicate n t none [] h in
    record {
      long = ap length e ∙ length-replicate n none;
      counts = λ t h. let l = ap length (row t (omega arith)) in let z = jobs_none t in omega arith;
      told = λ i has. absurd has;
      idle = λ job. ⊎_elim
          (λ (h : job.task < n). ap (λ (r : List Count). (get_or r job.number no_count).left) (row job.task h) ∙ none_at job.number)
          (λ (h : n ≤ job.task). let p = get_or_past rows job.task [] (let l = ap length e ∙ length-replicate n none in omega arith) in ap (λ (r : List Count). (get_or r job.number no_count).left) p ∙ empty_at job.number)
          (cases_lt job.task n);
    }
  where
    none_at : (m : ℕ) → (get_or (no_count ∷ []) m no_count).left ≡ 0
    none_at zero = refl
    none_at (suc m) = ap (λ (c : Count). c.left) (get_or_past (no_count ∷ []) (suc m) no_count (omega arith))

    empty_at : (m : ℕ) → (get_or [] m no_count).left ≡ 0
    empty_at m = ap (λ (c : Count). c.left) (get_or_past [] m no_count (omega arith))

-- one item more
module _ (tasks : List Task) (items : List PlanItem) (rows : List (List Count)) (counted : IsCounted tasks items rows) (x : PlanItem) (next : IsNext tasks items x)
    (some : (i : PlanItem) → Has items i → 1 ≤ i.cost) where
  t : ℕ
  t = x.job.task

  row : List Count
  row = get_or rows x.job.task []

  one : Count
  one = record { cost = x.cost; left = 0 }

  more : List (List Count)
  more = set rows x.job.task (get_or rows x.job.task [] ++ (record { cost = x.cost; left = 0 }) ∷ [])

  inside : x.job.task < length rows
  inside = let l = counted.long in let i = next.in_set in omega arith

  long_row : length row ≡ x.job.number
  unfolding row
  long_row = let l = counted.counts x.job.task next.in_set in let n = next.number in omega arith

  row_same : get_or more x.job.task [] ≡ row ++ one ∷ []
  unfolding more row one
  row_same = get_or-set_same rows x.job.task (get_or rows x.job.task [] ++ (record { cost = x.cost; left = 0 }) ∷ []) [] inside

  row_other : (task : ℕ) → (task ≡ x.job.task → ⊥) → get_or more task [] ≡ get_or rows task []
  unfolding more
  row_other task ne = get_or-set_other rows x.job.task task (get_or rows x.job.task [] ++ (record { cost = x.cost; left = 0 }) ∷ []) [] ne

  -- a count that was there stays
  stays : (job : Job) → (job.task ≡ x.job.task → job.number < length row) → count_at more job ≡ count_at rows job
  unfolding row
  stays job before =
      ⊎_elim
      (λ (e : job.task ≡ x.job.task).
      ap (λ (m : ℕ). get_or (get_or more m []) job.number no_count) e
      ∙ ap (λ (r : List Count). get_or r job.number no_count) row_same
      ∙ get_or_append_left (get_or rows x.job.task []) (one ∷ []) no_count job.number (before e)
      ∙ ap (λ (m : ℕ). get_or (get_or rows m []) job.number no_count) (sym e))
      (λ (ne : job.task ≡ x.job.task → ⊥). ap (λ (r : List Count). get_or r job.number no_count) (row_other job.task ne))
      (cases_eq job.task x.job.task)

  new_count : (job : Job) → job.task ≡ x.job.task → job.number ≡ length row → count_at more job ≡ one
  new_count job e n =
      ap (λ (m : ℕ). get_or (get_or more m []) job.number no_count) e
      ∙ ap (λ (r : List Count). get_or r job.number no_count) row_same
      ∙ get_or_push row one no_count job.number (sym n)

  past_count : (job : Job) → job.task ≡ x.job.task → length row < job.number → count_at more job ≡ no_count
  past_count job e n =
      ap (λ (m : ℕ). get_or (get_or more m []) job.number no_count) e
      ∙ ap (λ (r : List Count). get_or r job.number no_count) row_same
      ∙ get_or_past (row ++ one ∷ []) job.number no_count (let l = length-append row (one ∷ []) in omega arith)

  -- a job with a cost has a count
  was_there : (job : Job) → 1 ≤ cost_at rows job → job.task ≡ x.job.task → job.number < length row
  unfolding row
  was_there job some e =
      ⊎_elim
      (λ (h : job.number < length (get_or rows x.job.task [])). h)
      (λ (h : length (get_or rows x.job.task []) ≤ job.number).
      let p : count_at rows job ≡ no_count = ap (λ (m : ℕ). get_or (get_or rows m []) job.number no_count) e ∙ get_or_past (get_or rows x.job.task []) job.number no_count h in
      let c : cost_at rows job ≡ 0 = ap (λ (k : Count). k.cost) p in
      absurd (omega arith))
      (cases_lt job.number (length (get_or rows x.job.task [])))

  more_rows : (task : ℕ) → task ≤ length tasks → length (get_or more task []) ≡ 1 + jobs_of task (items ++ x ∷ [])
  unfolding row
  more_rows task h =
      let c = counted.counts task h in
      ⊎_elim
      (λ (e : task ≡ x.job.task).
      let l = length-append (get_or rows x.job.task []) (one ∷ []) in
      let r : length (get_or more task []) ≡ length (get_or rows x.job.task [] ++ one ∷ []) = ap (λ (m : ℕ). length (get_or more m [])) e ∙ ap length row_same in
      let s : length (get_or rows task []) ≡ length (get_or rows x.job.task []) = ap (λ (m : ℕ). length (get_or rows m [])) e in
      let j = jobs_push_same task items x (sym e) in
      omega arith)
      (λ (ne : task ≡ x.job.task → ⊥).
      let r = ap length (row_other task ne) in
      let j = jobs_push_other task items x (λ q. ne (sym q)) in
      omega arith)
      (cases_eq task x.job.task)

  more_told : (i : PlanItem) → Has (items ++ x ∷ []) i → cost_at more i.job ≡ i.cost
  unfolding one
  more_told i has =
      ⊎_elim
      (λ (h : Has items i).
      let c = counted.told i h in
      let s = some i h in
      ap (λ (k : Count). k.cost) (stays i.job (was_there i.job (omega arith))) ∙ c)
      (λ (q : i ≡ x).
      let P : PlanItem → Type 0 = λ y. cost_at more y.job ≡ y.cost in
      subst P (sym q) (ap (λ (k : Count). k.cost) (new_count x.job refl (sym long_row))))
      (has_push items x i has)

  more_idle : (job : Job) → left_at more job ≡ 0
  unfolding one
  more_idle job =
      ⊎_elim
      (λ (e : job.task ≡ x.job.task). ⊎_elim
      (λ (n : job.number ≡ length row). ap (λ (k : Count). k.left) (new_count job e n))
      (λ (o : (job.number < length row) ⊎ (length row < job.number)). ⊎_elim
      (λ (l : job.number < length row). ap (λ (k : Count). k.left) (stays job (λ q. l)) ∙ counted.idle job)
      (λ (l : length row < job.number). ap (λ (k : Count). k.left) (past_count job e l))
      o)
      (cases_order job.number (length row)))
      (λ (ne : job.task ≡ x.job.task → ⊥). ap (λ (k : Count). k.left) (stays job (λ q. absurd (ne q))) ∙ counted.idle job)
      (cases_eq job.task x.job.task)

  pub counted_more : IsCounted tasks (items ++ x ∷ []) (set rows x.job.task (get_or rows x.job.task [] ++ (record { cost = x.cost; left = 0 }) ∷ []))
  unfolding more
  counted_more = record {
    long = length-set rows x.job.task (get_or rows x.job.task [] ++ (record { cost = x.cost; left = 0 }) ∷ []) ∙ counted.long;
    counts = more_rows;
    told = more_told;
    idle = more_idle;
  }

-- the item that a loop over a plan's items has come to
module _ (tasks : List Task) (plan items : List PlanItem) (k : ℕ) (d : PlanItem) (rows : List (List Count)) (legal : IsLegal tasks plan) (same : items ≡ plan) (inside : k < length items)
    (counted : IsCounted tasks (take k plan) rows) where
  here : get_or plan k (get_or items k d) ≡ get_or items k d
  here =
      let l = ap length same in
      get_or_default plan k (get_or items k d) d (omega arith) ∙ ap (λ (ys : List PlanItem). get_or ys k d) (sym same)

  its_next : IsNext tasks (take k plan) (get_or items k d)
  its_next = let l = ap length same in next_item tasks plan k (get_or items k d) legal (omega arith) here

  pub its_row : (get_or items k d).job.task < length rows
  its_row = let l = counted.long in let i = its_next.in_set in omega arith

  pub one_counted : (old new : List Count) → old ≡ get_or rows (get_or items k d).job.task old → new ≡ old ++ (record { cost = (get_or items k d).cost; left = 0 }) ∷ [] →
      IsCounted tasks (take (k + 1) plan) (set rows (get_or items k d).job.task new)
  one_counted old new is more =
      let x = get_or items k d in
      let l = ap length same in
      let t = x.job.task in
      let row : new ≡ get_or rows t [] ++ (record { cost = x.cost; left = 0 }) ∷ [] =
      more ∙ ap (λ (r : List Count). r ++ (record { cost = x.cost; left = 0 }) ∷ []) (is ∙ get_or_default rows t old [] its_row) in
      let c = counted_more tasks (take k plan) rows counted x its_next (λ i has. (good_item tasks plan legal i (has_taken plan k i has)).some) in
      subst (λ (r : List Count). IsCounted tasks (take (k + 1) plan) (set rows t r)) (sym row)
      (subst (λ (ys : List PlanItem). IsCounted tasks ys (set rows t (get_or rows t [] ++ (record { cost = x.cost; left = 0 }) ∷ []))) (sym (take_push plan k x (omega arith) here)) c)
