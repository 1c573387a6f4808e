-- How a play goes on.
use Rattle.std.proofs.Common.{◌≡◌, ℕ, ◌+◌, ◌<◌, ◌≤◌, Bool, true, false, cond, eqb, List, [], ◌∷◌, ◌++◌, length, take, drop, get_or, Some, refl, sym, ap, subst, ◌∙◌, inl, inr, ⊎_elim, arith, eq-eqb, ne_eqb}
use Rattle.std.proofs.lemmas.Bool.{cases_Bool, cases_eq, cases_lt, cond-true, cond-false, both_ways}
use Rattle.std.proofs.lemmas.List.{get_or_default, drop_all}
use Rattle.std.proofs.lemmas.Option.{get_or_from_slice_get}
use Rattle.std.specs.List.{Contains}
use Rattle.std.specs.Prelude.{Result, Ok, Err, OnOk, slice_get}
use Rattle.yt_set.specs.declared.task.Task.{Task}
use Rattle.yt_log.specs.declared.job.Job.{Job}
use Rattle.yt_log.specs.declared.plan.PlanItem.{PlanItem}
use Rattle.yt_log.specs.Tasks.{Has}
use Rattle.yt_log.specs.Plan.{IsNext, IsLegal}
use Rattle.yt_log.specs.Ticks.{Ticks}
use Rattle.yt_log.specs.EdfDdm.{IsEdfDdm, edf_ddm}
use Rattle.yt_log.specs.Laws.{IsSafe}
use Rattle.yt_log.proofs.Lemmas.{rule_is_safe}
use Rattle.yt_log.proofs.Lemmas.{rule_is_online}
use Rattle.yt_log.proofs.Lemmas.{rule_makes_logs, rule_is_determined}
use Rattle.yt_ready.specs.declared.entry.Entry.{Entry}
use Rattle.yt_order.specs.Falling.{HasOneMore}
use Rattle.yt_exec.specs.declared.counts.Count.{Count}
use Rattle.yt_log.specs.declared.last_jobs.LastJob.{LastJob}
use Rattle.yt_exec.specs.declared.executive.Ticked.{Ticked}
use Rattle.yt_exec.specs.declared.executive.Ticked.TheVariants.{Idle, Ran}
use Rattle.yt_exec.specs.Bodies.{IsKnown, task_in, Runs}
use Rattle.yt_exec.specs.Moments.{Moment, no_release, release_of, job_in, released, start, IsNextJob}
use Rattle.yt_exec.specs.StandsFor.{last_release, StandsFor, IsBodyOf, GoesOnWith, GoesOnTo, IsTick, item_at, job_run, plan_after, with_cost}
use Rattle.yt_exec.specs.Inside.Counting.{cost_at, left_at, Leaves, MayBegin, IsPlaying}
use Rattle.yt_exec.proofs.Changes.{with_same}
use Rattle.yt_exec.proofs.Countings.{take_push, drop_push, split, next_item, later_items, has_taken, has_dropped}
use Rattle.yt_exec.proofs.Readings.{none_in}
use Rattle.yt_exec.proofs.Releases.{last_number, last_item}

-- what `begin` and `step` leave of the counts
abbrev pub Begun : List (List Count) → Job → List (List Count) → Type 0
Begun old job new = Leaves old new job (cost_at old job)

abbrev pub Stepped : List (List Count) → Job → List (List Count) → Type 0
Stepped old job new = (left_at old job ≡ left_at new job + 1) × Leaves old new job (left_at new job)

module _ (tasks : List Task) (plan : List PlanItem) (legal : IsLegal tasks plan) (m : Moment) (rows : List (List Count)) (k : ℕ) (log : Ticks) (p : IsPlaying tasks plan m rows k log) where
  module _ (x : PlanItem) (inside : k < length plan) (is : get_or plan k x ≡ x) where
    next : IsNext m.tasks (take k plan) x
    next = subst (λ (ts : List Task). IsNext ts (take k plan) x) (sym p.set) (next_item tasks plan k x legal inside is)

    pub item_known : IsKnown m.tasks x.job
    item_known = (next.from_one, next.in_set)

    module _ (arrived : x.arrival ≤ m.clock) where
      pub item_may_come : IsNextJob m x.job
      item_may_come =
          let t = x.job.task in
          let r = p.stands.releases t next.from_one next.in_set in
          let a : (release_of m.releases t).number ≡ (last_release no_release t (take k plan)).number = ap (λ (y : LastJob). y.number) r in
          let b : (release_of m.releases t).arrival ≡ (last_release no_release t (take k plan)).arrival = ap (λ (y : LastJob). y.arrival) r in
          record {
            number = let n = last_number m.tasks (take k plan) p.legal t in let q = next.number in omega arith;
            apart = λ some.
                let l = last_item t (take k plan) (omega arith) in
                let e = l.0 in
                let q = next.apart e l.1 l.2 in
                let w = l.3 in
                omega arith;
          }

      arrives : m.clock ≡ x.arrival
      arrives = let l = p.later x (subst (λ (ys : List PlanItem). Has ys x) (sym (drop_push plan k x inside is)) (inl refl)) in omega arith

      item_is : item_at m.clock x.job x.cost ≡ x
      item_is = let made : ℕ → PlanItem = λ a. record { job = x.job; arrival = a; cost = x.cost } in ap made arrives

      in_plan : Has plan x
      in_plan = has_dropped plan k x (subst (λ (ys : List PlanItem). Has ys x) (sym (drop_push plan k x inside is)) (inl refl))

      -- an item is released
      pub playing_release : (new : Moment) → new.tasks ≡ m.tasks → HasOneMore m.entries (released m.tasks m.clock x.job) new.entries → new.spare + 1 ≡ m.spare → new.clock ≡ m.clock → GoesOnWith m new x.job →
          IsPlaying tasks plan new rows (k + 1) log
      playing_release new set put spare clock goes =
          let g = goes (left_at rows) (take k plan) log p.legal p.stands x.cost next.some next.most in
          let more : take k plan ++ item_at m.clock x.job x.cost ∷ [] ≡ take (k + 1) plan = ap (λ (y : PlanItem). take k plan ++ y ∷ []) item_is ∙ sym (take_push plan k x inside is) in
          let told = p.told x in_plan in
          let some = next.some in
          let most : x.cost ≤ (task_in tasks x.job).cost = subst (λ (ts : List Task). x.cost ≤ (task_in ts x.job).cost) p.set next.most in
          record {
            inside = omega arith;
            set = set ∙ p.set;
            legal = subst (λ (ys : List PlanItem). IsLegal new.tasks ys) more g.legal;
            stands = subst (λ (ys : List PlanItem). StandsFor new (left_at rows) ys log) more g.stands;
            rule = subst (λ (ys : List PlanItem). IsEdfDdm new.tasks ys log) more (g.rule (subst (λ (ts : List Task). IsEdfDdm ts (take k plan) log) (sym set) p.rule));
            body = record {
              set = p.body.set ∙ sym set;
              begun = λ e has begun. ⊎_elim
                  (λ (q : e ≡ released m.tasks m.clock x.job). let f : e.begun ≡ false = ap (λ (y : Entry). y.begun) q in absurd (both_ways e.begun f begun))
                  (λ (h : Contains m.entries e). p.body.begun e h begun)
                  (put.only e has);
              only = λ j busy. let o = p.body.only j busy in (o.0, put.kept o.0 o.1, o.2, o.3);
              waiting = λ e has not. ⊎_elim
                  (λ (q : e ≡ released m.tasks m.clock x.job). subst (λ (j : Job). MayBegin tasks rows j) (sym (ap job_in q)) (omega arith, omega arith))
                  (λ (h : Contains m.entries e). p.body.waiting e h not)
                  (put.only e has);
            };
            told = p.told;
            room = let r = p.room in omega arith;
            later = λ i has. let l = p.later i (subst (λ (ys : List PlanItem). Has ys i) (sym (drop_push plan k x inside is)) (inr has)) in omega arith;
          }

  -- a tick is given
  module _ (new : Moment) (rows_after : List (List Count)) (ticked : Ticked) (log_after : Ticks)
      (is_tick : IsTick Begun Stepped (left_at rows_after) m new rows rows_after ticked)
      (set : new.tasks ≡ m.tasks) (clock : new.clock ≡ m.clock + 1)
      (body : IsBodyOf new tasks (left_at rows_after) (MayBegin tasks rows_after))
      (goes : GoesOnTo m new (left_at rows) (left_at rows_after) ticked)
      (told_to : log_after ≡ log ++ job_run ticked ∷ [])
      (not_arrived : (i : PlanItem) → Has (drop k plan) i → m.clock < i.arrival) where
    keeps : (t : Ticked) → IsTick Begun Stepped (left_at rows_after) m new rows rows_after t → (j : Job) → cost_at rows_after j ≡ cost_at rows j
    keeps Idle h j = ap (λ (rs : List (List Count)). cost_at rs j) h.3
    keeps (Ran job ended) h j = by_run h.0.begun h.3
      where
        by_run : (b : Bool) → Runs Begun Stepped b job rows rows_after → cost_at rows_after j ≡ cost_at rows j
        by_run true r = r.1.costs j
        by_run false r = r.2.1.costs j ∙ r.1.costs j

    grows : (t : Ticked) → IsTick Begun Stepped (left_at rows_after) m new rows rows_after t → m.spare ≤ new.spare
    grows Idle h = let e = h.2 in omega arith
    grows (Ran job ended) h =
        let e = h.5 in
        ⊎_elim
        (λ (y : ended ≡ true). let c = cond-true ended (m.spare + 1) m.spare y in omega arith)
        (λ (n : ended ≡ false). let c = cond-false ended (m.spare + 1) m.spare n in omega arith)
        (cases_Bool ended)

    -- the costs are the plan's already
    same_plan : (t : Ticked) → IsTick Begun Stepped (left_at rows_after) m new rows rows_after t → plan_after (left_at rows) (left_at rows_after) t (take k plan) ≡ take k plan
    same_plan Idle h = refl
    same_plan (Ran job ended) h = by_run h.0.begun h.3
      where
        by_run : (b : Bool) → Runs Begun Stepped b job rows rows_after → cond (eqb (left_at rows job) 0) (with_cost job (left_at rows_after job + 1) (take k plan)) (take k plan) ≡ take k plan
        by_run true r = cond-false (eqb (left_at rows job) 0) (with_cost job (left_at rows_after job + 1) (take k plan)) (take k plan) (ne_eqb (left_at rows job) 0 (λ z. let s = r.0 in absurd (omega arith)))
        by_run false r =
            let same = with_same job (left_at rows_after job + 1) (take k plan) (λ i has e.
            let c = p.told i (has_taken plan k i has) in
            let d : cost_at rows i.job ≡ cost_at rows job = ap (cost_at rows) e in
            let l = r.1.left in
            let s = r.2.0 in
            omega arith) in
            ⊎_elim
            (λ (z : left_at rows job ≡ 0). cond-true (eqb (left_at rows job) 0) (with_cost job (left_at rows_after job + 1) (take k plan)) (take k plan) (eq-eqb (left_at rows job) 0 z) ∙ same)
            (λ (nz : left_at rows job ≡ 0 → ⊥). cond-false (eqb (left_at rows job) 0) (with_cost job (left_at rows_after job + 1) (take k plan)) (take k plan) (ne_eqb (left_at rows job) 0 nz))
            (cases_eq (left_at rows job) 0)

    pub playing_tick : IsPlaying tasks plan new rows_after k log_after
    playing_tick =
        let g = goes (take k plan) log p.legal p.stands in
        let same = same_plan ticked is_tick in
        let l = sym told_to in
        record {
          inside = p.inside;
          set = set ∙ p.set;
          legal = subst (λ (ys : List PlanItem). IsLegal new.tasks ys) same g.legal;
          stands = subst (λ (ts : Ticks). StandsFor new (left_at rows_after) (take k plan) ts) l (subst (λ (ys : List PlanItem). StandsFor new (left_at rows_after) ys (log ++ job_run ticked ∷ [])) same g.stands);
          rule = subst (λ (ts : Ticks). IsEdfDdm new.tasks (take k plan) ts) l (subst (λ (ys : List PlanItem). IsEdfDdm new.tasks ys (log ++ job_run ticked ∷ [])) same (g.rule (subst (λ (ts : List Task). IsEdfDdm ts (take k plan) log) (sym set) p.rule)));
          body = body;
          told = λ i has. keeps ticked is_tick i.job ∙ p.told i has;
          room = let r = p.room in let s = grows ticked is_tick in omega arith;
          later = λ i has. let d = not_arrived i has in omega arith;
        }

  -- what is left arrives no earlier than the next item
  pub none_arrived : ((x : PlanItem) → k < length plan → get_or plan k x ≡ x → m.clock < x.arrival) → (i : PlanItem) → Has (drop k plan) i → m.clock < i.arrival
  none_arrived first i has =
      ⊎_elim
      (λ (h : k < length plan).
      let x = get_or plan k i in
      let e : get_or plan k x ≡ x = get_or_default plan k x i h in
      let f = first x h e in
      let l = later_items tasks plan k x i legal h e has in
      omega arith)
      (λ (h : length plan ≤ k). absurd (subst (λ (ys : List PlanItem). Has ys i) (drop_all k plan h) has))
      (cases_lt k (length plan))

  -- the play's end
  pub playing_end : (n : ℕ) → length log ≡ n → log ≡ edf_ddm tasks plan n
  playing_end n e =
      let r = subst (λ (ts : List Task). IsEdfDdm ts (take k plan) log) p.set p.rule in
      let g = rule_is_online.plan tasks (take k plan) (drop k plan) log (λ i has. let l = p.later i has in let c = p.stands.clock in omega arith) r in
      let rule = subst (λ (ys : List PlanItem). IsEdfDdm tasks ys log) (sym (split plan k)) g in
      let made = rule_makes_logs tasks plan n in
      rule_is_determined tasks plan log (edf_ddm tasks plan n) rule made.rule (e ∙ sym made.long)

-- which is safe
pub playing_safe : (tasks : List Task) (plan : List PlanItem) (n : ℕ) (log : Ticks) → IsLegal tasks plan → log ≡ edf_ddm tasks plan n → IsSafe tasks plan log
playing_safe tasks plan n log legal e =
    let P : Ticks → Type 0 = λ ts. IsSafe tasks plan ts in
    subst P (sym e) (rule_is_safe tasks plan legal (edf_ddm tasks plan n) (rule_makes_logs tasks plan n).rule)

-- what a tick does with a body's counts
pub tick_counts : {X : Type 0} (f : X → List (List Count)) (m new : Moment) (a b : X) (t : Ticked) → IsTick {X = X} (λ x j y. Begun (f x) j (f y)) (λ x j y. Stepped (f x) j (f y)) (left_at (f b)) m new a b t → IsTick Begun Stepped (left_at (f b)) m new (f a) (f b) t
tick_counts f m new a b Idle h = (h.0, h.1, h.2, ap f h.3)
tick_counts {X} f m new a b (Ran job ended) h = (h.0, h.1, h.2, by_run h.0.begun h.3, h.4, h.5)
  where
    by_run : (c : Bool) → Runs {X = X} (λ x j y. Begun (f x) j (f y)) (λ x j y. Stepped (f x) j (f y)) c job a b → Runs Begun Stepped c job (f a) (f b)
    by_run true r = r
    by_run false r = (f r.0, r.1, r.2)

pub on_ok : {T E : Type 0} (r : Result T E) (P Q : Type 0) → OnOk r P → (P → Q) → OnOk r Q
on_ok (Ok x) P Q h f = f h
on_ok (Err e) P Q h f = h

pub read_item : (plan : List PlanItem) (k : ℕ) (x y : PlanItem) → slice_get plan k ≡ Some y → get_or plan k x ≡ x → y ≡ x
read_item plan k x y s e = sym (get_or_from_slice_get plan k y x s) ∙ e

-- the play's start
pub playing_start : (tasks : List Task) (plan : List PlanItem) (m : Moment) (rows : List (List Count)) → m ≡ start tasks (length plan) → ((left : Job → ℕ) → StandsFor m left [] []) →
    ((item : PlanItem) → Has plan item → cost_at rows item.job ≡ item.cost) → ((job : Job) → left_at rows job ≡ 0) → IsPlaying tasks plan m rows 0 []
playing_start tasks plan m rows is stands told idle =
    let set : m.tasks ≡ tasks = ap (λ (x : Moment). x.tasks) is in
    let none : m.entries ≡ [] = ap (λ (x : Moment). x.entries) is in
    let spare : m.spare ≡ length plan = ap (λ (x : Moment). x.spare) is in
    let clock : m.clock ≡ 0 = ap (λ (x : Moment). x.clock) is in
    record {
      inside = omega arith;
      set = set;
      legal = tt;
      stands = stands (left_at rows);
      rule = λ t h. absurd (omega arith);
      body = record {
        set = sym set;
        begun = λ e has. absurd (none_in m.entries e none has);
        only = λ j busy. absurd (let z = idle j in omega arith);
        waiting = λ e has. absurd (none_in m.entries e none has);
      };
      told = told;
      room = omega arith;
      later = λ i has. omega arith;
    }
