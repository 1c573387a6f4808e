-- What a tick leaves of an executive and its body.
use Rattle.std.proofs.Common.{◌≡◌, ℕ, suc, ◌+◌, ◌<◌, ◌≤◌, true, false, cond, eqb, List, [], ◌∷◌, ◌++◌, length, Some, refl, sym, ap, ap₂, subst, ◌∙◌, ⊎_elim, arith, eq-eqb, ne_eqb}
use Rattle.std.proofs.lemmas.Bool.{cases_Bool, cases_eq, cond-true, cond-false, both_ways}
use Rattle.std.specs.List.{Contains}
use Rattle.yt_set.specs.declared.task.Task.{Task}
use Rattle.yt_log.specs.declared.job.Job.{Job}
use Rattle.yt_log.specs.declared.plan.PlanItem.{PlanItem}
use Rattle.yt_log.specs.Tasks.{Has}
use Rattle.yt_log.specs.Plan.{IsLegal}
use Rattle.yt_log.specs.Ticks.{Ticks, done}
use Rattle.yt_log.specs.EdfDdm.{IsEdfDdm}
use Rattle.yt_log.proofs.Lemmas.{one_item}
use Rattle.yt_ready.specs.declared.entry.Entry.{Entry}
use Rattle.yt_ready.specs.Order.{IsLeast}
use Rattle.yt_order.specs.Falling.{HasOneMore}
use Rattle.yt_exec.specs.Bodies.{IsKnown, IsFree, task_in, GivesTick, MayStillBegin}
use Rattle.yt_exec.specs.Moments.{Moment, job_in, after_tick, IsSound}
use Rattle.yt_exec.specs.StandsFor.{entry_of, StandsFor, GoesOn, IsBodyOf, with_cost}
use Rattle.yt_log.proofs.Lemmas.{cases_job}
use Rattle.yt_exec.proofs.LongerLogs.{entry_begun, entry_not}
use Rattle.yt_exec.proofs.Sounds.{resource_free}
use Rattle.yt_exec.proofs.Standing.{ended_stands, goes_on_stands, with_stands, with_legal, with_rule, with_right}

module _ (old : Moment) (sound : IsSound old.tasks old.entries old.clock old.releases) (set : List Task) (left : Job → ℕ) (may_begin : Job → Type 0) (body : IsBodyOf old set left may_begin) where
  -- a job that has not begun has no ticks left
  pub none_left : (e : Entry) → Contains old.entries e → e.begun ≡ false → left (job_in e) ≡ 0
  none_left e has not =
      ⊎_elim
      (λ (z : left (job_in e) ≡ 0). z)
      (λ (nz : left (job_in e) ≡ 0 → ⊥).
      let o = body.only (job_in e) (omega arith) in
      let q = sound.one o.0 e o.1 has o.3 in
      absurd (both_ways e.begun not (subst (λ (x : Entry). x.begun ≡ true) q o.2)))
      (cases_eq (left (job_in e)) 0)

  pub known_job : (e : Entry) → Contains old.entries e → IsKnown set (job_in e)
  known_job e has = subst (λ (ts : List Task). IsKnown ts (job_in e)) (sym body.set) (sound.known e has)

  pub free_resource : (e : Entry) → IsLeast old.entries e → e.begun ≡ false → IsFree set left (job_in e)
  free_resource e least not some other busy same =
      let o = body.only other busy in
      let a = o.0 in
      let t : (task_in set (job_in e)).resource ≡ (task_in old.tasks (job_in e)).resource = ap (λ (ts : List Task). (task_in ts (job_in e)).resource) body.set in
      let u : (task_in set other).resource ≡ (task_in old.tasks (job_in a)).resource = ap₂ (λ (ts : List Task) (j : Job). (task_in ts j).resource) body.set (sym o.3) in
      resource_free old.tasks old.entries old.clock old.releases sound e a least o.1 not o.2 (omega arith) (sym u ∙ same ∙ t)

  module _ (e : Entry) (least : IsLeast old.entries e) (less : List Entry) (more : HasOneMore less e old.entries)
      (after : Job → ℕ) (given : GivesTick set e.begun left after (job_in e))
      (new : Moment) (tasks : new.tasks ≡ old.tasks) (clock : new.clock ≡ old.clock + 1) (releases : new.releases ≡ old.releases) where
    -- no other entry is of the job
    other_job : (x : Entry) → Contains less x → job_in x ≡ job_in e → ⊥
    other_job x has same = more.fresh (subst (λ (y : Entry). Contains less y) (sound.one x e (more.kept x has) least.has same) has)

    module _ (set_after : List Task) (may_after : Job → Type 0) (same_set : set_after ≡ set) (may_still : MayStillBegin may_begin may_after (job_in e)) where
      less_begun : (x : Entry) → Contains less x → x.begun ≡ true → 0 < after (job_in x)
      less_begun x has begun =
          let b = body.begun x (more.kept x has) begun in
          let o = given.others (job_in x) (other_job x has) in
          omega arith

      less_waiting : (x : Entry) → Contains less x → x.begun ≡ false → may_after (job_in x)
      less_waiting x has not = may_still (job_in x) (other_job x has) (body.waiting x (more.kept x has) not)

      -- a job with ticks left that is another one
      busy_other : (j : Job) → 0 < after j → (j ≡ job_in e → ⊥) → (x : Entry) × (Contains less x) × (x.begun ≡ true) × (job_in x ≡ j)
      busy_other j busy ne =
          let k = given.others j ne in
          let o = body.only j (omega arith) in
          let x = o.0 in
          (x, ⊎_elim (λ (q : x ≡ e). absurd (ne (sym o.3 ∙ ap job_in q))) (λ (h : Contains less x). h) (more.only x o.1), o.2, o.3)

      pub body_less : new.entries ≡ less → after (job_in e) ≡ 0 → IsBodyOf new set_after after may_after
      body_less is none = record {
        set = same_set ∙ body.set ∙ sym tasks;
        begun = λ x has. less_begun x (subst (λ (xs : List Entry). Contains xs x) is has);
        only = λ j busy.
            let o = busy_other j busy (λ q. let z : after j ≡ after (job_in e) = ap after q in omega arith) in
            (o.0, subst (λ (xs : List Entry). Contains xs o.0) (sym is) o.1, o.2, o.3);
        waiting = λ x has. less_waiting x (subst (λ (xs : List Entry). Contains xs x) is has);
      }

      pub body_back : HasOneMore less (after_tick old.tasks old.clock e) new.entries → 0 < after (job_in e) → IsBodyOf new set_after after may_after
      body_back put some = record {
        set = same_set ∙ body.set ∙ sym tasks;
        begun = λ x has begun. ⊎_elim
            (λ (q : x ≡ after_tick old.tasks old.clock e). let z : after (job_in x) ≡ after (job_in e) = ap (λ (y : Entry). after (job_in y)) q in omega arith)
            (λ (h : Contains less x). less_begun x h begun)
            (put.only x has);
        only = λ j busy. ⊎_elim
            (λ (q : job_in e ≡ j). (after_tick old.tasks old.clock e, put.added, refl, q))
            (λ (ne : job_in e ≡ j → ⊥). let o = busy_other j busy (λ q. ne (sym q)) in (o.0, put.kept o.0 o.1, o.2, o.3))
            (cases_job (job_in e) j);
        waiting = λ x has not. ⊎_elim
            (λ (q : x ≡ after_tick old.tasks old.clock e). let b : x.begun ≡ true = ap (λ (y : Entry). y.begun) q in absurd (both_ways x.begun not b))
            (λ (h : Contains less x). less_waiting x h not)
            (put.only x has);
      }

    module _ (plan : List PlanItem) (log : Ticks) (legal : IsLegal old.tasks plan) (stands : StandsFor old left plan log) where
      -- how the executive goes on, for a plan with the right cost
      GoesOnFor : List PlanItem → Type 0
      GoesOnFor other = StandsFor old left other log → IsLegal old.tasks other →
          ((i : PlanItem) → Has other i → i.job ≡ job_in e → i.cost ≡ suc (done log (job_in e) (length log)) + after (job_in e)) →
          GoesOn new after other other log (log ++ Some (job_in e) ∷ [])

      item_done : (i : PlanItem) → e ≡ entry_of old.tasks log i → done log i.job (length log) ≡ done log (job_in e) (length log)
      item_done i q = ap (λ (j : Job). done log j (length log)) (sym (ap job_in q))

      settled : ((other : List PlanItem) → GoesOnFor other) → GoesOn new after plan (cond (eqb (left (job_in e)) 0) (with_cost (job_in e) (after (job_in e) + 1) plan) plan) log (log ++ Some (job_in e) ∷ [])
      unfolding GoesOnFor
      settled on =
          let o = stands.only e least.has in
          let i = o.0 in
          let d = item_done i o.3 in
          let job = job_in e in
          let c = after (job_in e) + 1 in
          let P : List PlanItem → Type 0 = λ other. GoesOn new after plan other log (log ++ Some (job_in e) ∷ []) in
          ⊎_elim
          (λ (begun : e.begun ≡ true).
          let l = given.less begun in
          let nz : 0 < done log i.job (length log) = ⊎_elim
          (λ (z : done log i.job (length log) ≡ 0). absurd (both_ways e.begun (ap (λ (x : Entry). x.begun) o.3 ∙ entry_not old.tasks log i z) begun))
          (λ (nz : done log i.job (length log) ≡ 0 → ⊥). omega arith)
          (cases_eq (done log i.job (length log)) 0) in
          let k = stands.costs i o.1 o.2 nz in
          let w : left i.job ≡ left job = ap left (sym (ap job_in o.3)) in
          subst P (sym (cond-false (eqb (left job) 0) (with_cost job c plan) plan (ne_eqb (left job) 0 (λ z. absurd (omega arith)))))
          (on plan stands legal (λ x has same.
          let q : x ≡ i = one_item old.tasks plan legal x i has o.1 (same ∙ ap job_in o.3) in
          let r : x.cost ≡ i.cost = ap (λ (y : PlanItem). y.cost) q in
          omega arith)))
          (λ (not : e.begun ≡ false).
          let z = none_left e least.has not in
          let unbegun : done log job (length log) ≡ 0 = ⊎_elim
          (λ (y : done log i.job (length log) ≡ 0). sym d ∙ y)
          (λ (nz : done log i.job (length log) ≡ 0 → ⊥). absurd (both_ways e.begun not (ap (λ (x : Entry). x.begun) o.3 ∙ entry_begun old.tasks log i (omega arith))))
          (cases_eq (done log i.job (length log)) 0) in
          let most : c ≤ (task_in old.tasks job).cost = let m = given.most not in let t : (task_in set job).cost ≡ (task_in old.tasks job).cost = ap (λ (ts : List Task). (task_in ts job).cost) body.set in omega arith in
          let some : 1 ≤ c = omega arith in
          let s = with_stands old left plan log legal stands sound job c some most unbegun in
          let g = on (with_cost job c plan) s (with_legal old left plan log legal stands sound job c some most unbegun)
          (λ x has same. let r = with_right old left plan log legal stands sound job c some most unbegun x has same in omega arith) in
          subst P (sym (cond-true (eqb (left job) 0) (with_cost job c plan) plan (eq-eqb (left job) 0 z)))
          (record {
            legal = g.legal;
            stands = g.stands;
            rule = λ rule. g.rule (subst (λ (ts : List Task). IsEdfDdm ts (with_cost job c plan) log) (sym tasks)
                (with_rule old left plan log legal stands sound job c some most unbegun (subst (λ (ts : List Task). IsEdfDdm ts plan log) tasks rule)));
          }))
          (cases_Bool e.begun)

      pub ended_goes_on : new.entries ≡ less → after (job_in e) ≡ 0 → GoesOn new after plan (cond (eqb (left (job_in e)) 0) (with_cost (job_in e) (after (job_in e) + 1) plan) plan) log (log ++ Some (job_in e) ∷ [])
      unfolding GoesOnFor
      ended_goes_on is none = settled (λ other s l right. ended_stands old left other log l s sound new after e least less more tasks clock releases given.others right is none)

      pub more_goes_on : HasOneMore less (after_tick old.tasks old.clock e) new.entries → 0 < after (job_in e) → GoesOn new after plan (cond (eqb (left (job_in e)) 0) (with_cost (job_in e) (after (job_in e) + 1) plan) plan) log (log ++ Some (job_in e) ∷ [])
      unfolding GoesOnFor
      more_goes_on put some = settled (λ other s l right. goes_on_stands old left other log l s sound new after e least less more tasks clock releases given.others right
          (subst (λ (t : ℕ). HasOneMore less (after_tick old.tasks t e) new.entries) stands.clock put) some)
