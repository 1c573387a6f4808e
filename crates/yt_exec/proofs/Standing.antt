-- An executive and its body go on to stand for a plan and a log.
use Rattle.std.proofs.Common.{◌≡◌, ℕ, suc, ◌+◌, ◌-◌, ◌<◌, ◌≤◌, Bool, List, [], ◌∷◌, ◌++◌, length, set, Option, Some, None, refl, sym, ap, ap₂, subst, ◌∙◌, inl, inr, ⊎_elim, arith, length-append, get_or-set_same, get_or-set_other}
use Rattle.std.proofs.lemmas.Bool.{cases_eq}
use Rattle.std.specs.List.{Contains}
use Rattle.yt_list.proofs.Lemmas.{numbered_or_place}
use Rattle.yt_set.specs.declared.task.Task.{Task}
use Rattle.yt_log.specs.declared.job.Job.{Job}
use Rattle.yt_log.specs.declared.plan.PlanItem.{PlanItem}
use Rattle.yt_log.specs.Tasks.{Has}
use Rattle.yt_log.specs.Plan.{deadline_of, IsNext, IsLegal}
use Rattle.yt_log.specs.Ticks.{Ticks, done, IsWaiting}
use Rattle.yt_log.specs.EdfDdm.{choice, current_deadline, ComesFirst, IsEdfDdm}
use Rattle.yt_log.proofs.Lemmas.{one_item, good_item}
use Rattle.yt_log.proofs.Lemmas.{has_push}
use Rattle.yt_log.proofs.Lemmas.{current_fresh}
use Rattle.yt_log.proofs.Lemmas.{rule_is_least}
use Rattle.yt_log.proofs.Lemmas.{rule_is_online}
use Rattle.yt_log.proofs.Lemmas.{rule_is_non_clairvoyant}
use Rattle.yt_ready.specs.declared.entry.Entry.{Entry}
use Rattle.yt_ready.specs.Order.{comes_before, IsLeast}
use Rattle.yt_order.specs.Falling.{HasOneMore}
use Rattle.yt_log.specs.declared.last_jobs.LastJob.{LastJob}
use Rattle.yt_exec.specs.Bodies.{IsKnown, task_in, KeepsOthers}
use Rattle.yt_exec.specs.Moments.{Moment, no_release, release_of, job_in, released, after_tick, IsNextJob, IsSound}
use Rattle.yt_exec.specs.StandsFor.{entry_of, last_release, StandsFor, GoesOn, item_at, with_cost}
use Rattle.yt_exec.proofs.Changes.{changed, changed_job, changed_arrival, changed_yes, changed_no, job_or_not, has_with, has_from, releases_with, legal_with, like_with}
use Rattle.yt_exec.proofs.LongerLogs.{done_ran, done_else, entry_not, entry_else, entry_ran, same_order}
use Rattle.yt_exec.proofs.Releases.{IsUpTo, last_number, last_latest, push_yes, push_no}
use Rattle.yt_log.proofs.Lemmas.{has_last}

some_other : (a b : Job) → (b ≡ a → ⊥) → Some a ≡ Some b → ⊥
some_other a b ne e = ne (let h : a ≡ b = cc in sym h)

has_front : (xs : List PlanItem) (y i : PlanItem) → Has xs i → Has (xs ++ y ∷ []) i
has_front [] y i has = absurd has
has_front (x ∷ xs) y i has = ⊎_elim (λ (e : i ≡ x). inl e) (λ (h : Has xs i). inr (has_front xs y i h)) has

module _ (old : Moment) (left : Job → ℕ) (plan : List PlanItem) (log : Ticks) (legal : IsLegal old.tasks plan) (stands : StandsFor old left plan log)
    (sound : IsSound old.tasks old.entries old.clock old.releases) where
  -- each item of the plan has arrived
  pub arrived : (i : PlanItem) → Has plan i → i.arrival ≤ length log
  arrived i has =
      let good = good_item old.tasks plan legal i has in
      let r = stands.releases i.job.task good.from_one good.in_set in
      let l = (last_latest old.tasks plan legal i.job.task i has refl).arrival in
      let p = sound.past i.job.task in
      let a : (release_of old.releases i.job.task).arrival ≡ (last_release no_release i.job.task plan).arrival = ap (λ (x : LastJob). x.arrival) r in
      let c = stands.clock in
      omega arith

  -- a tick that goes to none
  module _ (new : Moment) (none : (e : Entry) → Contains old.entries e → ⊥) (empty : (e : Entry) → Contains new.entries e → ⊥)
      (tasks : new.tasks ≡ old.tasks) (clock : new.clock ≡ old.clock + 1) (releases : new.releases ≡ old.releases) where
    nothing : (i : PlanItem) → Has plan i → IsWaiting log (length log) i → ⊥
    nothing i has waiting = none (entry_of old.tasks log i) (stands.waiting i has waiting)

    later : (i : PlanItem) → Has plan i → IsWaiting (log ++ None ∷ []) (length (log ++ None ∷ [])) i → ⊥
    later i has w =
        let d = done_else log None i.job (λ e. cc) in
        let u = w.unfinished in
        nothing i has (record { arrived = arrived i has; unfinished = omega arith })

    pub idle_stands : (after : Job → ℕ) → GoesOn new after plan plan log (log ++ None ∷ [])
    idle_stands after = record {
      legal = subst (λ (ts : List Task). IsLegal ts plan) (sym tasks) legal;
      stands = record {
        waiting = λ i has w. absurd (later i has w);
        only = λ e has. absurd (empty e has);
        clock = let l = length-append log (None ∷ []) in let c = stands.clock in omega arith;
        releases = λ task a b. let n = ap length tasks in ap (λ (rs : List LastJob). release_of rs task) releases ∙ stands.releases task a (omega arith);
        named = λ j begun. stands.named j (let d = done_else log None j (λ e. cc) in omega arith);
        costs = λ i has w begun. absurd (later i has w);
      };
      rule = λ rule.
          let c : choice old.tasks plan log (length log) ≡ None = rule_is_least.none old.tasks plan log (length log) nothing in
          let r = subst (λ (ts : List Task). IsEdfDdm ts plan log) tasks rule in
          let g = rule_is_online.tick old.tasks plan log r in
          subst (λ (ts : List Task). IsEdfDdm ts plan (log ++ None ∷ [])) (sym tasks) (subst (λ (o : Option Job). IsEdfDdm old.tasks plan (log ++ o ∷ [])) c g);
    }

  -- a tick that goes to the least entry's job, whose cost in the plan is what it got, this tick and what is left then
  module _ (new : Moment) (after : Job → ℕ) (e : Entry) (least : IsLeast old.entries e) (less : List Entry) (more : HasOneMore less e old.entries)
      (tasks : new.tasks ≡ old.tasks) (clock : new.clock ≡ old.clock + 1) (releases : new.releases ≡ old.releases)
      (others : KeepsOthers left after (job_in e))
      (right : (i : PlanItem) → Has plan i → i.job ≡ job_in e → i.cost ≡ suc (done log (job_in e) (length log)) + after (job_in e)) where
    job : Job
    job = job_in e

    longer : Ticks
    longer = log ++ Some (job_in e) ∷ []

    -- the item of the entry
    record IsItem (i : PlanItem) : Type 0 where
      has : Has plan i
      waiting : IsWaiting log (length log) i
      entry : e ≡ entry_of old.tasks log i
      job : i.job ≡ job_in e

    item : (i : PlanItem) × IsItem i
    item =
        let o = stands.only e least.has in
        (o.0, record { has = o.1; waiting = o.2; entry = o.3; job = sym (ap job_in o.3) })

    one : (i : PlanItem) → Has plan i → i.job ≡ job_in e → i ≡ item.0
    one i has same = one_item old.tasks plan legal i item.0 has item.1.has (same ∙ sym item.1.job)

    ran : (i : PlanItem) → i.job ≡ job_in e → done longer i.job (length longer) ≡ suc (done log i.job (length log))
    unfolding longer
    ran i same = done_ran log (Some (job_in e)) i.job (ap (λ (j : Job). Some j) (sym same))

    else : (i : PlanItem) → (i.job ≡ job_in e → ⊥) → done longer i.job (length longer) ≡ done log i.job (length log)
    unfolding longer
    else i ne = done_else log (Some (job_in e)) i.job (some_other (job_in e) i.job ne)

    -- another job's entry stays
    stays : (i : PlanItem) → Has plan i → IsWaiting longer (length longer) i → (i.job ≡ job_in e → ⊥) → Contains less (entry_of old.tasks longer i)
    unfolding longer
    stays i has w ne =
        let d = else i ne in
        let u = w.unfinished in
        let c = stands.waiting i has (record { arrived = arrived i has; unfinished = omega arith }) in
        let s : entry_of old.tasks longer i ≡ entry_of old.tasks log i = entry_else old.tasks log (Some (job_in e)) i (some_other (job_in e) i.job ne) in
        subst (λ (x : Entry). Contains less x) (sym s)
        (⊎_elim
        (λ (q : entry_of old.tasks log i ≡ e). absurd (ne (ap job_in q)))
        (λ (h : Contains less (entry_of old.tasks log i)). h)
        (more.only (entry_of old.tasks log i) c))

    record IsEntryOf (x : Entry) (i : PlanItem) : Type 0 where
      has : Has plan i
      waiting : IsWaiting longer (length longer) i
      entry : x ≡ entry_of old.tasks longer i

    stayed : (x : Entry) → Contains less x → (i : PlanItem) × IsEntryOf x i
    unfolding longer
    stayed x h =
        let o = stands.only x (more.kept x h) in
        let i = o.0 in
        let ne : i.job ≡ job_in e → ⊥ = λ same.
        let q : x ≡ e = o.3 ∙ ap (entry_of old.tasks log) (one i o.1 same) ∙ sym item.1.entry in
        more.fresh (subst (λ (y : Entry). Contains less y) q h) in
        let d = else i ne in
        let w = o.2 in
        let u = w.unfinished in
        let a = w.arrived in
        let l = length-append log (Some (job_in e) ∷ []) in (
          i,
          record {
            has = o.1;
            waiting = record { arrived = omega arith; unfinished = omega arith };
            entry = o.3 ∙ sym (entry_else old.tasks log (Some (job_in e)) i (some_other (job_in e) i.job ne));
          },
        )

    -- the entry of a job that goes on
    ran_entry : (i : PlanItem) → Has plan i → i.job ≡ job_in e → entry_of old.tasks longer i ≡ after_tick old.tasks (length log) e
    unfolding longer
    ran_entry i has same =
        entry_ran old.tasks log (Some (job_in e)) i (ap (λ (j : Job). Some j) (sym same))
        ∙ ap (λ (k : PlanItem). after_tick old.tasks (length log) (entry_of old.tasks log k)) (one i has same)
        ∙ ap (after_tick old.tasks (length log)) (sym item.1.entry)

    left_over : (i : PlanItem) → Has plan i → i.job ≡ job_in e → i.cost ≡ done longer i.job (length longer) + after i.job
    left_over i has same =
        let r = ran i same in
        let c = right i has same in
        let a : after i.job ≡ after (job_in e) = ap after same in
        let d : done log i.job (length log) ≡ done log (job_in e) (length log) = ap (λ (j : Job). done log j (length log)) same in
        omega arith

    costs : (i : PlanItem) → Has plan i → IsWaiting longer (length longer) i → 0 < done longer i.job (length longer) → i.cost ≡ done longer i.job (length longer) + after i.job
    costs i has w begun =
        ⊎_elim
        (λ (same : i.job ≡ job_in e). left_over i has same)
        (λ (ne : i.job ≡ job_in e → ⊥).
        let d = else i ne in
        let k = others i.job ne in
        let u = w.unfinished in
        let c = stands.costs i has (record { arrived = arrived i has; unfinished = omega arith }) (omega arith) in
        omega arith)
        (job_or_not i (job_in e))

    -- the rule gives the tick to the job
    first : ComesFirst old.tasks plan log (length log) item.0
    first = record {
      has = item.1.has;
      waiting = item.1.waiting;
      first = λ o has w.
          let f = least.first (entry_of old.tasks log o) (stands.waiting o has w) in
          sym (same_order old.tasks log o item.0) ∙ ap (λ (x : Entry). comes_before (entry_of old.tasks log o) x) (sym item.1.entry) ∙ f;
    }

    rule : IsEdfDdm old.tasks plan log → IsEdfDdm old.tasks plan longer
    unfolding longer
    rule is =
        let c : choice old.tasks plan log (length log) ≡ Some (job_in e) = rule_is_least.some old.tasks plan log (length log) item.0 first ∙ ap (λ (j : Job). Some j) item.1.job in
        subst (λ (o : Option Job). IsEdfDdm old.tasks plan (log ++ o ∷ [])) c (rule_is_online.tick old.tasks plan log is)

    -- the entries after the tick
    record AreEntries : Type 0 where
      waiting : (i : PlanItem) → Has plan i → IsWaiting longer (length longer) i → Contains new.entries (entry_of old.tasks longer i)
      only : (x : Entry) → Contains new.entries x → (i : PlanItem) × IsEntryOf x i

    goes_on : AreEntries → GoesOn new after plan plan log (log ++ Some (job_in e) ∷ [])
    unfolding longer
    goes_on are = record {
      legal = subst (λ (ts : List Task). IsLegal ts plan) (sym tasks) legal;
      stands = record {
        waiting = λ i has w. subst (λ (ts : List Task). Contains new.entries (entry_of ts longer i)) (sym tasks) (are.waiting i has w);
        only = λ x has. let o = are.only x has in (o.0, o.1.has, o.1.waiting, o.1.entry ∙ ap (λ (ts : List Task). entry_of ts longer o.0) (sym tasks));
        clock = let l = length-append log (Some (job_in e) ∷ []) in let c = stands.clock in omega arith;
        releases = λ task a b. let n = ap length tasks in ap (λ (rs : List LastJob). release_of rs task) releases ∙ stands.releases task a (omega arith);
        named = λ j begun. ⊎_elim
            (λ (same : item.0.job ≡ j). (item.0, item.1.has, same))
            (λ (ne : item.0.job ≡ j → ⊥). stands.named j (let d = done_else log (Some (job_in e)) j (some_other (job_in e) j (λ q. ne (item.1.job ∙ sym q))) in omega arith))
            (job_or_not item.0 j);
        costs = costs;
      };
      rule = λ is. subst (λ (ts : List Task). IsEdfDdm ts plan (log ++ Some (job_in e) ∷ [])) (sym tasks) (rule (subst (λ (ts : List Task). IsEdfDdm ts plan log) tasks is));
    }

    -- where the job has ended, its entry is gone
    pub ended_stands : new.entries ≡ less → after (job_in e) ≡ 0 → GoesOn new after plan plan log (log ++ Some (job_in e) ∷ [])
    ended_stands is none = goes_on (record {
      waiting = λ i has w. subst (λ (xs : List Entry). Contains xs (entry_of old.tasks longer i)) (sym is)
          (stays i has w (λ same. let l = left_over i has same in let z : after i.job ≡ after (job_in e) = ap after same in let u = w.unfinished in absurd (omega arith)));
      only = λ x has. stayed x (subst (λ (xs : List Entry). Contains xs x) is has);
    })

    back : (x : Entry) → x ≡ after_tick old.tasks (length log) e → 0 < after (job_in e) → IsEntryOf x item.0
    unfolding longer
    back x q some =
        let i = item.0 in
        let l = left_over i item.1.has item.1.job in
        let z : after i.job ≡ after (job_in e) = ap after item.1.job in
        let a = arrived i item.1.has in
        let n = length-append log (Some (job_in e) ∷ []) in
        record {
          has = item.1.has;
          waiting = record { arrived = omega arith; unfinished = omega arith };
          entry = q ∙ sym (ran_entry i item.1.has item.1.job);
        }

    -- where it goes on, its entry is back
    pub goes_on_stands : HasOneMore less (after_tick old.tasks (length log) e) new.entries → 0 < after (job_in e) → GoesOn new after plan plan log (log ++ Some (job_in e) ∷ [])
    goes_on_stands put some = goes_on (record {
      waiting = λ i has w. ⊎_elim
          (λ (same : i.job ≡ job_in e). subst (λ (x : Entry). Contains new.entries x) (sym (ran_entry i has same)) put.added)
          (λ (ne : i.job ≡ job_in e → ⊥). put.kept (entry_of old.tasks longer i) (stays i has w ne))
          (job_or_not i (job_in e));
      only = λ x has. ⊎_elim
          (λ (q : x ≡ after_tick old.tasks (length log) e). (item.0, back x q some))
          (λ (h : Contains less x). stayed x h)
          (put.only x has);
    })

  -- another cost of a job that has not begun
  module _ (job : Job) (c : ℕ) (some : 1 ≤ c) (most : c ≤ (task_in old.tasks job).cost) (unbegun : done log job (length log) ≡ 0) where
    same_entry : (i : PlanItem) → entry_of old.tasks log (changed job c i) ≡ entry_of old.tasks log i
    unfolding current_deadline deadline_of
    same_entry i =
        let at : Job → ℕ → ℕ → PlanItem = λ j a k. record { job = j; arrival = a; cost = k } in
        ap₂ (λ (j : Job) (a : ℕ). entry_of old.tasks log (at j a 0)) (changed_job job c i) (changed_arrival job c i)

    pub with_stands : StandsFor old left (with_cost job c plan) log
    with_stands = record {
      waiting = λ i has w.
          let h = has_with job c plan i has in
          let k = h.0 in
          let a : i.arrival ≡ k.arrival = ap (λ (x : PlanItem). x.arrival) h.2 ∙ changed_arrival job c k in
          let d : done log i.job (length log) ≡ done log k.job (length log) = ap (λ (x : PlanItem). done log x.job (length log)) h.2 ∙ ap (λ (j : Job). done log j (length log)) (changed_job job c k) in
          let good = good_item old.tasks plan legal k h.1 in
          let v = w.arrived in
          let u = w.unfinished in
          let waits : IsWaiting log (length log) k = ⊎_elim
          (λ (same : k.job ≡ job).
          let z : done log k.job (length log) ≡ 0 = ap (λ (j : Job). done log j (length log)) same ∙ unbegun in
          let s = good.some in
          record { arrived = omega arith; unfinished = omega arith })
          (λ (ne : k.job ≡ job → ⊥).
          let q : i.cost ≡ k.cost = ap (λ (x : PlanItem). x.cost) (h.2 ∙ changed_no job c k ne) in
          record { arrived = omega arith; unfinished = omega arith })
          (job_or_not k job) in
          subst (λ (x : Entry). Contains old.entries x) (sym (ap (entry_of old.tasks log) h.2 ∙ same_entry k)) (stands.waiting k h.1 waits);
      only = λ x has.
          let o = stands.only x has in
          let k = o.0 in
          let i = changed job c k in
          let w = o.2 in
          let v = w.arrived in
          let u = w.unfinished in
          let a = changed_arrival job c k in
          let d : done log i.job (length log) ≡ done log k.job (length log) = ap (λ (j : Job). done log j (length log)) (changed_job job c k) in
          let waits : IsWaiting log (length log) i = ⊎_elim
          (λ (same : k.job ≡ job).
          let z : done log k.job (length log) ≡ 0 = ap (λ (j : Job). done log j (length log)) same ∙ unbegun in
          let s = changed_yes job c k same in
          record { arrived = omega arith; unfinished = omega arith })
          (λ (ne : k.job ≡ job → ⊥).
          let q : i.cost ≡ k.cost = ap (λ (y : PlanItem). y.cost) (changed_no job c k ne) in
          record { arrived = omega arith; unfinished = omega arith })
          (job_or_not k job) in
          (i, has_from job c plan k o.1, waits, o.3 ∙ sym (same_entry k));
      clock = stands.clock;
      releases = λ task a b. stands.releases task a b ∙ sym (releases_with job c task no_release plan);
      named = λ j begun. let n = stands.named j begun in (changed job c n.0, has_from job c plan n.0 n.1, changed_job job c n.0 ∙ n.2);
      costs = λ i has w begun.
          let h = has_with job c plan i has in
          let k = h.0 in
          let j : i.job ≡ k.job = ap (λ (x : PlanItem). x.job) h.2 ∙ changed_job job c k in
          ⊎_elim
          (λ (same : k.job ≡ job).
          let z : done log i.job (length log) ≡ 0 = ap (λ (x : Job). done log x (length log)) (j ∙ same) ∙ unbegun in
          absurd (omega arith))
          (λ (ne : k.job ≡ job → ⊥).
          let q : i ≡ k = h.2 ∙ changed_no job c k ne in
          stands.costs i (subst (λ (x : PlanItem). Has plan x) (sym q) h.1) w begun)
          (job_or_not k job);
    }

    pub with_legal : IsLegal old.tasks (with_cost job c plan)
    with_legal = legal_with old.tasks job c some most plan legal

    pub with_rule : IsEdfDdm old.tasks plan log → IsEdfDdm old.tasks (with_cost job c plan) log
    with_rule rule = rule_is_non_clairvoyant.rule old.tasks plan (with_cost job c plan) log (like_with old.tasks job c some most log plan unbegun (λ i has. (good_item old.tasks plan legal i has).some)) rule

    pub with_right : (i : PlanItem) → Has (with_cost job c plan) i → i.job ≡ job → i.cost ≡ c
    with_right i has same =
        let h = has_with job c plan i has in
        let k = h.0 in
        let j : k.job ≡ job = sym (ap (λ (x : PlanItem). x.job) h.2 ∙ changed_job job c k) ∙ same in
        ap (λ (x : PlanItem). x.cost) h.2 ∙ changed_yes job c k j

  -- a release
  module _ (new : Moment) (job : Job) (known : IsKnown old.tasks job) (next : IsNextJob old job) (cost : ℕ) (some : 1 ≤ cost) (most : cost ≤ (task_in old.tasks job).cost)
      (put : HasOneMore old.entries (released old.tasks old.clock job) new.entries)
      (tasks : new.tasks ≡ old.tasks) (clock : new.clock ≡ old.clock) (releases : new.releases ≡ set old.releases (job.task - 1) (record { number = job.number; arrival = old.clock })) where
    last_is : release_of old.releases job.task ≡ last_release no_release job.task plan
    last_is = stands.releases job.task known.0 known.1

    earlier : (e : PlanItem) → Has plan e → e.job.task ≡ job.task → IsUpTo e (release_of old.releases job.task)
    earlier e has same = subst (λ (r : LastJob). IsUpTo e r) (sym last_is) (last_latest old.tasks plan legal job.task e has same)

    is_next : IsNext old.tasks plan (item_at old.clock job cost)
    is_next =
        let n = last_number old.tasks plan legal job.task in
        let a : (release_of old.releases job.task).number ≡ (last_release no_release job.task plan).number = ap (λ (x : LastJob). x.number) last_is in
        let c = stands.clock in
        record {
          from_one = known.0;
          in_set = known.1;
          number = let k = next.number in omega arith;
          order = λ e has. let l = arrived e has in omega arith;
          apart = λ e has same.
              let l = earlier e has same in
              let p = next.apart l.some in
              let r = l.arrival in
              omega arith;
          some = some;
          most = most;
        }

    new_job : (i : PlanItem) → Has plan i → i.job ≡ job → ⊥
    new_job i has same =
        let l = (earlier i has (ap (λ (j : Job). j.task) same)).number in
        let n : i.job.number ≡ job.number = ap (λ (j : Job). j.number) same in
        let k = next.number in
        omega arith

    unbegun : done log job (length log) ≡ 0
    unbegun =
        ⊎_elim
        (λ (z : done log job (length log) ≡ 0). z)
        (λ (nz : done log job (length log) ≡ 0 → ⊥). let n = stands.named job (omega arith) in absurd (new_job n.0 n.1 n.2))
        (cases_eq (done log job (length log)) 0)

    its_entry : entry_of old.tasks log (item_at old.clock job cost) ≡ released old.tasks old.clock job
    unfolding deadline_of
    its_entry =
        let made : ℕ → Bool → Entry = λ d b. record { deadline = d; begun = b; arrival = old.clock; task = job.task; number = job.number } in
        ap₂ made (current_fresh old.tasks log (length log) (item_at old.clock job cost) unbegun) (entry_not old.tasks log (item_at old.clock job cost) unbegun)

    releases_after : (task : ℕ) → 1 ≤ task → task ≤ length old.tasks → release_of new.releases task ≡ last_release no_release task (plan ++ item_at old.clock job cost ∷ [])
    releases_after task a b =
        let r : LastJob = record { number = job.number; arrival = old.clock } in
        let l = sound.long in
        let k : job.task ≤ length old.tasks = known.1 in
        let o : 1 ≤ job.task = known.0 in
        ap (λ (rs : List LastJob). release_of rs task) releases ∙
        ⊎_elim
        (λ (e : job.task ≡ task).
        ap (release_of (set old.releases (job.task - 1) r)) (sym e)
        ∙ numbered_or_place (set old.releases (job.task - 1) r) job.task no_release o
        ∙ get_or-set_same old.releases (job.task - 1) r no_release (omega arith)
        ∙ sym (push_yes no_release task plan (item_at old.clock job cost) e))
        (λ (ne : job.task ≡ task → ⊥).
        numbered_or_place (set old.releases (job.task - 1) r) task no_release a
        ∙ get_or-set_other old.releases (job.task - 1) (task - 1) r no_release (λ q. ne (omega arith))
        ∙ sym (numbered_or_place old.releases task no_release a)
        ∙ stands.releases task a b
        ∙ sym (push_no no_release task plan (item_at old.clock job cost) ne))
        (cases_eq job.task task)

    release_keeps : StandsFor new left (plan ++ item_at old.clock job cost ∷ []) log
    release_keeps = record {
      waiting = λ i has w. subst (λ (ts : List Task). Contains new.entries (entry_of ts log i)) (sym tasks) (⊎_elim
          (λ (h : Has plan i). put.kept (entry_of old.tasks log i) (stands.waiting i h w))
          (λ (q : i ≡ item_at old.clock job cost). subst (λ (x : Entry). Contains new.entries x) (sym (ap (entry_of old.tasks log) q ∙ its_entry)) put.added)
          (has_push plan (item_at old.clock job cost) i has));
      only = λ x has. ⊎_elim
          (λ (q : x ≡ released old.tasks old.clock job).
          let c = stands.clock in (
            item_at old.clock job cost,
            has_last plan (item_at old.clock job cost),
            record { arrived = omega arith; unfinished = let u = unbegun in omega arith },
            q ∙ sym its_entry ∙ ap (λ (ts : List Task). entry_of ts log (item_at old.clock job cost)) (sym tasks),
          ))
          (λ (h : Contains old.entries x).
          let o = stands.only x h in
          (o.0, has_front plan (item_at old.clock job cost) o.0 o.1, o.2, o.3 ∙ ap (λ (ts : List Task). entry_of ts log o.0) (sym tasks)))
          (put.only x has);
      clock = clock ∙ stands.clock;
      releases = λ task a b. let n = ap length tasks in releases_after task a (omega arith);
      named = λ j begun. let n = stands.named j begun in (n.0, has_front plan (item_at old.clock job cost) n.0 n.1, n.2);
      costs = λ i has w begun. ⊎_elim
          (λ (h : Has plan i). stands.costs i h w begun)
          (λ (q : i ≡ item_at old.clock job cost).
          let z : done log i.job (length log) ≡ 0 = ap (λ (x : PlanItem). done log x.job (length log)) q ∙ unbegun in
          absurd (omega arith))
          (has_push plan (item_at old.clock job cost) i has);
    }

    later_only : (i : PlanItem) → Has (item_at old.clock job cost ∷ []) i → length log ≤ i.arrival
    later_only i has = ⊎_elim
        (λ (q : i ≡ item_at old.clock job cost). let a : i.arrival ≡ old.clock = ap (λ (x : PlanItem). x.arrival) q in let c = stands.clock in omega arith)
        (λ (h : Has [] i). absurd h)
        has

    pub release_stands : GoesOn new left plan (plan ++ item_at old.clock job cost ∷ []) log log
    release_stands = record {
      legal = subst (λ (ts : List Task). IsLegal ts (plan ++ item_at old.clock job cost ∷ [])) (sym tasks) (rule_is_online.item old.tasks plan (item_at old.clock job cost) legal is_next);
      stands = release_keeps;
      rule = λ rule.
          subst (λ (ts : List Task). IsEdfDdm ts (plan ++ item_at old.clock job cost ∷ []) log) (sym tasks)
          (rule_is_online.plan old.tasks plan (item_at old.clock job cost ∷ []) log later_only (subst (λ (ts : List Task). IsEdfDdm ts plan log) tasks rule));
    }
