-- What stays true of an executive.
use Rattle.std.proofs.Common.{◌≡◌, ◌⊎◌, ℕ, zero, suc, ◌+◌, ◌-◌, ◌<◌, ◌≤◌, ◌^◌, true, false, List, [], length, get_or, set, replicate, Option, Some, None, refl, sym, ap, subst, ◌∙◌, inl, inr, ⊎_elim, arith, get_or-set_other, get_or-set_same}
use Rattle.std.proofs.lemmas.Bool.{cases_Bool, cases_eq, cases_lt, cond-true, cond-false, both_ways}
use Rattle.std.proofs.lemmas.List.{get_or-replicate, get_or_past, length-replicate}
use Rattle.std.proofs.Math.ListN.{length-set}
use Rattle.std.specs.List.{Contains}
use Rattle.yt_list.proofs.Lemmas.{numbered_or_place}
use Rattle.yt_set.specs.declared.task.Task.{Task}
use Rattle.yt_set.specs.Tasks.{IsTaskSet, floor_of, within}
use Rattle.yt_log.specs.declared.job.Job.{Job}
use Rattle.yt_log.specs.Tasks.{task_of}
use Rattle.yt_log.specs.EdfDdm.{lowered}
use Rattle.yt_log.proofs.Lemmas.{has_task}
use Rattle.yt_log.proofs.Lemmas.{floor_at, floor_some, floor_least}
use Rattle.yt_ready.specs.declared.entry.Entry.{Entry}
use Rattle.yt_ready.specs.Order.{comes_before, IsLeast}
use Rattle.yt_order.specs.Falling.{HasOneMore}
use Rattle.yt_ready.proofs.Lemmas.{no_later, begun_first}
use Rattle.yt_log.specs.declared.last_jobs.LastJob.{LastJob}
use Rattle.yt_exec.specs.Bodies.{IsKnown, task_in}
use Rattle.yt_exec.specs.Moments.{no_release, release_of, job_in, resource_in, released, after_tick, IsSound}

-- a deadline falls, to the floor's
pub lowered_most : (d t : ℕ) (floor : Option ℕ) → lowered d t floor ≤ d
unfolding lowered
lowered_most d t None = omega arith
lowered_most d t (Some f) = omega arith

lowered_near : (d t f : ℕ) (floor : Option ℕ) → floor ≡ Some f → lowered d t floor ≤ t + 1 + f
unfolding lowered
lowered_near d t f None e = cc
lowered_near d t f (Some g) e = let h : g ≡ f = cc in omega arith

after_most : (tasks : List Task) (t : ℕ) (e : Entry) → (after_tick tasks t e).deadline ≤ e.deadline
after_most tasks t e =
    let floor = floor_of tasks (resource_in tasks e) in
    let l = lowered_most e.deadline t floor in
    ⊎_elim
    (λ (b : e.begun ≡ true). let c = cond-true e.begun e.deadline (lowered e.deadline t floor) b in omega arith)
    (λ (b : e.begun ≡ false). let c = cond-false e.begun e.deadline (lowered e.deadline t floor) b in omega arith)
    (cases_Bool e.begun)

-- the floor of a task's resource is at most its period
pub floor_within : (tasks : List Task) (n floor : ℕ) → 1 ≤ n → n ≤ length tasks → 0 < (task_of tasks n).resource → floor_of tasks (task_of tasks n).resource ≡ Some floor → floor ≤ within (task_of tasks n)
floor_within tasks n floor a b some e =
    let task = task_of tasks n in
    let has = has_task tasks n a b in
    let s = floor_some tasks task has some in
    let same : floor_at tasks task ≡ floor = cc in
    let l = floor_least tasks task.resource (within task) task has refl in
    omega arith

module _ (tasks : List Task) (entries : List Entry) (now : ℕ) (releases : List LastJob) (sound : IsSound tasks entries now releases) where
  -- a job that is released is a new one
  pub released_fresh : (job : Job) → job.number ≡ (release_of releases job.task).number + 1 → Contains entries (released tasks now job) → ⊥
  released_fresh job next has = let l = sound.released (released tasks now job) has in omega arith

  -- a job that may begin finds its resource free
  pub resource_free : (e a : Entry) → IsLeast entries e → Contains entries a → e.begun ≡ false → a.begun ≡ true → 0 < resource_in tasks e → resource_in tasks a ≡ resource_in tasks e → ⊥
  resource_free e a least has not begun some same =
      let h = sound.held a e has least.has begun not (omega arith) same in
      both_ways (comes_before a e) (least.first a has) (begun_first a e h begun not)

  module _ (left : List Entry) (e : Entry) (more : HasOneMore left e entries) where
    -- one entry less, and one tick later
    pub sound_less : now + 1 ≤ 2 ^ 63 → IsSound tasks left (now + 1) releases
    sound_less clock = record {
      set = sound.set;
      long = sound.long;
      clock = clock;
      known = λ x has. sound.known x (more.kept x has);
      released = λ x has. sound.released x (more.kept x has);
      past = λ task. let p = sound.past task in omega arith;
      one = λ a b ha hb e. sound.one a b (more.kept a ha) (more.kept b hb) e;
      held = λ a b ha hb. sound.held a b (more.kept a ha) (more.kept b hb);
      near = λ a has begun floor e. let n = sound.near a (more.kept a has) begun floor e in omega arith;
    }

    -- no entry is left of the job
    pub after_fresh : (t : ℕ) → Contains left (after_tick tasks t e) → ⊥
    after_fresh t has =
        let same = sound.one (after_tick tasks t e) e (more.kept (after_tick tasks t e) has) more.added refl in
        more.fresh (subst (λ (x : Entry). Contains left x) same has)

    -- the job's entry back, and one tick later
    module _ (least : IsLeast entries e) (back : List Entry) (put : HasOneMore left (after_tick tasks now e) back) where
      Is : Entry → Type 0
      Is x = (x ≡ after_tick tasks now e) ⊎ Contains entries x

      which : (x : Entry) → Contains back x → Is x
      unfolding Is
      which x has = ⊎_elim (λ (s : x ≡ after_tick tasks now e). inl s) (λ (h : Contains left x). inr (more.kept x h)) (put.only x has)

      back_known : (x : Entry) → Is x → IsKnown tasks (job_in x)
      unfolding Is
      back_known x w = ⊎_elim
          (λ (s : x ≡ after_tick tasks now e). subst (λ (y : Entry). IsKnown tasks (job_in y)) (sym s) (sound.known e more.added))
          (λ (h : Contains entries x). sound.known x h) w

      back_released : (x : Entry) → Is x → x.number ≤ (release_of releases x.task).number
      unfolding Is
      back_released x w = ⊎_elim
          (λ (s : x ≡ after_tick tasks now e). subst (λ (y : Entry). y.number ≤ (release_of releases y.task).number) (sym s) (sound.released e more.added))
          (λ (h : Contains entries x). sound.released x h) w

      back_one : (a b : Entry) → Contains back a → Contains back b → job_in a ≡ job_in b → a ≡ b
      back_one a b ha hb same =
          let j : job_in (after_tick tasks now e) ≡ job_in e = refl in
          ⊎_elim
          (λ (s : a ≡ after_tick tasks now e). ⊎_elim
          (λ (u : b ≡ after_tick tasks now e). s ∙ sym u)
          (λ (h : Contains left b).
          let k : job_in b ≡ job_in e = sym same ∙ ap job_in s in
          let is = sound.one b e (more.kept b h) more.added k in
          absurd (more.fresh (subst (λ (x : Entry). Contains left x) is h)))
          (put.only b hb))
          (λ (h : Contains left a). ⊎_elim
          (λ (u : b ≡ after_tick tasks now e).
          let k : job_in a ≡ job_in e = same ∙ ap job_in u in
          let is = sound.one a e (more.kept a h) more.added k in
          absurd (more.fresh (subst (λ (x : Entry). Contains left x) is h)))
          (λ (u : Contains left b). sound.one a b (more.kept a h) (more.kept b u) same)
          (put.only b hb))
          (put.only a ha)

      back_held : (a b : Entry) → Is a → Is b → a.begun ≡ true → b.begun ≡ false → 0 < resource_in tasks a → resource_in tasks a ≡ resource_in tasks b → a.deadline ≤ b.deadline
      unfolding Is
      back_held a b wa wb begun not some same =
          ⊎_elim
          (λ (u : b ≡ after_tick tasks now e). let v : b.begun ≡ true = ap (λ (x : Entry). x.begun) u in absurd (both_ways b.begun not v))
          (λ (hb : Contains entries b). ⊎_elim
          (λ (s : a ≡ after_tick tasks now e).
          let m = after_most tasks now e in
          let d : a.deadline ≡ (after_tick tasks now e).deadline = ap (λ (x : Entry). x.deadline) s in
          let l = no_later e b (least.first b hb) in
          omega arith)
          (λ (ha : Contains entries a). sound.held a b ha hb begun not some same)
          wa)
          wb

      after_near : (floor : ℕ) → floor_of tasks (resource_in tasks e) ≡ Some floor → (after_tick tasks now e).deadline ≤ now + 1 + floor
      after_near floor is =
          let f = floor_of tasks (resource_in tasks e) in
          ⊎_elim
          (λ (b : e.begun ≡ true).
          let c = cond-true e.begun e.deadline (lowered e.deadline now f) b in
          let n = sound.near e more.added b floor is in
          omega arith)
          (λ (b : e.begun ≡ false).
          let c = cond-false e.begun e.deadline (lowered e.deadline now f) b in
          let l = lowered_near e.deadline now floor f is in
          omega arith)
          (cases_Bool e.begun)

      back_near : (a : Entry) → Is a → a.begun ≡ true → (floor : ℕ) → floor_of tasks (resource_in tasks a) ≡ Some floor → a.deadline ≤ now + 1 + floor
      unfolding Is
      back_near a w begun floor is = ⊎_elim
          (λ (s : a ≡ after_tick tasks now e).
          let d : a.deadline ≡ (after_tick tasks now e).deadline = ap (λ (x : Entry). x.deadline) s in
          let r : resource_in tasks a ≡ resource_in tasks e = ap (resource_in tasks) s in
          let n = after_near floor (ap (floor_of tasks) (sym r) ∙ is) in
          omega arith)
          (λ (h : Contains entries a). let n = sound.near a h begun floor is in omega arith) w

      pub sound_back : now + 1 ≤ 2 ^ 63 → IsSound tasks back (now + 1) releases
      sound_back clock = record {
        set = sound.set;
        long = sound.long;
        clock = clock;
        known = λ x has. back_known x (which x has);
        released = λ x has. back_released x (which x has);
        past = λ task. let p = sound.past task in omega arith;
        one = back_one;
        held = λ a b ha hb. back_held a b (which a ha) (which b hb);
        near = λ a has. back_near a (which a has);
      }

  -- one job more
  module _ (job : Job) (known : IsKnown tasks job) (next : job.number ≡ (release_of releases job.task).number + 1) (more : List Entry) (put : HasOneMore entries (released tasks now job) more) where
    new : LastJob
    new = record { number = job.number; arrival = now }

    after : List LastJob
    after = set releases (job.task - 1) new

    -- the releases after this one
    release_same : release_of after job.task ≡ new
    unfolding after
    release_same =
        let l = sound.long in
        let o = known.0 in
        let k = known.1 in
        numbered_or_place after job.task no_release o ∙ get_or-set_same releases (job.task - 1) new no_release (omega arith)

    release_other : (task : ℕ) → (task ≡ job.task → ⊥) → release_of after task ≡ release_of releases task
    unfolding after
    release_other zero ne = refl
    release_other (suc i) ne =
        let o = known.0 in
        numbered_or_place after (suc i) no_release (omega arith)
        ∙ get_or-set_other releases (job.task - 1) (suc i - 1) new no_release (λ e. ne (omega arith))
        ∙ sym (numbered_or_place releases (suc i) no_release (omega arith))

    grows : (x : Entry) → Contains entries x → x.number ≤ (release_of after x.task).number
    unfolding new
    grows x has =
        let l = sound.released x has in
        let k = sound.known x has in
        ⊎_elim
        (λ (e : x.task ≡ job.task).
        let r : release_of after x.task ≡ new = ap (release_of after) e ∙ release_same in
        let n : (release_of after x.task).number ≡ job.number = ap (λ (y : LastJob). y.number) r in
        let m : (release_of releases x.task).number ≡ (release_of releases job.task).number = ap (λ (y : ℕ). (release_of releases y).number) e in
        omega arith)
        (λ (ne : x.task ≡ job.task → ⊥).
        let r = release_other x.task ne in
        let n : (release_of after x.task).number ≡ (release_of releases x.task).number = ap (λ (y : LastJob). y.number) r in
        omega arith)
        (cases_eq x.task job.task)

    past_after : (task : ℕ) → (release_of after task).arrival ≤ now
    unfolding new
    past_after task =
        ⊎_elim
        (λ (e : task ≡ job.task).
        let r : release_of after task ≡ new = ap (release_of after) e ∙ release_same in
        let n : (release_of after task).arrival ≡ now = ap (λ (y : LastJob). y.arrival) r in
        omega arith)
        (λ (ne : task ≡ job.task → ⊥).
        let r = release_other task ne in
        let n : (release_of after task).arrival ≡ (release_of releases task).arrival = ap (λ (y : LastJob). y.arrival) r in
        let p = sound.past task in
        omega arith)
        (cases_eq task job.task)

    new_one : (a : Entry) → Contains entries a → job_in a ≡ job → ⊥
    new_one a has same =
        let l = sound.released a has in
        let t : a.task ≡ job.task = ap (λ (j : Job). j.task) same in
        let n : a.number ≡ job.number = ap (λ (j : Job). j.number) same in
        let m : (release_of releases a.task).number ≡ (release_of releases job.task).number = ap (λ (y : ℕ). (release_of releases y).number) t in
        omega arith

    more_one : (a b : Entry) → Contains more a → Contains more b → job_in a ≡ job_in b → a ≡ b
    more_one a b ha hb same =
        ⊎_elim
        (λ (s : a ≡ released tasks now job). ⊎_elim
        (λ (u : b ≡ released tasks now job). s ∙ sym u)
        (λ (h : Contains entries b). absurd (new_one b h (sym same ∙ ap job_in s)))
        (put.only b hb))
        (λ (h : Contains entries a). ⊎_elim
        (λ (u : b ≡ released tasks now job). absurd (new_one a h (same ∙ ap job_in u)))
        (λ (u : Contains entries b). sound.one a b h u same)
        (put.only b hb))
        (put.only a ha)

    old_begun : (a : Entry) → Contains more a → a.begun ≡ true → Contains entries a
    old_begun a has begun =
        ⊎_elim
        (λ (s : a ≡ released tasks now job). let f : a.begun ≡ false = ap (λ (x : Entry). x.begun) s in absurd (both_ways a.begun f begun))
        (λ (h : Contains entries a). h)
        (put.only a has)

    more_held : (a b : Entry) → Contains more a → Contains more b → a.begun ≡ true → b.begun ≡ false → 0 < resource_in tasks a → resource_in tasks a ≡ resource_in tasks b → a.deadline ≤ b.deadline
    more_held a b ha hb begun not some same =
        let h = old_begun a ha begun in
        ⊎_elim
        (λ (s : b ≡ released tasks now job).
        let k = sound.known a h in
        let d : b.deadline ≡ now + within (task_in tasks job) = ap (λ (x : Entry). x.deadline) s in
        let r : resource_in tasks b ≡ (task_in tasks job).resource = ap (resource_in tasks) s in
        let f = floor_some tasks (task_of tasks a.task) (has_task tasks a.task k.0 k.1) some in
        let n = sound.near a h begun (floor_at tasks (task_of tasks a.task)) f in
        let q : floor_of tasks (task_in tasks job).resource ≡ Some (floor_at tasks (task_of tasks a.task)) = ap (floor_of tasks) (sym (same ∙ r)) ∙ f in
        let w = floor_within tasks job.task (floor_at tasks (task_of tasks a.task)) known.0 known.1 (omega arith) q in
        omega arith)
        (λ (u : Contains entries b). sound.held a b h u begun not some same)
        (put.only b hb)

    more_known : (x : Entry) → Contains more x → IsKnown tasks (job_in x)
    more_known x has = ⊎_elim
        (λ (s : x ≡ released tasks now job). subst (λ (y : Entry). IsKnown tasks (job_in y)) (sym s) known)
        (λ (h : Contains entries x). sound.known x h)
        (put.only x has)

    more_released : (x : Entry) → Contains more x → x.number ≤ (release_of after x.task).number
    unfolding new
    more_released x has = ⊎_elim
        (λ (s : x ≡ released tasks now job).
        let n : (release_of after job.task).number ≡ job.number = ap (λ (y : LastJob). y.number) release_same in
        subst (λ (y : Entry). y.number ≤ (release_of after y.task).number) (sym s) (omega arith))
        (λ (h : Contains entries x). grows x h)
        (put.only x has)

    pub sound_more : IsSound tasks more now (set releases (job.task - 1) (record { number = job.number; arrival = now }))
    unfolding after new
    sound_more = record {
      set = sound.set;
      long = length-set releases (job.task - 1) new ∙ sound.long;
      clock = sound.clock;
      known = more_known;
      released = more_released;
      past = past_after;
      one = more_one;
      held = more_held;
      near = λ a has begun. sound.near a (old_begun a has begun) begun;
    }

-- no task had a release
none_at : (n i : ℕ) → get_or (replicate n no_release) i no_release ≡ no_release
none_at n i =
    ⊎_elim
    (λ (l : i < n). get_or-replicate n i no_release no_release l)
    (λ (g : n ≤ i). get_or_past (replicate n no_release) i no_release (let l = length-replicate n no_release in omega arith))
    (cases_lt i n)

pub none_released : (n task : ℕ) → release_of (replicate n no_release) task ≡ no_release
none_released n zero = refl
none_released n (suc i) = numbered_or_place (replicate n no_release) (suc i) no_release (omega arith) ∙ none_at n (suc i - 1)

-- at the start
pub sound_start : (tasks : List Task) → IsTaskSet tasks → IsSound tasks [] 0 (replicate (length tasks) no_release)
sound_start tasks set' = record {
  set = set';
  long = length-replicate (length tasks) no_release;
  clock = omega arith;
  known = λ x has. absurd (let b = has.1 in omega arith);
  released = λ x has. absurd (let b = has.1 in omega arith);
  past = λ task. let e = none_released (length tasks) task in let z : (release_of (replicate (length tasks) no_release) task).arrival ≡ 0 = ap (λ (y : LastJob). y.arrival) e in omega arith;
  one = λ a b ha hb same. absurd (let l = ha.1 in omega arith);
  held = λ a b ha hb begun not some same. absurd (let l = ha.1 in omega arith);
  near = λ a has begun floor e. absurd (let l = has.1 in omega arith);
}
