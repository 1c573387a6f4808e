-- The first tick at which a log leaves the rule is the first at which it breaks anything, and what it breaks there.
use Rattle.std.proofs.Common.{◌≡◌, ℕ, zero, suc, ◌<◌, ◌≤◌, List, length, take, Some, None, refl, sym, ◌∙◌, arith}
use Rattle.std.proofs.lemmas.List.{length-take, get_or-take}
use Rattle.yt_set.specs.declared.task.Task.{Task}
use Rattle.yt_log.specs.declared.job.Job.{Job}
use Rattle.yt_log.specs.declared.plan.PlanItem.{PlanItem}
use Rattle.yt_log.specs.declared.judge.broken.Rule.{Rule}
use Rattle.yt_log.specs.declared.judge.broken.Rule.TheVariants.{Unlawful, Idle, Shared, NotLeast}
use Rattle.yt_log.specs.Tasks.{Has}
use Rattle.yt_log.specs.Plan.{its_task, IsLegal}
use Rattle.yt_log.specs.Ticks.{Ticks, tick, done, IsWaiting, IsActive}
use Rattle.yt_log.specs.EdfDdm.{choice}
use Rattle.yt_log.specs.Laws.{IsSafe}
use Rattle.yt_log.specs.Judging.{NamesUnwaiting, IdlesWhileWaiting, SharesResource, LeavesRule, Breaks, place_of, IsFirstBroken}
use Rattle.yt_log.proofs.Ticks.{done-zero, done_grows}
use Rattle.yt_log.proofs.Made.{Agree, done_same, choice_same}
use Rattle.yt_log.proofs.Exclusions.{rule_is_safe}

module _ (tasks : List Task) (plan : List PlanItem) (legal : IsLegal tasks plan) (log : Ticks) (t : ℕ) (within : t ≤ length log) (ruled : (u : ℕ) → u < t → tick log u ≡ choice tasks plan log u) where
  -- the log's first t ticks
  front : Ticks
  front = take t log

  front_long : length (take t log) ≡ t
  front_long = let l = length-take t log in omega arith

  agree : (n : ℕ) → n ≤ t → Agree (take t log) log n
  unfolding tick
  agree n h u lt = get_or-take t log u None (omega arith)

  front_safe : IsSafe tasks plan (take t log)
  front_safe = rule_is_safe tasks plan legal (take t log) (λ u lt.
      let long = front_long in
      let below : u < t = omega arith in
      agree t (omega arith) u below ∙ ruled u below ∙ sym (choice_same tasks plan (take t log) log u (agree u (omega arith))))

  -- what waits or is active there is so in the log
  waiting_front : (u : ℕ) → u ≤ t → (item : PlanItem) → IsWaiting (take t log) u item → IsWaiting log u item
  waiting_front u h item w =
      let same = done_same (take t log) log item.job u (agree u h) in
      let short = w.unfinished in
      record { arrived = w.arrived; unfinished = omega arith }

  front_waiting : (u : ℕ) → u ≤ t → (item : PlanItem) → IsWaiting log u item → IsWaiting (take t log) u item
  front_waiting u h item w =
      let same = done_same (take t log) log item.job u (agree u h) in
      let short = w.unfinished in
      record { arrived = w.arrived; unfinished = omega arith }

  front_active : (u : ℕ) → u < t → (item : PlanItem) → IsActive log u item → IsActive (take t log) u item
  front_active u h item a =
      let same = done_same (take t log) log item.job u (agree u (omega arith)) in
      let next = done_same (take t log) log item.job (suc u) (agree (suc u) (omega arith)) in
      let begun = a.begun in
      let short = a.unfinished in
      record { begun = omega arith; unfinished = omega arith }

  -- below t the log breaks nothing
  pub unbroken_before : (u : ℕ) (rule : Rule) → u < t → Breaks rule tasks plan log u → ⊥
  unbroken_before u Unlawful h b =
      let l = front_safe.lawful u b.job (agree t (omega arith) u h ∙ b.named) in
      b.unwaiting (l.0, l.1, l.2, waiting_front u (omega arith) l.0 l.3)
  unbroken_before u Idle h b =
      let long = front_long in
      front_safe.work_conserving u (omega arith) (agree t (omega arith) u h ∙ b.idle) b.item b.has (front_waiting u (omega arith) b.item b.waiting)
  unbroken_before u Shared h b =
      let long = front_long in
      b.differ (front_safe.exclusive u (omega arith) b.one b.other b.has_one b.has_other b.held b.shared (front_active u h b.one b.active_one) (front_active u h b.other b.active_other))
  unbroken_before u NotLeast h b = b.elsewhere (ruled u h)

  -- two items under one resource that have begun below t, and are not done, are one
  pub begun_before : (a b : PlanItem) → Has plan a → Has plan b → 0 < (its_task tasks a).resource → (its_task tasks a).resource ≡ (its_task tasks b).resource →
      0 < done log a.job t → done log a.job t < a.cost → 0 < done log b.job t → done log b.job t < b.cost → a.job ≡ b.job
  begun_before a b ha hb held same pa sa pb sb = last_tick t refl a b ha hb held same pa sa pb sb
    where
      last_tick : (n : ℕ) → n ≡ t → (a b : PlanItem) → Has plan a → Has plan b → 0 < (its_task tasks a).resource → (its_task tasks a).resource ≡ (its_task tasks b).resource →
          0 < done log a.job n → done log a.job n < a.cost → 0 < done log b.job n → done log b.job n < b.cost → a.job ≡ b.job
      last_tick zero e a b ha hb held same pa sa pb sb = let z = done-zero log a.job in absurd (omega arith)
      last_tick (suc n) e a b ha hb held same pa sa pb sb =
          let long = front_long in
          let below : n < t = omega arith in
          let ga = done_grows log a.job n (suc n) (omega arith) in
          let gb = done_grows log b.job n (suc n) (omega arith) in
          front_safe.exclusive n (omega arith) a b ha hb held same
          (front_active n below a (record { begun = pa; unfinished = omega arith }))
          (front_active n below b (record { begun = pb; unfinished = omega arith }))

  -- the first rule that tick t breaks
  pub unlawful_first : NamesUnwaiting plan log t → IsFirstBroken tasks plan log (record { tick = t; rule = Unlawful })
  unlawful_first b = record { breaks = b; earliest = λ u rule lt. unbroken_before u rule lt; foremost = λ rule lt. absurd (omega arith) }

  pub idle_first : IdlesWhileWaiting plan log t → IsFirstBroken tasks plan log (record { tick = t; rule = Idle })
  idle_first b = record { breaks = b; earliest = λ u rule lt. unbroken_before u rule lt; foremost = before }
    where
      before : (rule : Rule) → place_of rule < 1 → Breaks rule tasks plan log t → ⊥
      before Unlawful lt u = let x = sym b.idle ∙ u.named in cc
      before Idle lt u = absurd (omega arith)
      before Shared lt u = absurd (omega arith)
      before NotLeast lt u = absurd (omega arith)

  -- the tick goes to an item that waits
  module _ (item : PlanItem) (has : Has plan item) (waiting : IsWaiting log t item) (named : tick log t ≡ Some item.job) where
    not_unlawful : NamesUnwaiting plan log t → ⊥
    not_unlawful u = let e : item.job ≡ u.job = same_some item.job u.job (sym named ∙ u.named) in u.unwaiting (item, has, e, waiting)
      where
        same_some : (a b : Job) → Some a ≡ Some b → a ≡ b
        same_some a b e = cc

    not_idle : IdlesWhileWaiting plan log t → ⊥
    not_idle u = let x = sym named ∙ u.idle in cc

    pub shared_first : SharesResource tasks plan log t → IsFirstBroken tasks plan log (record { tick = t; rule = Shared })
    shared_first b = record { breaks = b; earliest = λ u rule lt. unbroken_before u rule lt; foremost = before }
      where
        before : (rule : Rule) → place_of rule < 2 → Breaks rule tasks plan log t → ⊥
        before Unlawful lt u = not_unlawful u
        before Idle lt u = not_idle u
        before Shared lt u = absurd (omega arith)
        before NotLeast lt u = absurd (omega arith)

    pub not_least_first : (SharesResource tasks plan log t → ⊥) → LeavesRule tasks plan log t → IsFirstBroken tasks plan log (record { tick = t; rule = NotLeast })
    not_least_first apart b = record { breaks = b; earliest = λ u rule lt. unbroken_before u rule lt; foremost = before }
      where
        before : (rule : Rule) → place_of rule < 3 → Breaks rule tasks plan log t → ⊥
        before Unlawful lt u = not_unlawful u
        before Idle lt u = not_idle u
        before Shared lt u = apart u
        before NotLeast lt u = absurd (omega arith)
