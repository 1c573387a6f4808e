-- Judging items one after the other.
use Rattle.std.proofs.Common.{◌≡◌, ℕ, zero, suc, ◌+◌, ◌-◌, ◌<◌, ◌≤◌, List, length, min, take, drop, replicate, set, get_or, slice_index, Option, Some, None, IfNone, IfSome, IsNone, ◌↔◌, true, false, refl, sym, ap, subst, ◌∙◌, ⊎_elim, arith}
use Rattle.std.proofs.lemmas.Bool.{cases_Bool, cases_lt, cases_eq, cond-true, cond-false, both_ways, false_from_ne_true}
use Rattle.std.proofs.lemmas.List.{take_rest, length-drop, length-take, length-replicate, get_or-take, get_or-replicate, get_or_past, length-set, get_or-set_same, get_or-set_other, get_or-drop}
use Rattle.yt_set.specs.declared.task.Task.{Task}
use Rattle.yt_log.specs.declared.job.Job.{Job}
use Rattle.yt_log.specs.declared.job.Segment.{Segment}
use Rattle.yt_log.specs.declared.judge.miss.Miss.{Miss}
use Rattle.yt_log.specs.declared.plan.PlanItem.{PlanItem}
use Rattle.yt_log.specs.Tasks.{Has}
use Rattle.yt_log.specs.Plan.{deadline_of, IsLegal}
use Rattle.yt_log.specs.Ticks.{Ticks, tick, done, IsMiss, IsLawful, KeepsDeadlines, Misses}
use Rattle.yt_order.specs.Words.{precedes}
use Rattle.yt_log.specs.Segments.{segments_of}
use Rattle.yt_log.specs.Judging.{miss_rank, IsFirstMiss}
use Rattle.yt_log.specs.Inside.Heads.{item_at}
use Rattle.yt_log.specs.EdfDdm.{sooner}
use Rattle.yt_log.specs.Inside.Counts.{ticks_below, AreOrdered, IsNoLater, no_segment, segment_at, TellsMiss, Judges, Passes, rank_of, sooner_miss, IsFirstBelow, AreJudged}
use Rattle.yt_log.proofs.Ticks.{done-zero, done_yes, done_no, tick_or_not}
use Rattle.yt_log.proofs.Plans.{good_item, one_item}
use Rattle.yt_order.proofs.Lemmas.{precedes_either, precedes_one_way}
use Rattle.yt_log.proofs.Places.{placed, has_place, follows}
use Rattle.yt_log.proofs.Counting.{ticks_below-drop, ordered_drop, done_is_ticks}

-- the segments from a place on, as a slice of them
abbrev pub left : List Segment → ℕ → List Segment
left segments n = take (length segments - n) (drop n segments)

pub left_is : (segments : List Segment) (n : ℕ) → left segments n ≡ drop n segments
left_is segments n = take_rest segments n

pub left_ordered : (segments : List Segment) (n : ℕ) → AreOrdered segments → AreOrdered (left segments n)
left_ordered segments n h = let P : List Segment → Type 0 = AreOrdered in subst P (sym (left_is segments n)) (ordered_drop n segments h)

-- nothing is passed
pub passes_none : (segments : List Segment) (item : PlanItem) (old : List ℕ) → slice_index old (item.job.task - 1) ≤ length segments → Passes segments item old old
passes_none segments item old within = record { long = refl; others = λ n ne. refl; within = within; no_later = λ k from to. absurd (omega arith) }

-- the segments at a place of what is left
segment_left : (segments : List Segment) (n k : ℕ) → segment_at (left segments n) k ≡ segment_at segments (n + k)
unfolding segment_at
segment_left segments n k = ap (λ (ss : List Segment). get_or ss k no_segment) (left_is segments n) ∙ get_or-drop n segments k no_segment

pub passes_some : (segments : List Segment) (item : PlanItem) (old : List ℕ) (m : ℕ) → item.job.task - 1 < length old → get_or old (item.job.task - 1) 0 ≤ length segments →
    m ≤ length (left segments (get_or old (item.job.task - 1) 0)) → ((k : ℕ) → k < m → IsNoLater item.job (segment_at (left segments (get_or old (item.job.task - 1) 0)) k)) →
    Passes segments item old (set old (item.job.task - 1) (get_or old (item.job.task - 1) 0 + m))
passes_some segments item old m below within most none =
    let n = item.job.task - 1 in
    let from = get_or old n 0 in
    let new = set old n (from + m) in
    let at : get_or new n 0 ≡ from + m = get_or-set_same old n (from + m) 0 below in
    let long : length (left segments from) ≡ length segments - from = ap (λ (ss : List Segment). length ss) (left_is segments from) ∙ length-drop from segments in
    record {
      long = length-set old n (from + m);
      others = λ k ne. get_or-set_other old n k (from + m) 0 ne;
      within = omega arith;
      no_later = λ k a b.
          let P : Segment → Type 0 = λ s. IsNoLater item.job s in
          let e : from + (k - from) ≡ k = omega arith in
          subst P (segment_left segments from (k - from) ∙ ap (segment_at segments) e) (none (k - from) (omega arith));
    }

-- what is left tells the same of a job that no segment passed is of
pub left_ticks : (segments : List Segment) (n : ℕ) (job : Job) (t : ℕ) → n ≤ length segments → ((k : ℕ) → k < n → (segment_at segments k).job ≡ job → ⊥) → ticks_below (left segments n) job t ≡ ticks_below segments job t
left_ticks segments n job t within other = ap (λ (ss : List Segment). ticks_below ss job t) (left_is segments n) ∙ ticks_below-drop segments job t n other within

pub judged_left : (tasks : List Task) (segments : List Segment) (n h due : ℕ) (item : PlanItem) → n ≤ length segments → ((k : ℕ) → k < n → (segment_at segments k).job ≡ item.job → ⊥) →
    due ≡ deadline_of tasks item → due ≤ h → (result : Option Miss) → IfNone result (item.cost ≤ ticks_below (left segments n) item.job due) →
    IfSome result (λ (miss : Miss). (miss.due ≡ due) × (miss.job ≡ item.job) × (ticks_below (left segments n) item.job due < item.cost)) → Judges tasks segments h item result
judged_left tasks segments n h due item within other is soon None none some =
    let same = left_ticks segments n item.job due within other in
    let there : ticks_below segments item.job due ≡ ticks_below segments item.job (deadline_of tasks item) = ap (ticks_below segments item.job) is in
    λ late. omega (arith, none)
judged_left tasks segments n h due item within other is soon (Some miss) none some =
    let same = left_ticks segments n item.job due within other in
    let there : ticks_below segments item.job due ≡ ticks_below segments item.job (deadline_of tasks item) = ap (ticks_below segments item.job) is in
    record { due = some.0 ∙ is; job = some.1; misses = record { due = omega arith; short = omega (arith, some.2) } }

pub judged_late : (tasks : List Task) (segments : List Segment) (h : ℕ) (item : PlanItem) (result : Option Miss) → result ≡ None → h < deadline_of tasks item → Judges tasks segments h item result
judged_late tasks segments h item result e late = let P : Option Miss → Type 0 = λ r. Judges tasks segments h item r in subst P (sym e) (λ soon. absurd (omega arith))

-- a miss that an item tells has the item's rank
rank_told : (tasks : List Task) (item : PlanItem) (miss : Miss) → miss.due ≡ deadline_of tasks item → miss.job ≡ item.job → miss_rank tasks item ≡ rank_of miss
unfolding miss_rank rank_of
rank_told tasks item miss due job = cc

true_ne_false : true ≡ false → ⊥
true_ne_false e = cc

module _ (tasks : List Task) (plan : List PlanItem) (log : Ticks) (h : ℕ) where
  short_of : (item : PlanItem) (miss : Miss) → TellsMiss tasks (segments_of log) h item miss → IsMiss tasks (done log) h item
  short_of item miss told =
      let d = done_is_ticks log item.job (deadline_of tasks item) in
      let s = told.misses.short in
      record { due = told.misses.due; short = omega arith }

  -- an item that doesn't miss leaves the first miss
  judged_none : (n : ℕ) (first : Option Miss) → AreJudged tasks plan log h n first → Judges tasks (segments_of log) h (item_at plan n) None → AreJudged tasks plan log h (n + 1) first
  judged_none n None judged none = λ k lt short. ⊎_elim (λ (a : k < n). judged k a short) (λ (a : n ≤ k). not_short n none (let P : ℕ → Type 0 = λ m. IsMiss tasks (done log) h (item_at plan m) in subst P (omega arith) short)) (cases_lt k n)
    where
      not_short : (n : ℕ) → Judges tasks (segments_of log) h (item_at plan n) None → IsMiss tasks (done log) h (item_at plan n) → ⊥
      not_short n none short =
          let item = item_at plan n in
          let d = done_is_ticks log item.job (deadline_of tasks item) in
          let all = none short.due in
          let s = short.short in
          omega arith
  judged_none n (Some miss) judged none =
      let b = judged.below in
      record {
        place = judged.place;
        below = omega arith;
        short = judged.short;
        due = judged.due;
        job = judged.job;
        first = λ k lt short. ⊎_elim (λ (a : k < n). judged.first k a short) (λ (a : n ≤ k).
            let P : ℕ → Type 0 = λ m. IsMiss tasks (done log) h (item_at plan m) in
            let late = subst P (omega arith) short in
            let item = item_at plan n in
            let d = done_is_ticks log item.job (deadline_of tasks item) in
            let all = none late.due in
            let s = late.short in
            absurd (omega arith)) (cases_lt k n);
      }

  -- one that misses where none did before
  first_miss_at : (n : ℕ) (miss : Miss) → AreJudged tasks plan log h n None → TellsMiss tasks (segments_of log) h (item_at plan n) miss → IsFirstBelow tasks plan log h (n + 1) miss
  first_miss_at n miss judged told = record {
    place = n;
    below = omega arith;
    short = short_of (item_at plan n) miss told;
    due = told.due;
    job = told.job;
    first = λ k lt short. ⊎_elim (λ (a : k < n). absurd (judged k a short)) (λ (a : n ≤ k). none_itself n k miss told (omega arith)) (cases_lt k n);
  }
    where
      none_itself : (n k : ℕ) (miss : Miss) → TellsMiss tasks (segments_of log) h (item_at plan n) miss → n ≡ k → precedes (miss_rank tasks (item_at plan k)) (rank_of miss) ≡ false
      none_itself n k miss told e =
          let r = rank_told tasks (item_at plan n) miss told.due told.job in
          let P : ℕ → Type 0 = λ m. precedes (miss_rank tasks (item_at plan m)) (rank_of miss) ≡ false in
          let Q : List ℕ → Type 0 = λ x. precedes x (rank_of miss) ≡ false in
          subst P e (subst Q (sym r) (false_from_ne_true _ (λ t. precedes_one_way (rank_of miss) (rank_of miss) t t)))

  -- one that misses comes before the first so far, or after it
  miss_at : (n : ℕ) (first miss : Miss) → IsFirstBelow tasks plan log h n first → TellsMiss tasks (segments_of log) h (item_at plan n) miss → AreJudged tasks plan log h (n + 1) (sooner_miss (Some first) (Some miss))
  unfolding sooner sooner_miss
  miss_at n first miss judged told =
      let r = rank_told tasks (item_at plan n) miss told.due told.job in
      let b = judged.below in
      let P : Option Miss → Type 0 = λ m. AreJudged tasks plan log h (n + 1) m in
      ⊎_elim
      (λ (yes : precedes (rank_of miss) (rank_of first) ≡ true).
      subst P (sym (ap (λ (m : Miss). Some m) (cond-true (precedes (rank_of miss) (rank_of first)) miss first yes))) (record {
        place = n;
        below = omega arith;
        short = short_of (item_at plan n) miss told;
        due = told.due;
        job = told.job;
        first = λ k lt short. false_from_ne_true _ (λ t.
            ⊎_elim
            (λ (a : k < n).
            ⊎_elim
            (λ (x : precedes (miss_rank tasks (item_at plan k)) (rank_of first) ≡ true). both_ways _ (judged.first k a short) x)
            (λ (x : precedes (rank_of first) (rank_of miss) ≡ true). precedes_one_way _ _ x yes)
            (precedes_either _ (rank_of first) _ t))
            (λ (a : n ≤ k).
            let e : k ≡ n = omega arith in
            let Q : List ℕ → Type 0 = λ x. precedes x (rank_of miss) ≡ true in
            let q = subst Q (ap (λ (m : ℕ). miss_rank tasks (item_at plan m)) e ∙ r) t in
            precedes_one_way _ _ q q)
            (cases_lt k n));
      }))
      (λ (no : precedes (rank_of miss) (rank_of first) ≡ false).
      subst P (sym (ap (λ (m : Miss). Some m) (cond-false (precedes (rank_of miss) (rank_of first)) miss first no))) (record {
        place = judged.place;
        below = omega arith;
        short = judged.short;
        due = judged.due;
        job = judged.job;
        first = λ k lt short. ⊎_elim (λ (a : k < n). judged.first k a short) (λ (a : n ≤ k).
            let e : k ≡ n = omega arith in
            let Q : List ℕ → Type 0 = λ x. precedes x (rank_of first) ≡ false in
            subst Q (sym (ap (λ (m : ℕ). miss_rank tasks (item_at plan m)) e ∙ r)) no) (cases_lt k n);
      }))
      (cases_Bool (precedes (rank_of miss) (rank_of first)))

  sooner-none : (first : Option Miss) → sooner_miss first None ≡ first
  unfolding sooner sooner_miss
  sooner-none None = refl
  sooner-none (Some miss) = refl

  -- one item more
  pub judged_more : (n : ℕ) (first result : Option Miss) → AreJudged tasks plan log h n first → Judges tasks (segments_of log) h (item_at plan n) result → AreJudged tasks plan log h (n + 1) (sooner_miss first result)
  unfolding sooner sooner_miss
  judged_more n first None judged none = let P : Option Miss → Type 0 = λ m. AreJudged tasks plan log h (n + 1) m in subst P (sym (sooner-none first)) (judged_none n first judged none)
  judged_more n None (Some miss) judged told = first_miss_at n miss judged told
  judged_more n (Some first) (Some miss) judged told = miss_at n first miss judged told

  -- where none misses
  no_miss : AreJudged tasks plan log h (length plan) None → Misses tasks plan log h → ⊥
  no_miss judged m =
      let p = placed plan m.0 m.1 in
      let P : PlanItem → Type 0 = λ i. IsMiss tasks (done log) h i in
      judged p.place p.within (subst P (sym p.is) m.2)

  -- and where one does
  first_of : (miss : Miss) → AreJudged tasks plan log h (length plan) (Some miss) → IsFirstMiss tasks plan log h miss.job
  first_of miss judged =
      let item = item_at plan judged.place in
      let r = rank_told tasks item miss judged.due judged.job in
      record {
        item = item;
        named = sym judged.job;
        has = has_place plan judged.place judged.below;
        misses = judged.short;
        first = λ other has m.
            let p = placed plan other has in
            let P : PlanItem → Type 0 = λ i. IsMiss tasks (done log) h i in
            let Q : PlanItem → Type 0 = λ i. precedes (miss_rank tasks i) (miss_rank tasks item) ≡ false in
            let R : List ℕ → Type 0 = λ x. precedes (miss_rank tasks (item_at plan p.place)) x ≡ false in
            subst Q p.is (subst R (sym r) (judged.first p.place p.within (subst P (sym p.is) m)));
      }

  a_miss : (job : Job) → IsFirstMiss tasks plan log h job → Misses tasks plan log h
  a_miss job f = (f.item, f.has, f.misses)

  -- the deadline of the items of the job that misses first
  due_of_first : IsLegal tasks plan → (miss : Miss) → AreJudged tasks plan log h (length plan) (Some miss) → (item : PlanItem) → Has plan item → item.job ≡ miss.job → miss.due ≡ deadline_of tasks item
  due_of_first legal miss judged item has named =
      let here = item_at plan judged.place in
      judged.due ∙ ap (λ (i : PlanItem). deadline_of tasks i) (one_item tasks plan legal here item (has_place plan judged.place judged.below) has (sym judged.job ∙ sym named))

  -- a lawful log gives no job more than it costs
  lawful_most : IsLegal tasks plan → IsLawful plan log → (item : PlanItem) → Has plan item → (t : ℕ) → done log item.job t ≤ item.cost
  lawful_most legal lawful item has zero = let z = done-zero log item.job in omega arith
  lawful_most legal lawful item has (suc t) =
      ⊎_elim
      (λ (e : tick log t ≡ Some item.job).
      let l = lawful t item.job e in
      let same = one_item tasks plan legal l.0 item l.1 has l.2 in
      let P : PlanItem → Type 0 = λ i. done log i.job t < i.cost in
      let short = subst P same l.3.unfinished in
      let s = done_yes log item.job t e in
      omega arith)
      (λ (never : tick log t ≡ Some item.job → ⊥). let s = done_no log item.job t never in let rest = lawful_most legal lawful item has t in omega arith)
      (tick_or_not log item.job t)

  keeps_where_no_miss : IsLegal tasks plan → IsLawful plan log → (Misses tasks plan log h → ⊥) → KeepsDeadlines tasks plan log h
  keeps_where_no_miss legal lawful none item has due =
      let most = lawful_most legal lawful item has (deadline_of tasks item) in
      ⊎_elim
      (λ (short : done log item.job (deadline_of tasks item) < item.cost). absurd (none (item, has, record { due = due; short = short })))
      (λ (all : item.cost ≤ done log item.job (deadline_of tasks item)). omega arith)
      (cases_lt (done log item.job (deadline_of tasks item)) item.cost)

  no_miss_where_kept : KeepsDeadlines tasks plan log h → Misses tasks plan log h → ⊥
  no_miss_where_kept keeps m = let k = keeps m.0 m.1 m.2.due in let s = m.2.short in omega arith

  -- what the first miss of all items tells

  pub told_first : (first : Option Miss) → AreJudged tasks plan log h (length plan) first → IfSome first (λ miss. IsFirstMiss tasks plan log h miss.job)
  told_first None judged = tt
  told_first (Some miss) judged = first_of miss judged

  pub told_due : IsLegal tasks plan → (first : Option Miss) → AreJudged tasks plan log h (length plan) first → IfSome first (λ miss. (item : PlanItem) → Has plan item → item.job ≡ miss.job → miss.due ≡ deadline_of tasks item)
  told_due legal None judged = tt
  told_due legal (Some miss) judged = λ item has named. due_of_first legal miss judged item has named

  pub told_none : (first : Option Miss) → AreJudged tasks plan log h (length plan) first → IsNone first ↔ (Misses tasks plan log h → ⊥)
  told_none None judged = (λ e. no_miss judged, λ none. refl)
  told_none (Some miss) judged = (λ e. absurd (true_ne_false e), λ none. absurd (none (a_miss miss.job (first_of miss judged))))

  pub told_keeps : IsLegal tasks plan → (first : Option Miss) → AreJudged tasks plan log h (length plan) first → IsLawful plan log → IsNone first ↔ KeepsDeadlines tasks plan log h
  told_keeps legal None judged lawful = (λ e. keeps_where_no_miss legal lawful (no_miss judged), λ keeps. refl)
  told_keeps legal (Some miss) judged lawful = (λ e. absurd (true_ne_false e), λ keeps. absurd (no_miss_where_kept keeps (a_miss miss.job (first_of miss judged))))

-- for each task so many segments in front that no item from a place on is named in
pub record AreAhead (tasks : List Task) (plan : List PlanItem) (segments : List Segment) (n : ℕ) (seen : List ℕ) : Type 0 where
  pub long : length seen ≡ length tasks
  pub within : (k : ℕ) → slice_index seen k ≤ length segments
  pub unnamed : (m : ℕ) → n ≤ m → m < length plan → (k : ℕ) → k < slice_index seen ((item_at plan m).job.task - 1) → (segment_at segments k).job ≡ (item_at plan m).job → ⊥

zero_at : (size n k : ℕ) (zeros : List ℕ) → zeros ≡ take n (replicate size 0) → n ≤ size → (length zeros ≡ n) × (get_or zeros k 0 ≡ 0)
zero_at size n k zeros e few =
    let all : List ℕ = replicate size 0 in
    let l : length all ≡ size = length-replicate size 0 in
    let m : length (take n all) ≡ min n (length all) = length-take n all in
    let long : length zeros ≡ length (take n all) = ap (λ (xs : List ℕ). length xs) e in
    let at : get_or zeros k 0 ≡ get_or (take n all) k 0 = ap (λ (xs : List ℕ). get_or xs k 0) e in (
      omega arith,
      ⊎_elim
          (λ (lt : k < n). at ∙ get_or-take n all k 0 lt ∙ get_or-replicate size k 0 0 (omega arith))
          (λ (ge : n ≤ k). get_or_past zeros k 0 (omega arith))
          (cases_lt k n),
    )

-- at first none is passed
pub ahead_first : (tasks : List Task) (plan : List PlanItem) (segments : List Segment) (size n : ℕ) (zeros : List ℕ) → zeros ≡ take n (replicate size 0) → n ≡ length tasks → n ≤ size → AreAhead tasks plan segments 0 zeros
ahead_first tasks plan segments size n zeros is e few = record {
  long = (zero_at size n 0 zeros is few).0 ∙ e;
  within = λ k. let z = (zero_at size n k zeros is few).1 in omega arith;
  unnamed = λ p a b k lt. let z = (zero_at size n ((item_at plan p).job.task - 1) zeros is few).1 in absurd (omega arith);
}

-- the items to come are behind what an item's job passes
pub ahead_more : (tasks : List Task) (plan : List PlanItem) → IsLegal tasks plan → (segments : List Segment) (n : ℕ) (old new : List ℕ) → n < length plan → AreAhead tasks plan segments n old → Passes segments (item_at plan n) old new → AreAhead tasks plan segments (n + 1) new
ahead_more tasks plan legal segments n old new lt ahead passes =
    let task = (item_at plan n).job.task - 1 in
    record {
      long = passes.long ∙ ahead.long;
      within = λ k. ⊎_elim
          (λ (e : k ≡ task). let P : ℕ → Type 0 = λ m. slice_index new m ≤ length segments in subst P (sym e) passes.within)
          (λ (ne : k ≡ task → ⊥). let same = passes.others k ne in let w = ahead.within k in omega arith)
          (cases_eq k task);
      unnamed = λ m from below k named is.
          let before = ahead.unnamed m (omega arith) below in
          let its = (item_at plan m).job.task - 1 in
          ⊎_elim
          (λ (e : its ≡ task).
          let P : ℕ → Type 0 = λ x. k < slice_index new x in
          let here = subst P e named in
          let Q : ℕ → Type 0 = λ x. (j : ℕ) → j < slice_index old x → (segment_at segments j).job ≡ (item_at plan m).job → ⊥ in
          ⊎_elim
          (λ (a : k < slice_index old task). subst Q e before k a is)
          (λ (a : slice_index old task ≤ k).
          let no_later = passes.no_later k a here in
          let gn = good_item tasks plan legal (item_at plan n) (has_place plan n lt) in
          let gm = good_item tasks plan legal (item_at plan m) (has_place plan m below) in
          let fn = gn.from_one in
          let fm = gm.from_one in
          let same : (item_at plan n).job.task ≡ (item_at plan m).job.task = omega arith in
          let f = (follows tasks plan legal n m (omega arith) below same).number in
          let t : (segment_at segments k).job.task ≡ (item_at plan n).job.task = ap (λ (j : Job). j.task) is ∙ sym same in
          let number : (segment_at segments k).job.number ≡ (item_at plan m).job.number = ap (λ (j : Job). j.number) is in
          let late = no_later t in
          absurd (omega arith))
          (cases_lt k (slice_index old task)))
          (λ (ne : its ≡ task → ⊥).
          let same = passes.others its ne in
          before k (omega arith) is)
          (cases_eq its task);
    }

-- all items judged
pub all_judged : (tasks : List Task) (items plan : List PlanItem) (log : Ticks) (h n : ℕ) (first result : Option Miss) → items ≡ plan → n ≤ length items → length items ≤ n → first ≡ result → AreJudged tasks plan log h n first → AreJudged tasks plan log h (length plan) result
all_judged tasks items plan log h n first result e most all is judged =
    let long : length items ≡ length plan = ap (λ (xs : List PlanItem). length xs) e in
    let P : ℕ → Type 0 = λ m. AreJudged tasks plan log h m result in
    let Q : Option Miss → Type 0 = λ r. AreJudged tasks plan log h n r in
    let same : n ≡ length plan = omega arith in
    subst P same (subst Q is judged)
