use Rattle.std.proofs.Common.{◌≡◌, ◌<◌, ◌≤◌, List, [], ◌∷◌, ◌++◌, length, get_or, Option, sym, ap, subst, ◌∙◌, arith}
use Rattle.std.proofs.lemmas.Option.{get_or_from_slice_get}
use Rattle.yt_set.specs.declared.task.Task.{Task}
use Rattle.yt_log.specs.declared.job.Job.{Job}
use Rattle.yt_log.specs.declared.plan.PlanItem.{PlanItem}
use Rattle.yt_exec.specs.declared.counts.Counts.{Counts}
use Rattle.yt_exec.specs.Inside.Counting.{left_at, MayBegin}
use Rattle.yt_exec.specs.StandsFor.{IsBodyOf}
use Rattle.yt_exec.proofs.Playings.{item_known, item_may_come, playing_release, playing_tick, none_arrived, tick_counts, on_ok, read_item}
use Rattle.yt_exec.proofs.plays.Playing.advance.Goals as goal
use Rattle.yt_exec.proofs.plays.Playing.advance.Goals.{then-self-len+else-item-now, else-self-len}

pub release-requires-clause-known : goal.release-requires-clause-known
release-requires-clause-known c =
    let s = c.args.self.now in
    let plan = c.args.plan.now in
    let x = c.at-item.result.now in
    let inside : s.next < length plan = let l = c.len.ensures.len in let t = c.if-self-len.true in omega arith in
    item_known s.counts.set.now plan c.requires.legal s.executive s.counts.rows.items s.next s.log c.requires.playing x inside (get_or_from_slice_get plan s.next x x c.at-item.ensures)

pub release-requires-clause-next : goal.release-requires-clause-next
release-requires-clause-next c =
    let s = c.args.self.now in
    let plan = c.args.plan.now in
    let x = c.at-item.result.now in
    let inside : s.next < length plan = let l = c.len.ensures.len in let t = c.if-self-len.true in omega arith in
    let arrived : x.arrival ≤ s.executive.clock = let n = c.now.ensures in let t = c.if-item-now.true in omega arith in
    item_may_come s.counts.set.now plan c.requires.legal s.executive s.counts.rows.items s.next s.log c.requires.playing x inside (get_or_from_slice_get plan s.next x x c.at-item.ensures) arrived

pub returns-then-item-now-clause-playing : goal.returns-then-item-now-clause-playing
returns-then-item-now-clause-playing c =
    let s = c.args.self.now in
    let plan = c.args.plan.now in
    let x = c.at-item.result.now in
    let inside : s.next < length plan = let l = c.len.ensures.len in let t = c.if-self-len.true in omega arith in
    let arrived : x.arrival ≤ s.executive.clock = let n = c.now.ensures in let t = c.if-item-now.true in omega arith in
    let e = c.release.ensures in
    playing_release s.counts.set.now plan c.requires.legal s.executive s.counts.rows.items s.next s.log c.requires.playing x inside (get_or_from_slice_get plan s.next x x c.at-item.ensures) arrived
    c.release.new.self e.tasks e.entries e.spare e.now e.stands

pub returns-clause-playing : goal.returns-clause-playing
returns-clause-playing c =
    let s = c.args.self.now in
    let plan = c.args.plan.now in
    let p = c.requires.playing in
    let e = c.tick-ticked.ensures in
    let new = c.tick-ticked.new.self in
    let rows = c.tick-ticked.new.body.rows.items in
    let first : (x : PlanItem) → s.next < length plan → get_or plan s.next x ≡ x → s.executive.clock < x.arrival =
    elim c.if-self-len.branch [
      | then-self-len+else-item-now w ↦ λ x h is.
          let q = read_item plan s.next x w.at-item.result.now w.at-item.ensures is in
          let a : w.at-item.result.now.arrival ≡ x.arrival = ap (λ (y : PlanItem). y.arrival) q in
          let n = w.now.ensures in
          let t = w.if-item-now.false in
          omega arith
      | else-self-len w ↦ λ x h is. absurd (let l = c.len.ensures.len in let t = w.if-self-len.false in omega arith)
    ] in
    let not_arrived = none_arrived s.counts.set.now plan c.requires.legal s.executive s.counts.rows.items s.next s.log p first in
    let same : c.tick-ticked.new.body.set.now ≡ s.counts.set.now = e.body.set ∙ e.tasks ∙ sym p.body.set in
    let body = subst (λ (ts : List Task). IsBodyOf new ts (left_at rows) (MayBegin ts rows)) same e.body in
    on_ok c.tell.result _ _ c.tell.ensures.ok (λ told. playing_tick s.counts.set.now plan c.requires.legal s.executive s.counts.rows.items s.next s.log p
    new rows c.tick-ticked.result c.tell.new.self (tick_counts (λ (x : Counts). x.rows.items) s.executive new s.counts c.tick-ticked.new.body c.tick-ticked.result e.ticked) e.tasks e.now body e.stands
    (told ∙ ap (λ (o : Option Job). s.log ++ o ∷ []) c.job_of.ensures) not_arrived)
