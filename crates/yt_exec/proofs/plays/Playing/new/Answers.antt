use Rattle.std.proofs.Common.{◌≡◌, length, sym, ap, subst, ◌∙◌}
use Rattle.yt_log.specs.Ticks.{Ticks}
use Rattle.yt_exec.specs.Inside.Counting.{IsPlaying}
use Rattle.yt_exec.specs.Moments.{start}
use Rattle.yt_exec.proofs.Playings.{playing_start}
use Rattle.yt_exec.proofs.plays.Playing.new.Goals as goal

pub returns-clause-playing : goal.returns-clause-playing
returns-clause-playing c =
    let plan = c.args.plan.now in
    let set = c.args.set.now in
    let x = c.in_ok-executive.executive in
    let rows = c.in_ok-counts.counts.rows.items in
    let is : x ≡ start set (length plan) = c.in_ok-executive.ensures.start ∙ ap (start set) c.len.ensures.len in
    let p = playing_start set plan x rows is c.in_ok-executive.ensures.stands c.in_ok-counts.ensures.told c.in_ok-counts.ensures.idle in
    subst (λ (ts : Ticks). IsPlaying set plan x rows 0 ts) (sym c.new.ensures) p
