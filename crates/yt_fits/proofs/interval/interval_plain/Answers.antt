use Rattle.std.proofs.Common.{refl, arith}
use Rattle.yt_set.proofs.Lemmas.{due_in_periods}
use Rattle.yt_fits.proofs.IntervalLemmas.{fits_from_room, room_beyond, room_between, room_more}
use Rattle.yt_fits.proofs.interval.interval_plain.Goals as goal

pub loop-point-preserved : goal.loop-point-preserved
loop-point-preserved c =
    let tasks = c.args.set.now in
    let point = c.loop-point.point in
    let here = c.in_default.ensures.none refl in
    let more = room_more tasks point c.loop-point.invariant.rooms here in
    let end = c.next_point-point.ensures.end in
    let bound = c.longest-longest.ensures.bound in
    record {
      short = omega arith;
      rooms = room_between tasks point c.next_point-point.result (due_in_periods tasks c.len.ensures.in_range) c.next_point-point.ensures.first more;
    }

pub returns-clause-none : goal.returns-clause-none
returns-clause-none c =
    let tasks = c.args.set.now in
    let rooms = room_beyond tasks c.longest-longest.result c.loop-point.point c.longest-longest.ensures.longest c.loop-point-test.false c.loop-point.invariant.rooms in
    (λ none. fits_from_room tasks rooms, λ fits. refl)
