use Rattle.yt_witness.specs.declared.pattern.Pattern.TheVariants.{Blocker}
use Rattle.yt_witness.proofs.Misses.{pattern_misses, room_pattern_is}
use Rattle.yt_witness.proofs.pattern.room_pattern.Goals as goal

pub returns-clause-its_pattern : goal.returns-clause-its_pattern
returns-clause-its_pattern c = room_pattern_is c.args.set.now c.args.breach c.requires

pub returns-clause-misses : goal.returns-clause-misses
returns-clause-misses c =
    let breach = c.args.breach in
    pattern_misses c.args.set.now c.len.ensures.in_range (Blocker breach.task breach.len) (room_pattern_is c.args.set.now breach c.requires)
