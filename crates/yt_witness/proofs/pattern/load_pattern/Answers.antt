use Rattle.yt_witness.specs.declared.pattern.Pattern.TheVariants.{All}
use Rattle.yt_witness.proofs.Misses.{load_pattern_is, pattern_misses}
use Rattle.yt_witness.proofs.pattern.load_pattern.Goals as goal

pub returns-clause-its_pattern : goal.returns-clause-its_pattern
returns-clause-its_pattern c = load_pattern_is c.args.set.now c.args.sum c.requires

pub returns-clause-misses : goal.returns-clause-misses
returns-clause-misses c =
    pattern_misses c.args.set.now c.len.ensures.in_range (All c.args.sum.whole) (load_pattern_is c.args.set.now c.args.sum c.requires)
