use Rattle.yt_chan_tests.proofs.Examples.{none_late, is_free}
use Rattle.yt_chan_tests.proofs.channels.none_comes.Goals as goal

pub deliver_one-requires-clause-none_late : goal.deliver_one-requires-clause-none_late
deliver_one-requires-clause-none_late c = none_late c.args.channels.now c.requires.0 c.args.now c.requires.1 c.requires.2

pub deliver_one-requires-clause-free : goal.deliver_one-requires-clause-free
deliver_one-requires-clause-free c = is_free c.args.channels.now c.requires.0 c.args.now c.requires.1 c.requires.2
