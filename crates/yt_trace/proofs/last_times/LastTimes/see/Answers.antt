use Rattle.yt_trace.proofs.LastTimes.{see_at}
use Rattle.yt_trace.proofs.last_times.LastTimes.see.Goals as goal

pub returns : goal.returns
returns c = λ before m are same when. see_at c.args.self.now.times before m c.args.input c.args.time c.requires.positive c.requires.within same when are
