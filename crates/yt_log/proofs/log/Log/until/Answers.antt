use Rattle.yt_log.proofs.Tells.{Tells_until}
use Rattle.yt_log.proofs.log.Log.until.Goals as goal

pub returns : goal.returns
returns c = Tells_until c.self.inside.segments.items c.self.inside.until c.args.self.now (record { view = c.self.view_is; invariant = c.self.invariant })
