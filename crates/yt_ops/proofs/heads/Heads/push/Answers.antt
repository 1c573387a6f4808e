use Rattle.std.proofs.Common.{is_ok}
use Rattle.yt_ops.proofs.Growing.{perhaps_one_more}
use Rattle.yt_ops.proofs.heads.Heads.push.Goals as goal

pub invariant_of-self : goal.invariant_of-self
invariant_of-self c =
    let place = rw (← c.self.view_is) at c.requires.place in
    perhaps_one_more c.self.inside.heads.items c.push.new.self.items c.args.head (is_ok c.push.result) c.self.invariant place c.requires.named c.push.ensures.items
