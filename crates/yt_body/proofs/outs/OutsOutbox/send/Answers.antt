use Rattle.yt_body.proofs.Opens.{adds_send}
use Rattle.yt_body.proofs.outs.OutsOutbox.send.Goals as goal

pub returns-clause-added : goal.returns-clause-added
returns-clause-added c =
    let o = c.args.self.now in
    adds_send o.channels c.send.new.self o.port c.args.out c.args.values.now c.requires.there c.send.ensures.wires.1 c.send.ensures.opens
