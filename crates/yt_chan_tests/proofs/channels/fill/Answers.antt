use Rattle.std.proofs.Common.{ℕ, List, length, sym, ◌∙◌, ap, arith}
use Rattle.yt_chan.specs.Wires.{width_of}
use Rattle.yt_chan.specs.declared.port.PortJob.{PortJob}
use Rattle.yt_chan_tests.specs.Example.{begun}
use Rattle.yt_chan_tests.proofs.Examples.{handled_now, put_is, width_one}
use Rattle.yt_chan_tests.proofs.channels.fill.Goals as goal

pub put-requires-clause-there : goal.put-requires-clause-there
put-requires-clause-there c = let l = ap length c.requires.1.widths in let there = c.requires.2.1.there in (there.0, omega arith)

pub put-requires-clause-wide : goal.put-requires-clause-wide
put-requires-clause-wide c =
    let there = c.requires.2.1.there in
    sym (ap (λ (ws : List ℕ). width_of ws c.args.port) c.requires.1.widths ∙ width_one c.args.port there.0 there.1)

pub put-requires-clause-free : goal.put-requires-clause-free
put-requires-clause-free c = ap (λ (j : PortJob). j.in_handling) (c.requires.1.jobs c.args.port) ∙ c.requires.2.1.free

pub send-requires : goal.send-requires
send-requires c =
    let known = c.requires.0 in
    let can = c.requires.2.1 in (
      begun known c.args.port,
      put_is c.args.channels.now c.put.new.self known c.args.port c.requires.1 c.put.ensures.wires c.put.ensures.handles c.put.ensures.waits c.put.ensures.opens,
      (c.requires.2.0, record { wired = can.wired; handled = handled_now known c.args.port; room = can.room; one = can.one }),
    )

pub returns : goal.returns
returns c = λ known is.
    c.send.ensures (begun known c.args.port) (put_is c.args.channels.now c.put.new.self known c.args.port is c.put.ensures.wires c.put.ensures.handles c.put.ensures.waits c.put.ensures.opens)
