use Rattle.std.proofs.Common.{length, ◌∙◌, ap, arith}
use Rattle.yt_chan.specs.declared.port.PortJob.{PortJob}
use Rattle.yt_chan_tests.proofs.Examples.{close_is, is_apart}
use Rattle.yt_chan_tests.proofs.channels.close.Goals as goal

pub close_job-requires : goal.close_job-requires
close_job-requires c =
    let is = c.requires.1 in
    let can = c.requires.2 in
    let there = can.there in
    let l = ap length is.widths in
    let j = is.jobs c.args.port in
    let n = ap (λ (x : PortJob). x.number) j in
    let e = can.next in
    record {
      there = (there.0, omega arith);
      handled = ap (λ (x : PortJob). x.in_handling) j ∙ can.handled;
      next = omega arith;
      early = can.early;
      apart = is_apart c.args.channels.now c.requires.0 c.args.port c.args.number c.args.arrival is can;
    }

pub returns : goal.returns
returns c = λ known is.
    close_is c.args.channels.now c.close_job.new.self known c.args.port c.args.number c.args.arrival is c.requires.2.there.0 c.close_job.ensures.wires c.close_job.ensures.waits c.close_job.ensures.opens c.close_job.ensures.jobs
