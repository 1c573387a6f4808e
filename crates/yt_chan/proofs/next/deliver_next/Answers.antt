use Rattle.std.proofs.Common.{◌<◌, length, refl, sym, subst, arith}
use Rattle.yt_chan.specs.declared.target.Arrived.{Arrived}
use Rattle.yt_chan.specs.Inside.Sound.{StartsHandlingIn, IsThere}
use Rattle.yt_chan.proofs.Arrivals.{can_port, can_output, arrives_port, arrives_output, handles_port}
use Rattle.yt_chan.proofs.next.deliver_next.Goals as goal

pub arrive-requires : goal.arrive-requires
arrive-requires c = can_port c.args.queues.now c.args.ports.now c.args.outputs.now c.in-Port.port c.index-ports-port.result c.args.target c.in-Port.is c.requires.there c.requires.can

pub arrive-requires-in-Output : goal.arrive-requires-in-Output
arrive-requires-in-Output c =
    can_output c.args.queues.now c.args.ports.now c.args.outputs.now c.in-Output.output c.index-outputs-output.result c.args.target c.in-Output.is c.requires.there c.requires.can

pub returns-in-Port-clause-placed : goal.returns-in-Port-clause-placed
returns-in-Port-clause-placed c =
    arrives_port c.args.queues.now c.args.ports.now c.args.outputs.now c.in-Port.port c.index-ports-port.result c.arrive.new.inbox c.args.target c.in-Port.is c.requires.there c.arrive.ensures

pub returns-in-Port-clause-handled : goal.returns-in-Port-clause-handled
returns-in-Port-clause-handled c =
    let lt : c.in-Port.port < length c.args.ports.now = subst (IsThere c.args.ports.now c.args.outputs.now) c.in-Port.is c.requires.there in
    let l = c.requires.long in
    handles_port c.args.jobs.now c.in-Port.port c.args.target c.in-Port.is (omega arith)

pub returns-in-Output-clause-placed : goal.returns-in-Output-clause-placed
returns-in-Output-clause-placed c =
    arrives_output c.args.queues.now c.args.ports.now c.args.outputs.now c.in-Output.output c.index-outputs-output.result c.arrive-in-Output.new.inbox c.args.target c.in-Output.is c.requires.there c.arrive-in-Output.ensures

pub returns-in-Output-clause-handled : goal.returns-in-Output-clause-handled
returns-in-Output-clause-handled c = subst (λ (t : Arrived). StartsHandlingIn c.args.jobs.now c.args.jobs.now t) (sym c.in-Output.is) (λ p. refl)
