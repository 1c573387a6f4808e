use Rattle.std.proofs.Common.{sym, ◌∙◌, ap}
use Rattle.yt_chan.specs.Inside.Next.{next_at, targets_of}
use Rattle.yt_chan.proofs.HeadChanges.{adds_none, adds_one, one_head, there_within}
use Rattle.yt_chan.proofs.next.add_next.Goals as goal

pub add-requires-clause-within : goal.add-requires-clause-within
add-requires-clause-within c = there_within c.args.kept.now.ports.now c.args.kept.now.outputs.now c.args.target c.requires.readable.few_ports c.requires.readable.few_outputs c.requires.there

pub add-requires-clause-one : goal.add-requires-clause-one
add-requires-clause-one c =
    one_head (targets_of c.args.kept.now.wires.now c.args.kept.now.queues.now c.args.kept.now.ports.now c.args.kept.now.outputs.now) c.args.heads.now c.requires.next c.in-Some.time c.args.target (sym c.in-Some.ensures)

pub returns-in-Some : goal.returns-in-Some
returns-in-Some c =
    adds_one (targets_of c.args.kept.now.wires.now c.args.kept.now.queues.now c.args.kept.now.ports.now c.args.kept.now.outputs.now) c.args.heads.now c.add.new.self c.in-Some.time c.args.target c.requires.next (sym c.in-Some.ensures) c.add.ensures

pub returns-in_default : goal.returns-in_default
returns-in_default c =
    let T = targets_of c.args.kept.now.wires.now c.args.kept.now.queues.now c.args.kept.now.ports.now c.args.kept.now.outputs.now in
    adds_none T c.args.heads.now _ c.requires.next (λ t e. ap (next_at T) e ∙ sym c.in_default.ensures)
