use Rattle.std.proofs.Common.{◌≡◌, ◌<◌, ℕ, List, true, length, get_or, sym, subst}
use Rattle.yt_chan.specs.declared.wire.Wire.{Wire}
use Rattle.yt_chan.specs.Inside.Next.{Adds, AmongOutputs, AmongPorts, targets_of}
use Rattle.yt_chan.specs.Wires.{feeds}
use Rattle.yt_chan.proofs.HeadChanges.{adds_then, listed}
use Rattle.yt_chan.proofs.NextTimes.{wire_is}
use Rattle.yt_chan.proofs.next.add_wire.Goals as goal

pub add_ports-requires-clause-there : goal.add_ports-requires-clause-there
add_ports-requires-clause-there c =
    let w = wire_is c.args.kept.now.wires.now c.args.k c.index-wires-k.result c.requires.there c.index-wires-k.is in
    let P : List ℕ → Type 0 = λ xs. (j : ℕ) → j < length xs → get_or xs j 0 < length c.args.kept.now.ports.now in
    subst P (sym c.as_slice.ensures) (subst (λ (x : Wire). P x.ports) w (λ j lt. c.requires.readable.ports_there c.args.k j c.requires.there lt))

pub add_outputs-requires-clause-there : goal.add_outputs-requires-clause-there
add_outputs-requires-clause-there c =
    let w = wire_is c.args.kept.now.wires.now c.args.k c.index-wires-k.result c.requires.there c.index-wires-k.is in
    let P : List ℕ → Type 0 = λ xs. (j : ℕ) → j < length xs → get_or xs j 0 < length c.args.kept.now.outputs.now in
    subst P (sym c.as_slice-2.ensures) (subst (λ (x : Wire). P x.outputs) w (λ j lt. c.requires.readable.outputs_there c.args.k j c.requires.there lt))

pub returns : goal.returns
returns c =
    let T = targets_of c.args.kept.now.wires.now c.args.kept.now.queues.now c.args.kept.now.ports.now c.args.kept.now.outputs.now in
    let wire = c.index-wires-k.result in
    let w = wire_is c.args.kept.now.wires.now c.args.k wire c.requires.there c.index-wires-k.is in
    let a : Adds T c.args.heads.now c.add_ports.new.heads (AmongPorts wire.ports (length wire.ports)) =
    subst (λ (xs : List ℕ). Adds T c.args.heads.now c.add_ports.new.heads (AmongPorts xs (length xs))) c.as_slice.ensures c.add_ports.ensures in
    let b : Adds T c.add_ports.new.heads c.add_outputs.new.heads (AmongOutputs wire.outputs (length wire.outputs)) =
    subst (λ (xs : List ℕ). Adds T c.add_ports.new.heads c.add_outputs.new.heads (AmongOutputs xs (length xs))) c.as_slice-2.ensures c.add_outputs.ensures in
    adds_then T c.args.heads.now c.add_ports.new.heads c.add_outputs.new.heads _ _ _ a b (λ t h. listed wire t (subst (λ (x : Wire). feeds x t ≡ true) w h))
