use Rattle.std.proofs.Common.{◌≡◌, ℕ, ◌+◌, length, arith, subst}
use Rattle.yt_chan.specs.Inside.Next.{Adds, AmongOutputs, targets_of}
use Rattle.yt_chan.proofs.HeadChanges.{adds_none, adds_then, more_outputs}
use Rattle.yt_chan.proofs.next.add_outputs.Goals as goal

pub loop-number-init : goal.loop-number-init
loop-number-init c =
    adds_none (targets_of c.args.kept.now.wires.now c.args.kept.now.queues.now c.args.kept.now.ports.now c.args.kept.now.outputs.now) c.args.heads.now (AmongOutputs c.args.numbers.now 0) c.requires.next
    (λ t among. let b = among.1 in absurd (omega arith))

pub loop-number-preserved : goal.loop-number-preserved
loop-number-preserved c =
    let n = c.loop-number.number-index in
    adds_then (targets_of c.args.kept.now.wires.now c.args.kept.now.queues.now c.args.kept.now.ports.now c.args.kept.now.outputs.now) c.args.heads.now c.loop-number.heads c.add_next.new.heads
    (AmongOutputs c.args.numbers.now n) _ (AmongOutputs c.args.numbers.now (n + 1)) c.loop-number.invariant c.add_next.ensures (λ t among. more_outputs c.args.numbers.now n t among)

pub returns : goal.returns
returns c =
    let T = targets_of c.args.kept.now.wires.now c.args.kept.now.queues.now c.args.kept.now.ports.now c.args.kept.now.outputs.now in
    let e : c.loop-number.number-index ≡ length c.args.numbers.now = let a = c.loop-number-test.false in let b = c.loop-number.auto.number-index-end in omega arith in
    subst (λ (k : ℕ). Adds T c.args.heads.now c.loop-number.heads (AmongOutputs c.args.numbers.now k)) e c.loop-number.invariant
