use Rattle.std.proofs.Common.{◌≡◌, ◌<◌, ℕ, ◌+◌, List, true, length, sym, ◌∙◌, subst, arith, inl, inr, ⊎_elim}
use Rattle.yt_chan.specs.declared.heads.Head.{Head}
use Rattle.yt_chan.specs.Inside.Next.{Adds, AmongOuts, targets_of}
use Rattle.yt_chan.specs.Wires.{wire_of_out, feeds, wire_at}
use Rattle.yt_chan.proofs.HeadChanges.{adds_none, adds_then, adds_as, more_outs, of_port}
use Rattle.yt_chan.proofs.next.add_job.Goals as goal
use Rattle.yt_chan.proofs.next.add_job.Goals.{then-k-wires, else-k-wires}

pub loop-out-init : goal.loop-out-init
loop-out-init c =
    adds_none (targets_of c.args.kept.now.wires.now c.args.kept.now.queues.now c.args.kept.now.ports.now c.args.kept.now.outputs.now) c.args.heads.now _ c.requires.next (λ t among. let a = among.1 in let b = among.2 in absurd (omega arith))

pub loop-out-preserved : goal.loop-out-preserved
loop-out-preserved c =
    let wires = c.args.kept.now.wires.now in
    let T = targets_of wires c.args.kept.now.queues.now c.args.kept.now.ports.now c.args.kept.now.outputs.now in
    let n = c.loop-out.out in
    let there = c.requires.there in
    let k = c.table_at-k.result in
    let line : k ≡ wire_of_out wires c.args.task n = c.table_at-k.ensures (length wires) ∙ c.requires.table.each c.args.task n there.1 (let b = c.loop-out-test.true in omega arith) in
    elim c.if-k-wires.branch [
      | then-k-wires w ↦
          subst (λ (hs : List Head). Adds T c.args.heads.now hs (AmongOuts wires c.args.task (n + 1))) (sym w.heads-is)
          (adds_then T c.args.heads.now c.loop-out.heads w.add_wire.new.heads (AmongOuts wires c.args.task n) (λ t. feeds (wire_at wires k) t ≡ true) (AmongOuts wires c.args.task (n + 1)) c.loop-out.invariant w.add_wire.ensures
          (λ t among. ⊎_elim
          (λ (a : AmongOuts wires c.args.task n t). inl a)
          (λ (b : (wire_of_out wires c.args.task n < length wires) × (feeds (wire_at wires (wire_of_out wires c.args.task n)) t ≡ true)). inr (subst (λ (m : ℕ). feeds (wire_at wires m) t ≡ true) (sym line) b.1))
          (more_outs wires c.args.task n t among)))
      | else-k-wires w ↦
          subst (λ (hs : List Head). Adds T c.args.heads.now hs (AmongOuts wires c.args.task (n + 1))) (sym w.heads-is)
          (adds_as T c.args.heads.now c.loop-out.heads (AmongOuts wires c.args.task n) (AmongOuts wires c.args.task (n + 1)) c.loop-out.invariant
          (λ t among. ⊎_elim
          (λ (a : AmongOuts wires c.args.task n t). a)
          (λ (b : (wire_of_out wires c.args.task n < length wires) × (feeds (wire_at wires (wire_of_out wires c.args.task n)) t ≡ true)). let l = b.0 in let g = w.if-k-wires.false in absurd (omega arith))
          (more_outs wires c.args.task n t among)))
    ]

pub returns : goal.returns
returns c =
    let wires = c.args.kept.now.wires.now in
    let T = targets_of wires c.args.kept.now.queues.now c.args.kept.now.ports.now c.args.kept.now.outputs.now in
    adds_as T c.args.heads.now c.loop-out.heads (AmongOuts wires c.args.task c.loop-out.out) _ c.loop-out.invariant
    (λ t e. of_port wires c.args.table.now c.args.task c.loop-out.out t c.requires.table c.requires.there.0 c.loop-out-test.false e)
