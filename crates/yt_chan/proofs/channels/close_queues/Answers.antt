use Rattle.std.proofs.Common.{◌≡◌, ◌+◌, ◌%◌, List, eqb, length, arith, ap, refl, sym, ◌∙◌, subst}
use Rattle.yt_chan.specs.declared.queue.WireQueue.{WireQueue}
use Rattle.yt_chan.specs.Inside.Queues.{closed_by}
use Rattle.yt_chan.specs.Wires.{wire_of_out}
use Rattle.yt_chan.proofs.Closes.{AreClosed, closed_more, closed_none, closed_all}
use Rattle.yt_chan.proofs.NextTimes.{queue_is, wire_is}
use Rattle.yt_chan.proofs.channels.close_queues.Goals as goal
use Rattle.yt_chan.proofs.channels.close_queues.Goals.{then-k-wires, else-k-wires}

pub loop-out-init : goal.loop-out-init
loop-out-init c = record {
  done = λ k lt p o. let b = (c.requires.table.outs k lt).0 in absurd (omega arith);
  rest = λ k h. refl;
}

pub loop-out-preserved : goal.loop-out-preserved
loop-out-preserved c =
    let wires = c.args.wires.now in
    let now = c.loop-out.queues in
    let old = c.args.queues.now in
    let n = c.loop-out.out in
    let k = c.table_at-k.result in
    let long = c.requires.long in
    let a = c.loop-out.auto.queues in
    let line : k ≡ wire_of_out wires c.args.job.task n = c.table_at-k.ensures (length wires) ∙ c.requires.table.each c.args.job.task n c.requires.there (let b = c.loop-out-test.true in omega arith) in
    elim c.if-k-wires.branch [
      | then-k-wires b ↦
          let wire = b.index-wires-k.result in
          let queue = b.index-queues-k.result in
          let new = b.close.new.self in
          let lt = b.if-k-wires.true in
          let w = wire_is wires k wire lt b.index-wires-k.is in
          let l = queue_is now k queue (omega arith) b.index-queues-k.is in
          subst (λ (ls : List WireQueue). AreClosed wires old ls c.args.job c.args.arrival (n + 1)) (sym b.queues-is)
          (closed_more wires c.args.table.now old now c.args.job c.args.arrival n k wire queue new c.requires.table c.loop-out.invariant line lt (omega arith) w l
          (b.close.ensures ∙ ap (λ (x : WireQueue). closed_by (eqb (c.args.job.number % wire.every) 0) c.args.job.number (c.args.arrival + wire.period) x) (sym b.index-queues-k.is)))
      | else-k-wires b ↦
          subst (λ (ls : List WireQueue). AreClosed wires old ls c.args.job c.args.arrival (n + 1)) (sym b.queues-is)
          (closed_none wires c.args.table.now old now c.args.job c.args.arrival n k c.requires.table c.loop-out.invariant line b.if-k-wires.false)
    ]

pub returns : goal.returns
returns c = λ k lt.
    let long = c.requires.long in
    closed_all c.args.wires.now c.args.table.now c.args.queues.now c.loop-out.queues c.args.job c.args.arrival c.loop-out.out c.requires.table c.loop-out.invariant c.loop-out-test.false k (omega arith)
