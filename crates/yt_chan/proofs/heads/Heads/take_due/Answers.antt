use Rattle.std.proofs.Common.{◌≤◌, sym, inl, inr, arith}
use Rattle.std.proofs.lemmas.Grind.{common_steps}
use Rattle.std.specs.Vec.{vec_capacity}
use Rattle.yt_order.proofs.Lemmas.{popped_falls, taken_popped}
use Rattle.yt_chan.specs.Inside.Heads.{comes_before}
use Rattle.yt_chan.proofs.HeadOrder.{heads_are_ordered}
use Rattle.yt_chan.proofs.HeadList.{first_popped, popped_apart}
use Rattle.yt_chan.proofs.heads.Heads.take_due.Goals as goal

pub returns-in_err-head-clause-due : goal.returns-in_err-head-clause-due
returns-in_err-head-clause-due c = rw c.from_residual.ensures (inl c.in_err-head.ensures)

pub returns-then-head-now-clause-due : goal.returns-then-head-now-clause-due
returns-then-head-now-clause-due c = inr (c.in_ok-head.head, c.in_ok-head.ensures, c.if-head-now.true)

pub invariant_of-self : goal.invariant_of-self
invariant_of-self c =
    let i = c.self.inside.heads in
    (popped_falls comes_before i.items c.pop.new.self.items c.pop.result c.pop.ensures.items c.self.invariant.0, popped_apart i.items c.pop.new.self.items c.pop.result c.pop.ensures.items c.self.invariant.1, let k : 82 ≤ vec_capacity c.pop.new.self = grind (arith, common_steps) in k)

pub returns-clause-due : goal.returns-clause-due
returns-clause-due c =
    rw (← c.self.view_is) (first_popped c.self.inside.heads.items c.pop.new.self.items c.pop.result c.args.now _ _ c.in_ok-head.head c.self.invariant.0 c.pop.ensures.items (sym c.self.inside.heads.ok.0) c.pop.ensures.cases
    (rw (c.self.view_is) c.in_ok-head.ensures) c.if-head-now.false)

pub returns-clause-taken : goal.returns-clause-taken
returns-clause-taken c =
    rw (← c.self.view_is) (taken_popped heads_are_ordered c.self.inside.heads.items c.pop.new.self.items c.pop.result _ c.self.invariant.0 c.pop.ensures.items (λ e. e))
