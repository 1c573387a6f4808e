use Rattle.std.proofs.Common.{length, sym, ap}
use Rattle.yt_order.proofs.Lemmas.{least_popped, taken_popped}
use Rattle.yt_ready.proofs.Orders.{entries_are_ordered}
use Rattle.yt_ready.proofs.ready.Ready.take_least.Goals as goal

pub returns-clause-least : goal.returns-clause-least
returns-clause-least c = rw (← c.self.view_is) (least_popped entries_are_ordered c.self.inside.entries.items c.pop.new.self.items c.pop.result _ _ c.self.invariant c.pop.ensures.items (sym c.self.inside.entries.ok.0) c.pop.ensures.cases)

pub returns-clause-taken : goal.returns-clause-taken
returns-clause-taken c =
    rw (← c.self.view_is) (taken_popped entries_are_ordered c.self.inside.entries.items c.pop.new.self.items c.pop.result _ c.self.invariant c.pop.ensures.items
    (λ e. let a = c.self.inside.entries.ok.0 in let b = c.pop.new.self.ok.0 in let l = ap length e in cc))
