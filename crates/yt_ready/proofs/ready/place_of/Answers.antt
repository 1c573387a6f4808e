use Rattle.std.proofs.Common.{sym, ◌∙◌, rules, arith}
use Rattle.std.proofs.lemmas.List.Sorted.{IsPartitionPoint-from_clause}
use Rattle.yt_ready.specs.Order.{comes_before}
use Rattle.yt_order.proofs.Lemmas.{before_all, partitioned}
use Rattle.yt_ready.proofs.Orders.{entries_are_ordered}
use Rattle.yt_ready.proofs.ready.place_of.Goals as goal

pub returns-then-comes_before-clause-before : goal.returns-then-comes_before-clause-before
returns-then-comes_before-clause-before c = before_all entries_are_ordered c.args.entries.now c.args.entry.now c.in-Some.least.now c.requires (search rules) (sym c.comes_before.ensures ∙ c.if-comes_before.true)

pub returns-clause-before : goal.returns-clause-before
returns-clause-before c =
    let point = IsPartitionPoint-from_clause (λ y. comes_before c.args.entry.now y) c.args.entries.now c.partition_point.result c.partition_point.ensures.partitioned (partitioned entries_are_ordered c.args.entries.now c.args.entry.now c.requires) (λ a r f' k. search rules) in
    λ k h. point.0 k c.args.entry.now (omega arith) h

pub returns-clause-after : goal.returns-clause-after
returns-clause-after c =
    let point = IsPartitionPoint-from_clause (λ y. comes_before c.args.entry.now y) c.args.entries.now c.partition_point.result c.partition_point.ensures.partitioned (partitioned entries_are_ordered c.args.entries.now c.args.entry.now c.requires) (λ a r f' k. search rules) in
    λ k h l. point.1 k c.args.entry.now h l
