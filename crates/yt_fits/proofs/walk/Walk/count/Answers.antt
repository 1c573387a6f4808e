use Rattle.std.proofs.Common.{◌≡◌, List, ap, ◌∙◌, arith}
use Rattle.yt_fits.specs.declared.stream.Stream.{Stream}
use Rattle.yt_fits.specs.Inside.Walks.{stream_at}
use Rattle.yt_fits.proofs.StreamLemmas.{nothing}
use Rattle.yt_fits.proofs.WalkLemmas.{counts_lent, demand_small}
use Rattle.yt_fits.proofs.walk.Walk.count.Goals as goal

pub overflow_add-self : goal.overflow_add-self
overflow_add-self c =
    let walk = c.args.self.now in
    let small = demand_small walk.set.now walk.streams.items walk.nexts.nodes walk.demand walk.point c.requires.at in
    let cheap = (c.requires.at.of_tasks.paced c.args.next.place nothing c.requires.within).cheap in
    let few = c.requires.at.set.0 in
    let same : stream_at c.deref.result.now c.args.next.place ≡ stream_at walk.streams.items c.args.next.place = ap (λ (l : List Stream). stream_at l c.args.next.place) c.deref.ensures.0 in
    let cost : (stream_at c.deref.result.now c.args.next.place).cost ≡ (stream_at walk.streams.items c.args.next.place).cost = ap (λ (s : Stream). s.cost) same in
    record { fits = omega arith }

pub returns-clause-at : goal.returns-clause-at
returns-clause-at c =
    let walk = c.args.self.now in
    let next = c.args.next in
    counts_lent walk.set.now walk.streams.items c.deref.result.now c.deref_mut.result.now walk.nexts.nodes c.put.new.self.nodes walk.demand walk.point next.number next.place
    c.requires.at c.deref.ensures.0 c.deref_mut.ensures.value c.requires.within c.requires.least c.requires.later c.requires.there c.put.ensures.played (c.put.ensures.here ∙ c.next.ensures)
    c.put.ensures.others c.requires.short
