use Rattle.std.proofs.Common.{arith}
use Rattle.yt_fits.proofs.WalkLemmas.{demand_small, room_here, rooms_on}
use Rattle.yt_fits.proofs.walk.Walk.breach_before.Goals as goal

pub overflow_add-self : goal.overflow_add-self
overflow_add-self c =
    let walk = c.args.self.now in
    let small = demand_small walk.set.now walk.streams.items walk.nexts.nodes walk.demand walk.point c.requires.at in
    let cheap = c.renew.ensures.cost in
    record { fits = omega arith }

pub returns-then-self-dearest-clause-none : goal.returns-then-self-dearest-clause-none
returns-then-self-dearest-clause-none c = λ none.
    let walk = c.args.self.now in
    let less = c.if-next-span.false in
    let here = room_here walk.set.now walk.streams.items walk.nexts.nodes walk.demand walk.point c.args.next c.renew.new.self c.requires.at c.requires.least (omega arith)
    c.renew.ensures.dearest c.renew.ensures.until c.if-self-dearest.true in
    rooms_on walk.set.now walk.streams.items walk.nexts.nodes walk.demand walk.point c.args.next c.requires.at c.requires.least (omega arith) c.requires.rooms here

pub returns-clause-none : goal.returns-clause-none
returns-clause-none c = λ none.
    let walk = c.args.self.now in
    let less = c.if-next-span.false in
    rooms_on walk.set.now walk.streams.items walk.nexts.nodes walk.demand walk.point c.args.next c.requires.at c.requires.least (omega arith) c.requires.rooms (c.breach_in.ensures.none none)
