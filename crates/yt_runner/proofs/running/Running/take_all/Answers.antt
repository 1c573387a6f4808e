use Rattle.std.proofs.Common.{◌≡◌, ◌-◌, ◌<◌, length, refl, ap, arith}
use Rattle.std.proofs.lemmas.Option.{slice_get_within}
use Rattle.yt_trace.specs.declared.message.Message.{Message}
use Rattle.yt_runner.proofs.Taking.{ends_taking, starts_taking}
use Rattle.yt_runner.proofs.running.Running.take_all.Goals as goal

pub loop-self-init : goal.loop-self-init
loop-self-init c =
    let laws = c.handlers_go_on.ensures in
    record {
      same = record { parts = refl; trace = refl };
      clock = refl;
      taking = starts_taking laws.run laws.read c.args.self.now c.requires.going.0 c.requires.going.1 c.requires.going.2;
    }

pub loop-self-smaller : goal.loop-self-smaller
loop-self-smaller c =
    let old = c.loop-self.self in
    let new = c.take.new.self in
    let now = c.loop-self-test.ensures in
    let within = slice_get_within old.trace old.taken now.0 now.1 in
    let taken = c.take.ensures.taken in
    let long : length new.trace ≡ length old.trace = ap (length {A = Message}) c.take.ensures.same.trace in
    let less : length new.trace - new.taken < length old.trace - old.taken = omega arith in
    less

pub returns-clause-delivering : goal.returns-clause-delivering
returns-clause-delivering c = ends_taking c.handlers_go_on.ensures.read c.loop-self.self c.loop-self.invariant.taking c.loop-self-test.ensures
