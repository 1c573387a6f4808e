use Rattle.std.proofs.Common.{◌≡◌, arith}
use Rattle.yt_code.proofs.Ready.{begun_is_ready}
use Rattle.yt_code.proofs.machine.Machine.begin.Goals as goal

pub returns-clause-ready : goal.returns-clause-ready
returns-clause-ready c =
    let i = c.loop.invariant in
    let valid = c.locals-locals.ensures.valid in
    let full : c.loop.counter ≡ c.args.code.now.locals =
    omega (arith, c.loop-test.false, c.loop.auto.counter-end, c.locals-locals.ensures.value, c.requires.params, valid.params_are_locals) in
    begun_is_ready c.args.code.now c.args.msg.now _ c.loop.counter valid c.requires.params i.place i.spent i.stack i.loops full i.so_far
