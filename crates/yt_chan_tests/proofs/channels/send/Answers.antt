use Rattle.std.proofs.Common.{◌≡◌, ◌<◌, List, ◌∷◌, ◌++◌, [], ℤ, length, rules, take, get_or, sym, ◌∙◌, ap, subst, arith}
use Rattle.std.proofs.lemmas.Grind.{common_steps}
use Rattle.std.proofs.lemmas.List.{take_more}
use Rattle.std.proofs.lemmas.Int.{to_z-of_z}
use Rattle.std.specs.Prelude.{pos}
use mir.Syntax.{w64}
use mir.Val.{SFits}
use Rattle.yt_chan.specs.Changes.{AddsOpen}
use Rattle.yt_chan.specs.Wires.{wire_of_out}
use Rattle.yt_chan.specs.declared.port.PortJob.{PortJob}
use Rattle.yt_chan_tests.specs.Example.{IsKnown, sent}
use Rattle.yt_chan_tests.proofs.Examples.{line_at, none_sent, one_job, room_left, send_is, width_is}
use Rattle.yt_chan_tests.proofs.channels.send.Goals as goal

pub loop-value-init : goal.loop-value-init
loop-value-init c = λ known is. none_sent c.args.channels.now known c.args.port is

pub send-requires-clause-there : goal.send-requires-clause-there
send-requires-clause-there c =
    let s = c.loop-value.invariant c.requires.0 c.requires.1 in
    let z = line_at c.loop-value.channels (sent c.requires.0 c.args.port (take c.loop-value.value-index c.args.values.now)) c.args.port s in
    let w = ap length s.wires in
    let wired = c.requires.2.1.wired in
    omega arith

pub send-requires-clause-handled : goal.send-requires-clause-handled
send-requires-clause-handled c = ap (λ (j : PortJob). j.in_handling) ((c.loop-value.invariant c.requires.0 c.requires.1).jobs c.args.port) ∙ c.requires.2.1.handled

pub send-requires-clause-wide : goal.send-requires-clause-wide
send-requires-clause-wide c =
    width_is c.loop-value.channels (sent c.requires.0 c.args.port (take c.loop-value.value-index c.args.values.now)) c.args.port (c.loop-value.invariant c.requires.0 c.requires.1) c.requires.2.1.wired

pub send-requires-clause-room : goal.send-requires-clause-room
send-requires-clause-room c =
    let n = c.loop-value.value-index in
    let lt : length (take n c.args.values.now) < length c.args.values.now = grind (arith, common_steps) in
    room_left c.loop-value.channels c.requires.0 c.args.port (take n c.args.values.now) (length c.args.values.now) (c.loop-value.invariant c.requires.0 c.requires.1) c.requires.2.1.room lt

pub send-requires-clause-one : goal.send-requires-clause-one
send-requires-clause-one c =
    one_job c.loop-value.channels (sent c.requires.0 c.args.port (take c.loop-value.value-index c.args.values.now)) c.args.port c.requires.2.0
    (c.loop-value.invariant c.requires.0 c.requires.1) c.requires.2.1.one

pub loop-value-preserved : goal.loop-value-preserved
loop-value-preserved c = λ known is.
    let n = c.loop-value.value-index in
    let xs = c.args.values.now in
    let lt : n < length xs = c.loop-value-test.true in
    let v : ℤ = get_or xs n (pos 0) in
    let fits : SFits w64 v = search rules in
    let at = wire_of_out c.loop-value.channels.wires c.args.port 1 in
    let opens : AddsOpen c.loop-value.channels c.send.new.self at (v ∷ []) =
    subst (λ (x : ℤ). AddsOpen c.loop-value.channels c.send.new.self at (x ∷ [])) (to_z-of_z w64 v fits) c.send.ensures.opens in
    let more : IsKnown c.send.new.self (sent known c.args.port (take n xs ++ v ∷ [])) =
    send_is c.loop-value.channels c.send.new.self known c.args.port (take n xs) v (c.loop-value.invariant known is) c.send.ensures.wires opens c.send.ensures.jobs c.send.ensures.waits in
    subst (λ (zs : List ℤ). IsKnown c.send.new.self (sent known c.args.port zs)) (sym (take_more xs n (pos 0) lt)) more

pub returns : goal.returns
returns c = λ known is.
    let e : take c.loop-value.value-index c.args.values.now ≡ c.args.values.now = grind (arith, common_steps) in
    subst (λ (xs : List ℤ). IsKnown c.loop-value.channels (sent known c.args.port xs)) e (c.loop-value.invariant known is)
