use Rattle.std.proofs.Common.{◌≡◌, arith}
use Rattle.std.proofs.lemmas.Grind.{common_steps}
use Rattle.std.proofs.lemmas.List.FromFn.{map-range_with_len_more}
use Rattle.yt_gen.specs.TraceText.{message_of, messages_of}
use Rattle.yt_gen.specs.declared.limits.TheConstants.{MESSAGES}
use Rattle.yt_gen.proofs.trace.put_messages.Goals as goal

pub loop-before-preserved : goal.loop-before-preserved
loop-before-preserved c =
    let more = map-range_with_len_more (message_of c.args.input) 0 c.loop-before.before c.loop-before.before (omega arith) in
    rw more (grind (arith, common_steps))

pub returns : goal.returns
unfolding messages_of
returns c =
    let all : c.loop-before.before ≡ MESSAGES = omega arith in
    rw all at c.loop-before.invariant
