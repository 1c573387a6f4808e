use Rattle.std.proofs.Common.{◌≡◌, ◌+◌, List, drop, slice_get, Some, refl, sym, ap, subst, ◌∙◌}
use Rattle.std.proofs.lemmas.Option.{slice_get-get_or}
use Rattle.yt_list.proofs.Lemmas.{drop_at}
use Rattle.yt_trace.specs.declared.message.Message.{Message}
use Rattle.yt_bound.specs.Inside.Counting.{AreCounted}
use Rattle.yt_bound.proofs.TraceCounts.{counts_within}
use Rattle.yt_bound.proofs.counted.CountedTrace.of.Goals as goal

pub count_message-requires : goal.count_message-requires
count_message-requires c =
    counts_within c.args.trace.now (drop c.loop-message.message-index c.args.trace.now) c.loop-message.counts c.messages-message-items.ensures.is_trace.few c.loop-message.invariant

pub loop-message-preserved : goal.loop-message-preserved
loop-message-preserved c =
    let trace = c.args.trace.now in
    let place = c.loop-message.message-index in
    let message = c.message-item.result in
    let read = slice_get-get_or c.messages-message-items.result.now place message c.loop-message-test.true ∙ ap Some (sym c.message-item.is) in
    let at : slice_get trace place ≡ Some message = ap (λ (xs : List Message). slice_get xs place) (sym c.messages-message-items.ensures.messages) ∙ read in
    c.count_message.ensures trace (drop (place + 1) trace) message refl
    (subst (λ (xs : List Message). AreCounted trace xs c.loop-message.counts) (drop_at trace place message at) c.loop-message.invariant)
