use Rattle.std.proofs.Common.{◌≡◌, ◌≤◌, length, List, ℕ, ap, sym, subst, ◌∙◌}
use Rattle.std.specs.List.{flat_map}
use Rattle.std.proofs.lemmas.Result.{IfOk-weaker}
use Rattle.yt_base.specs.Limits.{most_text_bytes}
use Rattle.yt_order.specs.Sorting.{sort_by}
use Rattle.yt_gen.specs.TraceText.{line_of, message_before, messages, trace_text}
use Rattle.yt_gen.proofs.Lengths.{trace_short}
use Rattle.yt_gen.proofs.trace.make_trace.Goals as goal

pub returns-clause-text : goal.returns-clause-text
returns-clause-text c =
    let ordered : c.deref.result.now ≡ messages c.args.count = c.deref.ensures.value ∙ c.in_ok-put_in_order.ensures ∙ ap (sort_by message_before) c.in_ok-messages.ensures in
    IfOk-weaker c.text_of.result (λ text. text.items ≡ flat_map line_of c.deref.result.now) (λ text. text.items ≡ trace_text c.args.count)
    (λ text is. is ∙ ap (flat_map line_of) ordered) c.text_of.ensures

pub returns-clause-short : goal.returns-clause-short
returns-clause-short c =
    IfOk-weaker c.text_of.result (λ text. text.items ≡ trace_text c.args.count) (λ text. length text.items ≤ most_text_bytes)
    (λ text is. subst (λ (bytes : List ℕ). length bytes ≤ most_text_bytes) (sym is) (trace_short c.args.count c.requires)) (returns-clause-text c)
