use Rattle.std.proofs.Common.{◌≡◌, ◌+◌, ◌<◌, length, take, drop, slice_range, arith}
use Rattle.std.specs.List.{position_or_len}
use Rattle.std.proofs.lemmas.Grind.{common_steps}
use Rattle.yt_base.specs.Lines.{is_feed, body_len}
use Rattle.yt_base.proofs.LinesLemmas.{lines_of_step}
use Rattle.yt_base.proofs.span.next_line.Goals as goal

pub returns-clause-lines : goal.returns-clause-lines
returns-clause-lines c =
    let text = c.args.text.now in
    let rest = drop c.args.from text in
    let n = position_or_len is_feed rest in
    let some : 0 < length rest = grind (arith, common_steps) in
    let first : slice_range text c.args.from (c.args.from + c.without_return.result) ≡ take (body_len (take n rest)) (take n rest) = grind (arith, common_steps) in
    let more : drop (n + 1) rest ≡ drop (c.args.from + c.min.result) text = grind (arith, common_steps) in
    let whole = lines_of_step rest some in
    rw (first, ← more) whole
