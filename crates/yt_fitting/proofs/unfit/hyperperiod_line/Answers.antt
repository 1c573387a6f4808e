use Rattle.std.proofs.Common.{[], ◌∷◌, ◌++◌, ap, ◌∙◌}
use Rattle.std.specs.Prelude.{codes}
use Rattle.yt_fitting.specs.TaskText.{kind_word}
use Rattle.yt_fitting.proofs.TaskLines.{four_parts}
use Rattle.yt_fitting.proofs.unfit.hyperperiod_line.Goals as goal

pub returns : goal.returns
returns c =
    let word = c.in_ok-put.ensures ∙ ap (λ w. c.new-text.result ++ w) c.word.ensures in
    four_parts c.new-text.result c.put.new.self c.put-2.new.self c.put-3.new.self c.put-4.new.self (kind_word c.args.kind) (codes " hyperperiod ") c.args.label.now (10 ∷ [])
    c.new-text.ensures word c.in_ok-put-2.ensures c.in_ok-put-3.ensures c.in_ok-put-4.ensures
