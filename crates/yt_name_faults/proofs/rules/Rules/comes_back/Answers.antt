use Rattle.std.proofs.Common.{length, slice_get, is_some, ap, ◌∙◌}
use Rattle.std.specs.Option.{option_flatten}
use Rattle.yt_name_faults.specs.Parts.{trees}
use Rattle.yt_name_faults.specs.Paths.{ports_before}
use Rattle.yt_name_faults.proofs.ChainLemmas.{read_far}
use Rattle.yt_name_faults.proofs.rules.Rules.comes_back.Goals as goal

pub returns : goal.returns
returns c =
    let all = trees c.args.self.now.index.now in
    let before = ports_before all in
    c.goes_on.ensures
    ∙ ap (λ l. is_some (option_flatten (slice_get l c.args.port))) (c.deref.ensures.value ∙ c.args.self.now.led)
    ∙ ap is_some (read_far before (length before) c.args.port)
