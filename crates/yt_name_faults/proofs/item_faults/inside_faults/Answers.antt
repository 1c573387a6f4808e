use Rattle.std.proofs.Common.{ap, sym, ◌∙◌}
use Rattle.std.specs.Option.{option_copied}
use Rattle.yt_name_faults.specs.First.{least_with}
use Rattle.yt_name_faults.specs.Parts.{trees}
use Rattle.yt_name_faults.specs.Faults.{inside_faults}
use Rattle.yt_name_faults.proofs.FirstLemmas.{none_noted}
use Rattle.yt_name_faults.proofs.item_faults.inside_faults.Goals as goal

pub returns-in-None : goal.returns-in-None
returns-in-None c = sym (ap (λ w. least_with (inside_faults (trees c.args.index.now) (option_copied w)) c.args.least.now) c.in-None.is ∙ none_noted c.args.least.now)
