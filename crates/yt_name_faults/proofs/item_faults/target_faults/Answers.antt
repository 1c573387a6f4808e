use Rattle.std.proofs.Common.{ap, sym, ◌∙◌}
use Rattle.yt_name_faults.specs.First.{least_with}
use Rattle.yt_name_faults.specs.Faults.{err_faults}
use Rattle.yt_name_faults.proofs.FirstLemmas.{none_noted}
use Rattle.yt_name_faults.proofs.item_faults.target_faults.Goals as goal

pub returns-in-Ok : goal.returns-in-Ok
returns-in-Ok c = sym (ap (λ t. least_with (err_faults t) c.args.least.now) c.in-Ok.is ∙ none_noted c.args.least.now)
