use Rattle.std.proofs.Common.{ap, sym, ◌∙◌}
use Rattle.yt_name_faults.specs.First.{least_with}
use Rattle.yt_name_faults.specs.Faults.{every_faults}
use Rattle.yt_name_faults.proofs.FirstLemmas.{none_noted}
use Rattle.yt_name_faults.proofs.decl_faults.every_faults.Goals as goal

pub returns-in-None : goal.returns-in-None
returns-in-None c = sym (ap (λ e. least_with (every_faults e) c.args.least.now) c.in-None.is ∙ none_noted c.args.least.now)
