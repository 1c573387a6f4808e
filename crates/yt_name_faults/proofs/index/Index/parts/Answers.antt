use Rattle.std.proofs.Common.{map, ap, ◌∙◌}
use Rattle.yt_name_faults.specs.Parts.{placed_of, trees}
use Rattle.yt_name_faults.specs.Paths.{placed_from}
use Rattle.yt_name_faults.proofs.IndexLemmas.{parts_are}
use Rattle.yt_name_faults.proofs.index.Index.parts.Goals as goal

pub returns-clause-items : goal.returns-clause-items
returns-clause-items c =
    parts_are 0 c.deref.result.now (trees c.args.self.now)
    (ap (map placed_of) c.deref.ensures.value ∙ c.self.invariant.0 ∙ ap (λ l. placed_from 0 (trees l)) c.self.view_is)
