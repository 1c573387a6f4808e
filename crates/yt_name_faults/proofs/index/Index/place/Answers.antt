use Rattle.yt_name_faults.proofs.IndexLemmas.{found}
use Rattle.yt_name_faults.proofs.index.Index.place.Goals as goal

pub returns : goal.returns
returns c = found c.find.result c.args.name.now c.self.inside.items _ c.find.ensures.first c.self.view_is
