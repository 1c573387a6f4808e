use Rattle.yt_name_faults.proofs.CycleLemmas.{cycles_are_told}
use Rattle.yt_name_faults.proofs.laws.cycles_are_told.Goals as goal

pub returns : goal.returns
returns c = cycles_are_told
