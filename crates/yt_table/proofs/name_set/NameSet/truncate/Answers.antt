use Rattle.std.proofs.Common.{◌∙◌, ℕ, List, map, take, ap, sym}
use Rattle.std.specs.Borrow.{Bor}
use Rattle.std.proofs.lemmas.List.{take-map}
use Rattle.yt_table.proofs.name_set.NameSet.truncate.Goals as goal

pub returns : goal.returns
returns c =
    let read = λ (k : Bor (List ℕ)). k.now in
    ap (map read) c.truncate.ensures.keys ∙ sym (take-map read c.args.len c.self.inside.names.keys) ∙ ap (take c.args.len) c.self.view_is
