use Rattle.std.proofs.Common.{◌<◌, IfSome, ap, subst, ◌∙◌}
use Rattle.yt_table.specs.Tables.{first_of}
use Rattle.yt_name_faults.proofs.PartLemmas.{as_many, names_are}
use Rattle.yt_name_faults.proofs.part.Part.place.Goals as goal

pub returns-clause-first : goal.returns-clause-first
returns-clause-first c =
    let part = c.args.self.now in
    c.find.ensures.first ∙ ap (first_of c.args.name.now 0) (names_are part.names part.item.now part.named)

pub returns-clause-within : goal.returns-clause-within
returns-clause-within c =
    let part = c.args.self.now in
    subst (λ n. IfSome c.find.result (λ place. place < n)) (as_many part.names _ part.ports.items part.named part.ports_are) c.find.ensures.within
