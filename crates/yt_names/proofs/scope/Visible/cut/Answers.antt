use Rattle.std.proofs.Common.{◌∙◌, map, take, ap, sym}
use Rattle.std.proofs.lemmas.List.{take-map}
use Rattle.yt_names.specs.declared.scope.Local as declared
use Rattle.yt_names.specs.Resolved.{NamedPlace}
use Rattle.yt_names.proofs.scope.Visible.cut.Goals as goal

abbrev read : declared.Local → NamedPlace
read l = record { text = l.text.now; place = l.place }

pub returns : goal.returns
returns c = ap (map read) c.truncate.ensures.items ∙ sym (take-map read c.args.len c.self.inside.locals.items) ∙ ap (take c.args.len) c.self.view_is
