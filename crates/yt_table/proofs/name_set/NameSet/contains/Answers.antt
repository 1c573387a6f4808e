use Rattle.std.proofs.Common.{bytes_eq, ap, ◌∙◌}
use Rattle.yt_table.specs.Tables.{is_among}
use Rattle.yt_table.proofs.ReadKeys.{any_read}
use Rattle.yt_table.proofs.name_set.NameSet.contains.Goals as goal

pub returns : goal.returns
returns c = c.contains.ensures ∙ any_read (λ k. k.now) (bytes_eq c.args.name.now) c.self.inside.names.keys ∙ ap (is_among c.args.name.now) c.self.view_is
