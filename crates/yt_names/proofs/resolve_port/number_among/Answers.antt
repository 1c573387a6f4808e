use Rattle.std.proofs.Common.{map, sym, ◌∙◌}
use Rattle.yt_names.proofs.NumberLemmas.{number_found, number_missing}
use Rattle.yt_names.proofs.resolve_port.number_among.Goals as goal

pub returns-in-Some : goal.returns-in-Some
returns-in-Some g c = c.number_of.ensures ∙ number_found c.args.word.now (map g.T.Named.text c.args.items.now) c.in-Some.place (sym c.in-Some.is ∙ c.first_named.ensures)

pub returns-in-None : goal.returns-in-None
returns-in-None g c = number_missing c.args.word.now (map g.T.Named.text c.args.items.now) (sym c.in-None.is ∙ c.first_named.ensures)
