use Rattle.std.proofs.Common.{slice_get, ap, sym, ◌∙◌}
use Rattle.std.specs.Option.{option_and_then, option_map}
use Rattle.yt_name_faults.specs.Parts.{placed_of, trees}
use Rattle.yt_name_faults.specs.Paths.{placed_from, placed_named}
use Rattle.yt_name_faults.proofs.index.Index.named.Goals as goal

pub returns-in_err-n : goal.returns-in_err-n
unfolding placed_named
returns-in_err-n c = ap (option_map (λ p. placed_of p.now)) c.from_residual.ensures ∙ ap (option_and_then (slice_get (placed_from 0 (trees c.args.self.now)))) (sym c.in_err-n.was ∙ c.place.ensures)

pub returns : goal.returns
unfolding placed_named
returns c = c.part.ensures ∙ ap (option_and_then (slice_get (placed_from 0 (trees c.args.self.now)))) (sym c.in_ok-n.was ∙ c.place.ensures)
