use Rattle.std.proofs.Common.{ap, sym, ◌∙◌}
use Rattle.std.specs.Option.{option_map}
use Rattle.yt_name_faults.specs.Parts.{placed_of, trees}
use Rattle.yt_name_faults.specs.Paths.{look_up, in_placed, placed_named}
use Rattle.yt_name_faults.proofs.OwnLemmas.{in_named_part}
use Rattle.yt_name_faults.proofs.paths.look_up.Goals as goal

pub returns-in-Some : goal.returns-in-Some
unfolding look_up
returns-in-Some c =
    let all = trees c.args.index.now in
    let path = c.args.path.now in
    let found = ap (placed_named all) (sym c.as_slice.ensures) ∙ sym c.named.ensures ∙ ap (option_map (λ p. placed_of p.now)) c.in-Some.is in
    c.look_in_part.ensures
    ∙ sym (in_named_part all path path.process.text (placed_of c.in-Some.part.now) found)
    ∙ ap (in_placed all path) (sym found)
