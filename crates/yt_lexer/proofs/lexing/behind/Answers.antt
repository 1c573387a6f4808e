use Rattle.std.proofs.Common.{◌≡◌, ◌+◌, ◌-◌, ◌≤◌, length, take, sym, arith}
use Rattle.std.proofs.lemmas.Grind.{common_steps}
use Rattle.std.proofs.lemmas.List.{length-take-le}
use Rattle.yt_lexer.proofs.PlaceLemmas.{line_after-le, col_after-le, place_of_more}
use Rattle.yt_lexer.proofs.lexing.behind.Goals as goal

pub place_behind-requires : goal.place_behind-requires
place_behind-requires c =
    let text = c.args.text.now in
    let front = length-take-le c.args.spot.at text c.requires.spot.0 in
    let line : c.args.spot.place.line ≤ 1 + length (take c.args.spot.at text) = rw c.requires.spot.1 (line_after-le (record { line = 1; col = 1 }) (take c.args.spot.at text)) in
    let col : c.args.spot.place.col ≤ 1 + length (take c.args.spot.at text) = rw c.requires.spot.1 (col_after-le (record { line = 1; col = 1 }) (take c.args.spot.at text)) in
    record { line = grind (arith, common_steps); col = grind (arith, common_steps) }

pub returns-clause-spot : goal.returns-clause-spot
returns-clause-spot c =
    let text = c.args.text.now in
    let cut : c.args.spot.at + c.args.len - c.args.spot.at ≡ c.args.len = omega arith in
    (c.requires.inside, rw (c.place_behind.ensures, cut, c.requires.spot.1) (sym (place_of_more text c.args.spot.at c.args.len)))
