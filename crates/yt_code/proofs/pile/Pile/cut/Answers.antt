use Rattle.std.proofs.Common.{◌≤◌, ◌-◌, length, take, drop, ap, ◌∙◌, sym, arith}
use Rattle.std.specs.Prelude.{reverse}
use Rattle.std.proofs.lemmas.List.{length-reverse}
use Rattle.yt_code.proofs.Tops.{drop-reverse}
use Rattle.yt_code.proofs.pile.Pile.cut.Goals as goal

pub returns : goal.returns
returns g c =
    let l = c.self.inside.items.items in
    let n = c.args.n in
    let le : n ≤ length l = omega (arith, ap length c.self.view_is, length-reverse l) in
    ap reverse (c.truncate.ensures.items ∙ ap (λ m. take (m - n) l) c.len.ensures.value)
    ∙ sym (drop-reverse n l le)
    ∙ ap (drop n) c.self.view_is
