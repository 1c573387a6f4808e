use Rattle.std.proofs.Common.{◌≤◌, ◌-◌, length, take, drop, ap, ◌∙◌, sym, arith}
use Rattle.std.specs.Prelude.{reverse}
use Rattle.std.proofs.lemmas.List.{take_rest, length-reverse}
use Rattle.yt_code.proofs.Tops.{reverse-take-reverse}
use Rattle.yt_code.proofs.pile.Pile.top.Goals as goal

pub returns : goal.returns
returns g c =
    let l = c.self.inside.items.items in
    let n = c.args.n in
    let all = c.as_slice-all.result.now in
    let le : n ≤ length l = omega (arith, ap length c.self.view_is, length-reverse l) in
    take_rest all (length all - n)
    ∙ ap (λ x. drop (length x - n) x) c.as_slice-all.ensures.value
    ∙ sym (reverse-take-reverse n l le)
    ∙ ap (λ s. reverse (take n s)) c.self.view_is
