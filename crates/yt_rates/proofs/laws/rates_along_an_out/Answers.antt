use Rattle.std.proofs.Common.{◌≡◌, ◌+◌, sym, ap, ◌∙◌, subst}
use Rattle.std.proofs.lemmas.Option.{same_Some}
use Rattle.yt_list.proofs.Lemmas.{numbered_there}
use Rattle.yt_rates.specs.Rates.{passed_on, stream_of, distance_of}
use Rattle.yt_rates.proofs.Chains.{source}
use Rattle.yt_rates.proofs.laws.rates_along_an_out.Goals as goal

pub returns : goal.returns
returns c g k p port out well there fed q is =
    let from = source g k p port out well there fed in
    let same : from.0 ≡ q = same_Some from.0 q (sym from.1.there ∙ (numbered_there g.ports port q is).1) in
    let stream : stream_of g p ≡ passed_on q (stream_of g q) out = subst (λ q. stream_of g p ≡ passed_on q (stream_of g q) out) same from.1.stream in
    (from.1.distance ∙ ap (λ q. distance_of g q + 1) same, ap (λ s. s.period) stream, ap (λ s. s.start) stream)
