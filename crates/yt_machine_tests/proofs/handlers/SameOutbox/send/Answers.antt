use Rattle.std.proofs.Common.{rules, ◌≡◌, ◌<◌, ◌∙◌, length, true, refl, sym, ap}
use Rattle.std.proofs.lemmas.Bool.Decides.{Decides-int_eq}
use Rattle.std.proofs.lemmas.Slice.Eq.{slice_eq-Decides}
use Rattle.yt_graph.specs.declared.handled.SendItem.{SendItem}
use Rattle.yt_machine_tests.proofs.SentLemmas.{takes_next}
use Rattle.yt_machine_tests.proofs.handlers.SameOutbox.send.Goals as goal

pub returns-clause-added : goal.returns-clause-added
returns-clause-added g c =
    let within : c.args.self.now.taken < length c.args.self.now.sends.now = search rules in
    let out : c.index-self-self.result.out ≡ c.args.out = search rules in
    let same : c.eq.result ≡ true = search rules in
    let values : c.index-self-self.result.values ≡ c.args.values.now =
    ap (λ (s : SendItem). s.values) c.index-self-self.is ∙ sym c.as_slice.ensures ∙ (slice_eq-Decides Decides-int_eq c.as_slice.result.now c.args.values.now c.eq.result c.eq.ensures).0 same in
    takes_next c.args.self.now.taken _ c.args.out c.args.self.now.sends.now c.index-self-self.result c.args.values.now refl within c.index-self-self.is out values
