use Rattle.std.proofs.Common.{◌<◌, IfSome, map, length, bytes_eq, subst, sym, ap, ◌∙◌}
use Rattle.std.proofs.lemmas.List.{length-map}
use Rattle.yt_table.specs.Tables.{first_of}
use Rattle.yt_table.proofs.Lemmas.{index_within}
use Rattle.yt_table.proofs.name_table.NameTable.find.Goals as goal

pub returns-clause-within : goal.returns-clause-within
returns-clause-within g c =
    let text = g.T.Named.text in
    let all = c.args.self.now in
    let name = c.args.name.now in
    let found = c.copied.ensures ∙ c.get.ensures.value ∙ c.self.invariant name ∙ ap (λ l. first_of name 0 (map text l)) c.self.view_is in
    let within = subst (λ m. IfSome (first_of name 0 (map text all)) (λ n. n < m)) (length-map all text) (index_within (bytes_eq name) (map text all)) in
    subst (λ o. IfSome o (λ n. n < length all)) (sym found) within
