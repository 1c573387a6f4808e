use Rattle.std.proofs.Common.{◌≡◌, Some, unwrap_or, [], map, drop, ap, sym, ◌∙◌, arith}
use Rattle.std.proofs.lemmas.Grind.{common_steps}
use Rattle.std.proofs.lemmas.Map.Text.{hash_map_updates_str}
use Rattle.yt_table.specs.Tables.{first_of}
use Rattle.yt_table.specs.Inside.Numbers.{number_in, or_later}
use Rattle.yt_table.proofs.NumberLemmas.{declares, no_later, declares_next}
use Rattle.yt_table.proofs.name_table.NameTable.new.Goals as goal

pub loop-index-preserved : goal.loop-index-preserved
loop-index-preserved g c name =
    let word = c.name.result.now in
    let firsts = c.loop-index.firsts in
    let told = hash_map_updates_str word firsts c.declare.new.firsts (Some (unwrap_or (number_in firsts word) c.loop-index.index)) c.in_ok-declare.ensures name ∙ declares (number_in firsts) word c.loop-index.index name in
    declares_next g.T.Named.text c.args.all.now c.index-all-index.result c.loop-index.index c.loop-index.index
    (number_in c.loop-index.firsts) (number_in c.declare.new.firsts) _ name c.name.result.now
    c.loop-index-test.true c.index-all-index.is c.name.ensures told (c.loop-index.invariant name)

pub invariant_of-result : goal.invariant_of-result
invariant_of-result g c name =
    let none : drop c.loop-index.index c.args.all.now ≡ [] = grind (arith, common_steps) in
    sym (no_later (number_in c.loop-index.firsts name))
    ∙ ap (λ l. or_later (number_in c.loop-index.firsts name) (first_of name c.loop-index.index (map g.T.Named.text l))) (sym none)
    ∙ c.loop-index.invariant name
