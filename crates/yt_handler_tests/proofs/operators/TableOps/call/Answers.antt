use Rattle.std.proofs.Common.{◌-◌, ◌<◌, length, refl, sym, ap, ◌∙◌, arith, rules, w64, to_z, of_z}
use Rattle.std.proofs.lemmas.Int.{to_z-of_z}
use Rattle.std.proofs.lemmas.Option.{slice_get_read}
use Rattle.yt_graph.specs.Meaning.{op_value}
use Rattle.yt_graph.proofs.Lemmas.{op_code_at}
use Rattle.yt_handler_tests.proofs.operators.TableOps.call.Goals as goal

pub returns : goal.returns
returns c =
    let x = c.args.x in
    let y = c.args.y in
    let heads = c.args.self.now.heads.items in
    let head = c.index.result.now in
    let lt : c.args.op - 1 < length heads = omega arith in
    let at = slice_get_read heads (length heads) (c.args.op - 1) head refl lt c.index.ensures in
    to_z-of_z w64 c.operator_value.result (search rules)
    ∙ c.operator_value.ensures
    ∙ ap (λ v. op_value head.code v (to_z w64 (of_z w64 y))) (to_z-of_z w64 x c.ranges.x)
    ∙ ap (op_value head.code x) (to_z-of_z w64 y c.ranges.y)
    ∙ ap (λ n. op_value n x y) (sym (op_code_at heads c.args.op head c.requires.first at))
