use Rattle.std.proofs.Common.{sym, ap, ◌∙◌, rules, w64, to_z, of_z}
use Rattle.std.proofs.lemmas.Int.{to_z-of_z}
use Rattle.yt_graph.specs.Meaning.{op_value}
use Rattle.yt_ops.proofs.Codes.{code_beside}
use Rattle.yt_ops.proofs.table.OpTableOps.call.Goals as goal

pub returns : goal.returns
returns g c =
    let x = c.args.x in
    let y = c.args.y in
    let t = c.args.self.now in
    let s = c.index.result.now in
    to_z-of_z w64 c.call.result (search rules)
    ∙ c.call.ensures
    ∙ ap (λ v. op_value s.code v (to_z w64 (of_z w64 y))) (to_z-of_z w64 x c.ranges.x)
    ∙ ap (op_value s.code x) (to_z-of_z w64 y c.ranges.y)
    ∙ ap (λ n. op_value n x y) (sym (code_beside (λ s. s.code) t.stored.items t.heads c.args.op s t.same c.requires.first c.requires.last c.index.ensures))
