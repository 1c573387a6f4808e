use Rattle.std.proofs.Common.{◌≡◌, ◌*◌, ◌/◌, ◌∙◌, arith, subst, sym}
use Rattle.yt_graph.specs.Picture.{graph_tree}
use Rattle.yt_cost.specs.Codes.{AreCodesOf}
use Rattle.yt_bound.proofs.Outs.{codes_in, every_positive, out_in, passed_is, sends_in, there}
use Rattle.yt_bound.proofs.bound.most_passed.Goals as goal

pub at-requires-2 : goal.at-requires-2
at-requires-2 c = out_in c.args.accepted.now.graph c.graph.result.now c.graph.ensures.graph c.args.port c.args.out c.requires.there c.at.result.now c.at.ensures.get

pub sends-sends-requires-clause-last : goal.sends-sends-requires-clause-last
sends-sends-requires-clause-last c =
    let are = subst (AreCodesOf (graph_tree c.args.accepted.now.graph)) (sym c.codes.ensures.codes) c.codes.ensures.accepted.codes in
    codes_in c.args.accepted.now.graph c.graph.result.now c.graph.ensures.graph c.args.port c.args.out c.requires.there c.at.result.now c.at.ensures.get c.codes.ensures.accepted.well_formed c.at-2.result.now c.at-2.ensures.get
    c.codes.result.now are

pub sends-sends-requires-clause-last_out : goal.sends-sends-requires-clause-last_out
sends-sends-requires-clause-last_out c =
    let are = subst (AreCodesOf (graph_tree c.args.accepted.now.graph)) (sym c.codes.ensures.codes) c.codes.ensures.accepted.codes in
    sends_in c.args.accepted.now.graph c.graph.result.now c.graph.ensures.graph c.args.port c.args.out c.requires.there c.at.result.now c.at.ensures.get c.codes.ensures.accepted.well_formed c.at-2.result.now c.at-2.ensures.get
    c.codes.result.now are

pub nonzero_div-result : goal.nonzero_div-result
nonzero_div-result c =
    let are = subst (AreCodesOf (graph_tree c.args.accepted.now.graph)) (sym c.codes.ensures.codes) c.codes.ensures.accepted.codes in
    let some = every_positive c.args.accepted.now.graph c.graph.result.now c.graph.ensures.graph c.args.port c.args.out c.requires.there c.at.result.now c.at.ensures.get c.codes.ensures.accepted.well_formed
    c.at-2.result.now c.at-2.ensures.get c.codes.result.now are in
    let e = c.from.ensures in
    omega (arith, some, e)

pub overflow_mul-result : goal.overflow_mul-result
overflow_mul-result c =
    let are = subst (AreCodesOf (graph_tree c.args.accepted.now.graph)) (sym c.codes.ensures.codes) c.codes.ensures.accepted.codes in
    let t = there (graph_tree c.args.accepted.now.graph) c.args.port c.args.out c.requires.there in
    let is = passed_is c.args.accepted.now.graph c.graph.result.now c.graph.ensures.graph c.args.port c.args.out c.requires.there c.at.result.now c.at.ensures.get c.codes.ensures.accepted.well_formed
    c.at-2.result.now c.at-2.ensures.get c.codes.result.now are c.sends-sends.result c.args.messages c.sends-sends.ensures t.tree t.at in
    let fits = c.requires.fits t.tree t.at in
    let same : c.args.messages / c.from.result * c.from-2.result ≡ c.args.messages / c.at-2.result.now.every * c.sends-sends.result = cc in
    omega (arith, is, fits, same)

pub returns : goal.returns
returns c =
    let are = subst (AreCodesOf (graph_tree c.args.accepted.now.graph)) (sym c.codes.ensures.codes) c.codes.ensures.accepted.codes in
    let same : c.args.messages / c.from.result * c.from-2.result ≡ c.args.messages / c.at-2.result.now.every * c.sends-sends.result = cc in
    λ p at. same ∙ passed_is c.args.accepted.now.graph c.graph.result.now c.graph.ensures.graph c.args.port c.args.out c.requires.there c.at.result.now c.at.ensures.get c.codes.ensures.accepted.well_formed
    c.at-2.result.now c.at-2.ensures.get c.codes.result.now are c.sends-sends.result c.args.messages c.sends-sends.ensures p at
