use Rattle.std.proofs.Common.{◌-◌, [], length, ap, ◌∙◌}
use Rattle.yt_graph.specs.AstPicture.{ast_block_tree}
use Rattle.yt_graph.specs.Limits.{most_locals}
use Rattle.yt_name_faults.specs.First.{least_with}
use Rattle.yt_name_faults.specs.Handlers.{visible_params, params_faults, block_faults}
use Rattle.yt_name_faults.proofs.FirstLemmas.{both}
use Rattle.yt_name_faults.proofs.handler_faults.handler_faults.Goals as goal

pub returns : goal.returns
returns c =
    let env = c.args.env.now in
    let params = c.args.params.now in
    let body = ast_block_tree c.args.body.now in
    let p = c.in_ok-params.ensures in
    let none = c.new.ensures in
    both (params_faults env [] most_locals params) (block_faults env (visible_params [] params) (most_locals - length params) body) _ _ _
    (p.least ∙ ap (λ v. least_with (params_faults env v most_locals params) c.args.least.now) none)
    (c.in_ok-block.ensures.least
    ∙ ap (λ v. least_with (block_faults env v c.params.new.self.left body) c.params.new.self.least) (p.visible ∙ ap (λ v. visible_params v params) none)
    ∙ ap (λ n. least_with (block_faults env (visible_params [] params) n body) c.params.new.self.least) p.left)
