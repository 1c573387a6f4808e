use Rattle.std.proofs.Common.{◌≡◌, ◌+◌, ◌-◌, [], drop, ap, ◌∙◌, arith}
use Rattle.std.proofs.lemmas.Grind.{common_steps}
use Rattle.yt_table.specs.Tables.{with_name}
use Rattle.yt_name_faults.specs.Handlers.{local_faults, params_faults}
use Rattle.yt_name_faults.proofs.FirstLemmas.{next, at_end}
use Rattle.yt_name_faults.proofs.TreeLemmas.{cut}
use Rattle.yt_name_faults.proofs.HandlerLemmas.{params_cut, visible_cut}
use Rattle.yt_name_faults.proofs.handler_faults.Walk.params.Goals as goal

pub loop-word-preserved : goal.loop-word-preserved
loop-word-preserved c =
    let env = c.args.env.now in
    let params = c.args.params.now in
    let i = c.loop-word.word-index in
    let was = c.loop-word.self in
    let is = c.add.new.self in
    let p = c.word-item.result in
    let rest = drop (i + 1) params in
    let list = cut params i p c.loop-word-test.true c.word-item.is in
    let visible = c.in_ok-add.ensures.visible ∙ ap (with_name p.text) c.local_faults.ensures.visible in
    let left = c.in_ok-add.ensures.left ∙ ap (λ n. n - 1) c.local_faults.ensures.left in
    let least = c.in_ok-add.ensures.least ∙ c.local_faults.ensures.least in
    record {
      visible = visible_cut env was.visible is.visible was.left is.left p rest _ list visible left ∙ c.loop-word.invariant.visible;
      left = omega (arith, left, c.loop-word.invariant.left);
      so_far = next (local_faults env was.visible was.left p) _ _ _ _ _ (params_cut env was.visible is.visible was.left is.left p rest _ list visible left) least c.loop-word.invariant.so_far;
    }

pub returns-clause-least : goal.returns-clause-least
returns-clause-least c =
    let none : drop c.loop-word.word-index c.args.params.now ≡ [] = grind (arith, common_steps) in
    at_end _ _ _ (ap (params_faults c.args.env.now c.loop-word.self.visible c.loop-word.self.left) none) c.loop-word.invariant.so_far
