use Rattle.std.proofs.Common.{◌≡◌, ℕ, ◌+◌, List, ap, ◌∙◌}
use Rattle.yt_graph.specs.Picture.{graph_tree}
use Rattle.yt_set.specs.declared.task.Task.{Task}
use Rattle.yt_bound.specs.Bounds.{most_jobs}
use Rattle.yt_exec.specs.Moments as moments
use Rattle.yt_runner.proofs.Starts.{starts_going}
use Rattle.yt_runner.proofs.running.Running.new.Goals as goal

pub returns-clause-going : goal.returns-clause-going
returns-clause-going c =
    let parts = c.args.accepted.now in
    let trace = c.args.trace.now in
    let x = c.in_ok-executive.executive in
    let is : x ≡ moments.start parts.set (most_jobs (graph_tree parts.graph) trace + 1) =
    c.in_ok-executive.ensures.start ∙ ap (λ (ts : List Task). moments.start ts (c.most_jobs.result + 1)) c.set.ensures.set ∙ ap (λ (n : ℕ). moments.start parts.set (n + 1)) c.most_jobs.ensures in
    starts_going c.handlers_go_on.ensures parts trace c.set.ensures.accepted c.requires.keeps c.in_ok-handlers.handlers c.in_ok-handlers.ensures c.vars-sound.ensures.sound x is c.in_ok-executive.ensures.stands
    c.new-2.result c.new-2.ensures c.new-3.result c.new-3.ensures
