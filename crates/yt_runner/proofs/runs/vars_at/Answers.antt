use Rattle.std.proofs.Common.{◌≡◌, ℤ, List, Result, Ok, Err, sym, subst, ◌∙◌}
use Rattle.std.specs.Prelude.{IfOk}
use Rattle.yt_rates.specs.Acceptance.{Parts}
use Rattle.yt_graph.specs.Picture.{graph_tree}
use Rattle.yt_trace.specs.declared.message.Message.{Message}
use Rattle.yt_runner.specs.Variables.{AreVariablesAt}
use Rattle.yt_runner.proofs.Vars.{reached_vars}
use Rattle.yt_runner.proofs.runs.vars_at.Goals as goal

-- what holds of a value where another fact does
if_ok_from : {A E : Type 0} (P Q : A → Type 0) (r : Result A E) → ((a : A) → P a → Q a) → IfOk r P → IfOk r Q
if_ok_from P Q (Ok a) f h = f a h
if_ok_from P Q (Err e) f h = tt

pub returns : goal.returns
returns c =
    let x = c.in_ok-running.running in
    let g = graph_tree c.args.accepted.now.graph in
    let trace = c.args.trace.now in
    let tick = c.args.tick in
    let state = c.go_on.new.self in
    let parts : state.parts ≡ c.args.accepted.now = c.in_ok-go_on.ensures.same.parts ∙ c.in_ok-running.ensures.parts in
    let same : state.trace ≡ trace = c.in_ok-go_on.ensures.same.trace ∙ c.in_ok-running.ensures.trace in
    let at : AreVariablesAt (graph_tree state.parts.graph) state.trace tick state.body.vars = reached_vars tick state c.in_ok-go_on.ensures.reached in
    let of_parts = subst (λ (p : Parts). AreVariablesAt (graph_tree p.graph) state.trace tick state.body.vars) parts at in
    let of_trace = subst (λ (ms : List Message). AreVariablesAt g ms tick state.body.vars) same of_parts in
    if_ok_from (λ values. values ≡ state.body.vars) (λ values. AreVariablesAt g trace tick values) c.vars.result
    (λ values is. subst (λ (vs : List ℤ). AreVariablesAt g trace tick vs) (sym is) of_trace) c.vars.ensures
