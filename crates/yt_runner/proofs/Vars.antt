-- The variables that handlers carry are those at their tick of the promised run.
use Rattle.std.proofs.Common.{◌≡◌, ℕ, suc, ◌≤◌, List, length, sym, ap, subst, ◌∙◌, inl, inr, arith}
use Rattle.yt_graph.specs.Picture.{graph_tree}
use Rattle.yt_log.specs.declared.plan.PlanItem.{PlanItem}
use Rattle.yt_exec.specs.Moments.{Moment}
use Rattle.yt_body.specs.State.{HandlersState}
use Rattle.yt_rates.specs.Acceptance.{Parts}
use Rattle.yt_trace.specs.declared.message.Message.{Message}
use Rattle.yt_serial.specs.declared.shown.OutLine.{OutLine}
use Rattle.yt_serial.specs.SerialHandling.{Serial, start}
use Rattle.yt_serial.specs.Told.{IsPromisedRun}
use Rattle.yt_serial.specs.Variables.{variables_at}
use Rattle.yt_serial.proofs.Lemmas.{run_rules_are_exact, variables_stay}
use Rattle.yt_interleave.specs.Interleaved.{RunState}
use Rattle.yt_interleave.proofs.Lemmas.{runs_agree}
use Rattle.yt_body_laws.specs.Running.{IsInStep}
use Rattle.yt_runner.specs.Inside.Going.{HasReached}
use Rattle.yt_runner.specs.Inside.State.{RunnerState, graph_of}
use Rattle.yt_runner.specs.Variables.{AreVariablesAt}

-- where all stands for a run that has come to a tick, the variables are those at it
pub vars_now :
    (parts : Parts) (trace : List Message) (s : Serial) (r : RunState) (plan : List PlanItem) (lines : List OutLine) (due : ℕ) (b : HandlersState) (moment : Moment) →
    IsInStep parts trace s r plan lines due b moment → AreVariablesAt (graph_tree parts.graph) trace (length r.log) b.vars
vars_now parts trace s r plan lines due b moment is log all promised serial along =
    is.carries.vars ∙ sym ((runs_agree (graph_tree parts.graph) trace is.can s r due plan lines is.running is.from log all promised).variables serial along)

-- where it is over, they are those at each later one
pub vars_over :
    (parts : Parts) (trace : List Message) (s : Serial) (r : RunState) (plan : List PlanItem) (lines : List OutLine) (due : ℕ) (b : HandlersState) (moment : Moment) →
    IsInStep parts trace s r plan lines due b moment → IsPromisedRun (graph_tree parts.graph) trace r.log lines →
    (upto : ℕ) → length r.log ≤ upto → AreVariablesAt (graph_tree parts.graph) trace upto b.vars
vars_over parts trace s r plan lines due b moment is over upto to log all promised serial along =
    let g = graph_tree parts.graph in
    let one : log ≡ r.log = (run_rules_are_exact.one g trace is.can.can log r.log all lines promised over).0 in
    let long : length log ≡ length r.log = ap length one in
    let low : length log ≤ upto = omega arith in
    let vars = (start g trace).vars in
    let now = vars_now parts trace s r plan lines due b moment is log all promised serial along in
    let end : variables_at vars serial.handled log (length r.log) ≡ variables_at vars serial.handled log (length log) = ap (λ (t : ℕ). variables_at vars serial.handled log t) (sym long) in
    now ∙ end ∙ sym (variables_stay vars serial.handled log upto low)

-- so a run that has reached a tick, or is over before it, has the variables at it
pub reached_vars : (upto : ℕ) (state : RunnerState) → HasReached upto state → AreVariablesAt (graph_of state) state.trace upto state.body.vars
reached_vars upto state (inl (going, late)) =
    let now = vars_now state.parts state.trace going.serial going.run going.plan state.lines (length going.run.log) state.body state.moment going.in_step in
    let at : length going.run.log ≡ upto = let c = going.clock in let t = going.to in omega arith in
    subst (λ (t : ℕ). AreVariablesAt (graph_of state) state.trace t state.body.vars) at now
reached_vars upto state (inr over) =
    vars_over state.parts state.trace over.serial over.run over.plan state.lines (suc (length over.run.log)) state.body state.moment over.in_step over.promised upto over.to
