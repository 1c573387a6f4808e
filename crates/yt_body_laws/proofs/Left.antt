-- What is left of each job.
use Rattle.std.proofs.Common.{◌≡◌, ℕ, ◌+◌, ◌<◌, true, false, cond, eqb, length, Some, refl, sym, ap, ap₂, ◌∙◌, ⊎_elim, arith, eqb-true, eq-eqb}
use Rattle.std.specs.Prelude.{ℤ, List}
use Rattle.std.proofs.lemmas.Bool.{and_from, and_parts, cases_Bool, cond-true, cond-false}
use Rattle.yt_graph.proofs.Lemmas.{ticks_within}
use Rattle.yt_graph.specs.Limits.{most_cost}
use Rattle.yt_graph.specs.Picture.{graph_tree}
use Rattle.yt_code.specs.Step.{State}
use Rattle.yt_code.specs.Valid.{Program}
use Rattle.yt_log.specs.declared.job.Job.{Job}
use Rattle.yt_log.specs.Ticks.{done}
use Rattle.yt_chan.specs.declared.target.Arrived.{Arrived}
use Rattle.yt_rates.specs.Acceptance.{IsAccepted, Parts}
use Rattle.yt_trace.specs.declared.message.Message.{Message}
use Rattle.yt_serial.specs.Beginnings.{nth_job}
use Rattle.yt_serial.specs.Premises.{CanRun}
use Rattle.yt_serial.specs.SerialHandling.{Serial}
use Rattle.yt_interleave.specs.Interleaved.{ActiveJob, RunState, port_at, whole_of}
use Rattle.yt_interleave.specs.Machines.{ticks_left}
use Rattle.yt_interleave.specs.Moves.{Interleaves}
use Rattle.yt_interleave.proofs.Lemmas.{known_port, machines_go_on}
use Rattle.yt_body.specs.declared.port_run.PortRun.{PortRun}
use Rattle.yt_body.specs.declared.port_run.PortStage.{PortStage}
use Rattle.yt_body.specs.declared.port_run.PortStage.TheVariants.{Idle, Placed, Begun}
use Rattle.yt_body.specs.State.{HandlersState, code_at, is_active, is_begun, left_at, machine_left, run_at}
use Rattle.yt_body_laws.specs.Carrying.{Carries}
use Rattle.yt_body_laws.specs.Laws.{BodiesHaveLeft}
use Rattle.yt_body_laws.proofs.Codes.{cost_within, means, own}

begun_is : (stage : PortStage) → is_begun stage ≡ true → stage ≡ Begun
begun_is Begun e = refl
begun_is Placed e = cc
begun_is Idle e = cc

-- what is left of a job in a run
abbrev left_in : Program → List ℤ → PortRun → ℕ → ℕ
left_in code vars run number = cond (is_active run number) (machine_left code run.machine vars) 0

-- it is what its machine has left, where the run is its
left_active : (code : Program) (vars : List ℤ) (run : PortRun) (number : ℕ) → run.stage ≡ Begun → run.number ≡ number → left_in code vars run number ≡ ticks_left code.instrs most_cost run.machine vars
unfolding machine_left
left_active code vars run number stage same =
    cond-true (is_active run number) (ticks_left code.instrs most_cost run.machine vars) 0 (and_from (is_begun run.stage) (eqb run.number number) (ap is_begun stage) (eq-eqb run.number number same))

-- and 0 where it isn't
left_none : (code : Program) (vars : List ℤ) (run : PortRun) (number : ℕ) → 0 < left_in code vars run number → (run.stage ≡ Begun) × (run.number ≡ number)
left_none code vars run number some =
    ⊎_elim
    (λ (e : is_active run number ≡ true).
    let parts = and_parts (is_begun run.stage) (eqb run.number number) e in
    (begun_is run.stage parts.0, eqb-true run.number number parts.1))
    (λ (e : is_active run number ≡ false).
    let none = cond-false (is_active run number) (machine_left code run.machine vars) 0 e in
    absurd (omega arith))
    (cases_Bool (is_active run number))

module _ (parts : Parts) (accepted : IsAccepted parts) (trace : List Message) (can : CanRun (graph_tree parts.graph) trace) (s : Serial) (r : RunState)
    (is : Interleaves (graph_tree parts.graph) trace s r) (due : Arrived → ℕ) (b : HandlersState) (carries : Carries parts s r due b) where
  active : (port : ℕ) (a : ActiveJob) → r.active port ≡ Some a → done r.log a.job (length r.log) + left_at b a.job ≡ (whole_of (graph_tree parts.graph) a).ticks
  active port a at =
      let g = graph_tree parts.graph in
      let u = is.stands.under_way port a at in
      let p = known_port g trace can s r is port a.job.number a.message (is.stands.known port a at) in
      let run = carries.begun port a at in
      let code = code_at parts port in
      let most = cost_within parts accepted port p.0 p.1 in
      let ticks = ticks_within g (port_at g port) a.message.values a.vars in
      let whole : (whole_of g a).ticks ≡ (whole_of g (record a { job = nth_job port a.job.number })).ticks = ap (λ (t : ℕ). (whole_of g (record a { job = nth_job t a.job.number })).ticks) u.task in
      let left = machines_go_on.left g trace can s r is port a at code (means parts accepted port p.0 p.1) (own parts accepted port p.0 p.1) run.progress run.alone most_cost (omega arith) in
      let same : left_at b a.job ≡ ticks_left code.instrs most_cost run.progress.machine r.vars =
      ap (λ (t : ℕ). left_in (code_at b.parts t) b.vars (run_at b t) a.job.number) u.task
      ∙ left_active (code_at b.parts port) b.vars (run_at b port) a.job.number run.stage run.number
      ∙ ap (λ (q : Parts). ticks_left (code_at q port).instrs most_cost (run_at b port).machine b.vars) carries.graph
      ∙ ap (λ (m : State). ticks_left code.instrs most_cost m b.vars) (sym run.machine)
      ∙ ap (ticks_left code.instrs most_cost run.progress.machine) carries.vars in
      omega arith

  only : (job : Job) → 0 < left_at b job → (a : ActiveJob) × (r.active job.task ≡ Some a) × (a.job ≡ job)
  only job some =
      let here = left_none (code_at b.parts job.task) b.vars (run_at b job.task) job.number some in
      let a = carries.only job.task here.0 in
      let run = carries.begun job.task a.0 a.1 in
      (a.0, a.1, ap₂ nth_job (is.stands.under_way job.task a.0 a.1).task (sym run.number ∙ here.1))

pub bodies_have_left : BodiesHaveLeft
bodies_have_left parts accepted trace can s r is due b carries = record {
  active = active parts accepted trace can s r is due b carries;
  only = only parts accepted trace can s r is due b carries;
}
