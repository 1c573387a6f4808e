-- What has come is released and told, and carried by the executive.
use Rattle.std.proofs.Common.{◌≡◌, ℕ, suc, ◌<◌, ◌≤◌, List, [], ◌∷◌, ◌++◌, length, Some, sym, ap, subst, ◌∙◌, append_assoc, ⊎_elim, arith}
use Rattle.std.specs.Prelude.{ℤ}
use Rattle.std.proofs.Math.Path.{fun_ext}
use Rattle.std.proofs.lemmas.Bool.{cases_lt}
use Rattle.yt_graph.specs.Picture.{GraphTree}
use Rattle.yt_set.specs.declared.task.Task.{Task}
use Rattle.yt_log.specs.declared.job.Job.{Job}
use Rattle.yt_log.specs.declared.plan.PlanItem.{PlanItem}
use Rattle.yt_log.specs.Tasks.{Has}
use Rattle.yt_log.specs.Ticks.{Ticks}
use Rattle.yt_log.proofs.Lemmas.{has_append, has_left}
use Rattle.yt_exec.specs.Bodies.{task_in}
use Rattle.yt_exec.specs.Moments.{Moment}
use Rattle.yt_exec.specs.StandsFor.{GoesOnWith, StandsFor, item_at}
use Rattle.yt_chan.specs.declared.target.Arrived.{Arrived}
use Rattle.yt_chan.specs.declared.target.Arrived.TheVariants.{Port, Output}
use Rattle.yt_chan.specs.State.{IsArriving, placed_at}
use Rattle.yt_rates.specs.Acceptance.{Parts}
use Rattle.yt_rates.specs.Tables.{tasks_of}
use Rattle.yt_trace.specs.declared.message.Message.{Message}
use Rattle.yt_serial.specs.declared.shown.OutLine.{OutLine}
use Rattle.yt_serial.specs.Beginnings.{nth_job}
use Rattle.yt_serial.specs.SerialHandling.{Serial}
use Rattle.yt_serial.proofs.Lemmas.{numbered_within, port_task}
use Rattle.yt_interleave.specs.Executives.{Executes, HasLeft}
use Rattle.yt_interleave.specs.Interleaved.{RunState}
use Rattle.yt_interleave.specs.Timing.{IsRuleLog}
use Rattle.yt_interleave.proofs.Lemmas.{executives_tick, known_port, runs_go_on}
use Rattle.yt_body.specs.Sound.{IsPortOf}
use Rattle.yt_body.specs.State.{HandlersState, left_at, run_at}
use Rattle.yt_body.specs.Steps.{Comes}
use Rattle.yt_body.proofs.Lemmas.{task_at}
use Rattle.yt_body_laws.specs.Placing.{AllPut, HasPlaced, IsPlacing, with_tick_at}
use Rattle.yt_body_laws.specs.Running.{IsInStep, IsTelling, MayRelease}
use Rattle.yt_body_laws.proofs.Codes.{graph_in}
use Rattle.yt_body_laws.proofs.Left.{bodies_have_left}
use Rattle.yt_body_laws.proofs.Placing.{bodies_place}
use Rattle.yt_body_laws.proofs.Telling.{bodies_tell}

-- what is left of the jobs of a run is determined
left_where : (g : GraphTree) (r : RunState) (a b : Job → ℕ) → HasLeft g r a → HasLeft g r b → (job : Job) → 0 < a job → b job ≡ a job
left_where g r a b one other job some =
    let active = one.only job some in
    let first = one.active job.task active.0 active.1 in
    let second = other.active job.task active.0 active.1 in
    let here : a active.0.job ≡ a job = ap a active.2 in
    let there : b active.0.job ≡ b job = ap b active.2 in
    omega arith

pub left_same : (g : GraphTree) (r : RunState) (a b : Job → ℕ) → HasLeft g r a → HasLeft g r b → (job : Job) → a job ≡ b job
left_same g r a b one other job =
    ⊎_elim
    (λ (some : 0 < a job). sym (left_where g r a b one other job some))
    (λ (none : a job ≤ 0).
    ⊎_elim
    (λ (some : 0 < b job). left_where g r b a other one job some)
    (λ (no : b job ≤ 0). omega arith)
    (cases_lt 0 (b job)))
    (cases_lt 0 (a job))

-- so an executive that stands with one body of a run stands with each
pub stands_with : (g : GraphTree) (r : RunState) (a b : Job → ℕ) → HasLeft g r a → HasLeft g r b → (moment : Moment) (plan : List PlanItem) (log : Ticks) → StandsFor moment a plan log → StandsFor moment b plan log
stands_with g r a b one other moment plan log stands = subst (λ (left : Job → ℕ). StandsFor moment left plan log) (fun_ext (left_same g r a b one other)) stands

module _ (parts : Parts) (trace : List Message) (s : Serial) (r : RunState) (plan : List PlanItem) (lines : List OutLine) (due : Arrived → ℕ) (b : HandlersState) (moment : Moment)
    (new : List PlanItem) (more : List OutLine) (is : IsTelling parts trace s r plan lines due b moment new more) where
  pub left_of : (later : Arrived → ℕ) (after : HandlersState) → IsPlacing parts trace s r later after → HasLeft (graph_in parts) r (left_at after)
  left_of later after placing = bodies_have_left parts placing.accepted trace placing.can.can s r placing.interleaves later after placing.carries

  -- the executive stands with the handlers after one more message has come
  executes_with : (later : Arrived → ℕ) (after : HandlersState) → IsPlacing parts trace s r later after → Executes (graph_in parts) r (plan ++ new) moment (left_at after)
  executes_with later after placing = record {
    tasks = is.executes.tasks;
    stands = stands_with (graph_in parts) r (left_at b) (left_at after) (left_of due b is.placing) (left_of later after placing) moment (plan ++ new) r.log is.executes.stands;
  }

  module _ (port : ℕ) (after : HandlersState) (placed : HasPlaced parts trace s r due (Port port) after) where
    abbrev job : Job
    job = nth_job port (run_at after port).number

    -- the plan has no job of the port in this tick
    of_plan : (z : PlanItem) → Has (plan ++ new) z → z.job.task ≡ port → Has plan z
    of_plan z has task =
        ⊎_elim
        (λ (old : Has plan z). old)
        (λ (h : Has new z).
        let come = is.told.come z h in
        let same : due (Port z.job.task) ≡ due (Port port) = ap (λ (k : ℕ). due (Port k)) task in
        let waited = placed.waited in
        absurd (omega arith))
        (has_append plan new z has)

    pub may_release : MayRelease moment job
    may_release =
        let g = graph_in parts in
        let come = placed.come in
        let p = known_port g trace is.placing.can.can s r is.placing.interleaves port (run_at after port).number come.0 come.1 in
        let task = port_task g port p.0 p.1 in
        let long : length moment.tasks ≡ length (tasks_of g) = ap length is.executes.tasks in
        record {
          known = (task.0, let last = task.1 in omega arith);
          next = executives_tick.next g trace is.placing.can s r plan lines is.running moment (left_at b) (plan ++ new) is.executes is.by.legal port (run_at after port).number come.0 come.1 come.2
              (λ z has. has_left plan new z has) of_plan;
        }

    costs_some : 1 ≤ (task_in moment.tasks job).cost
    costs_some =
        let g = graph_in parts in
        let come = placed.come in
        let p = known_port g trace is.placing.can.can s r is.placing.interleaves port (run_at after port).number come.0 come.1 in
        let inside : IsPortOf g port = numbered_within g.ports port p.0 p.1 in
        let task = ap (λ (t : Task). t.cost) (ap (λ (ts : List Task). task_in ts job) is.executes.tasks ∙ task_at parts is.placing.accepted job inside) in
        omega arith

    module _ (next : Moment) (kept : next.tasks ≡ moment.tasks) (goes : GoesOnWith moment next job) where
      abbrev item : PlanItem
      item = item_at (length r.log) job 1

      goes_on : StandsFor next (left_at b) (plan ++ (new ++ item ∷ [])) r.log × IsRuleLog (graph_in parts) (plan ++ (new ++ item ∷ [])) r.log
      goes_on =
          let on = executives_tick.releases (graph_in parts) r (plan ++ new) moment next (left_at b) is.executes kept is.by job goes costs_some in
          let at : (plan ++ new) ++ item_at moment.clock job 1 ∷ [] ≡ plan ++ (new ++ item ∷ []) =
          ap (λ (now : ℕ). (plan ++ new) ++ item_at now job 1 ∷ []) is.executes.stands.clock ∙ append_assoc plan new (item ∷ []) in
          subst (λ (items : List PlanItem). StandsFor next (left_at b) items r.log × IsRuleLog (graph_in parts) items r.log) at on

      pub releases : IsTelling parts trace s r plan lines (with_tick_at (Port port) (suc (length r.log)) due) after next (new ++ item ∷ []) more
      releases =
          let later = with_tick_at (Port port) (suc (length r.log)) due in
          record {
            placing = placed.placing;
            running = is.running;
            told = bodies_tell.releases parts trace s r due b is.placing new more is.told port after placed 1;
            executes = record {
              tasks = kept ∙ is.executes.tasks;
              stands = stands_with (graph_in parts) r (left_at b) (left_at after) (left_of due b is.placing) (left_of later after placed.placing) next (plan ++ (new ++ item ∷ [])) r.log goes_on.0;
            };
            by = goes_on.1;
          }

  pub tells : (output : ℕ) (after : HandlersState) → Comes b (length r.log) (Output output) after → HasPlaced parts trace s r due (Output output) after →
      (values : List ℤ) → placed_at after.channels (Output output) ≡ Some values →
      IsTelling parts trace s r plan lines (with_tick_at (Output output) (suc (length r.log)) due) after moment new (more ++ (record { time = length r.log; output = output; values = values }) ∷ [])
  tells output after comes placed values at = record {
    placing = placed.placing;
    running = is.running;
    told = bodies_tell.shows parts trace s r due b is.placing new more is.told output after comes placed values at;
    executes = executes_with (with_tick_at (Output output) (suc (length r.log)) due) after placed.placing;
    by = is.by;
  }

  pub places : AllPut parts r due → ((target : Arrived) → IsArriving b.channels (length r.log) target → ⊥) →
      IsInStep parts trace s r (plan ++ new) (lines ++ more) (suc (length r.log)) b moment
  places put none =
      let told = bodies_tell.ends parts trace s r due b is.placing new more is.told put none in
      record {
        accepted = is.placing.accepted;
        can = is.placing.can;
        running = runs_go_on.places (graph_in parts) trace is.placing.can s r plan lines is.running new more told.0 told.1 is.by;
        executes = is.executes;
        carries = bodies_place.ends parts trace s r due b is.placing put none;
        from = omega arith;
        to = omega arith;
      }
