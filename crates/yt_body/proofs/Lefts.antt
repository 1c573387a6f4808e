-- The ticks that are left of a job.
use Rattle.std.proofs.Common.{◌≡◌, ℕ, suc, ◌+◌, ◌<◌, ◌≤◌, ◌⊎◌, ◌&&◌, true, false, eqb, List, [], length, Some, refl, sym, ap, subst, ◌∙◌, inl, inr, ⊎_elim, arith, eq-eqb, eqb-true, ne_eqb}
use Rattle.std.specs.Prelude.{ℤ}
use Rattle.std.specs.List.{Contains}
use Rattle.std.proofs.lemmas.Bool.{and_from, and_parts, cases_Bool, cond-true, cond-false}
use Rattle.std.proofs.lemmas.Option.{same_Some}
use Rattle.yt_graph.specs.declared.handled.SendItem.{SendItem}
use Rattle.yt_graph.specs.Cost.{greatest_cost, greatest_sends}
use Rattle.yt_graph.specs.Limits.{most_cost}
use Rattle.yt_graph.specs.Meaning.{handling}
use Rattle.yt_graph.specs.Picture.{GraphTree, PortTree, graph_tree}
use Rattle.yt_graph.specs.WellFormed.{IsOutOfWidth}
use Rattle.yt_code.specs.declared.stepped.Stepped.TheVariants.{Going, Ended}
use Rattle.yt_code.specs.Ready.{begun}
use Rattle.yt_code.specs.Step.{State, Tick, instruction_step}
use Rattle.yt_code.specs.Valid.{Program}
use Rattle.yt_cost.specs.CodeVars.{ChangesOnlyAt, instrs_vars}
use Rattle.yt_log.specs.declared.job.Job.{Job}
use Rattle.yt_log.specs.Tasks.{Has}
use Rattle.yt_rates.specs.Acceptance.{IsAccepted, Parts}
use Rattle.yt_interleave.specs.Interleaved.{Uses, group_at, port_at}
use Rattle.yt_interleave.specs.Machines.{ticks_left}
use Rattle.yt_interleave.specs.MidHandling.{IsMidHandling, MidHandlingTick, with_sends}
use Rattle.yt_interleave.proofs.Lemmas.{bodies_go_on}
use Rattle.yt_body.specs.declared.port_run.PortRun.{PortRun}
use Rattle.yt_body.specs.declared.port_run.PortStage.{PortStage}
use Rattle.yt_body.specs.declared.port_run.PortStage.TheVariants.{Idle, Placed, Begun}
use Rattle.yt_body.specs.Sound.{IsPortOf}
use Rattle.yt_body.specs.State.{HandlersState, code_at, is_active, is_begun, left_at, machine_left, run_at}
use Rattle.yt_body.proofs.Facts.{code_is, fine_at, limit_at}

stage_begun : (st : PortStage) → is_begun st ≡ true → st ≡ Begun
stage_begun Begun e = refl
stage_begun Placed e = cc
stage_begun Idle e = cc

pub left_begun : (s : HandlersState) (job : Job) → (run_at s job.task).stage ≡ Begun → (run_at s job.task).number ≡ job.number → left_at s job ≡ machine_left (code_at s.parts job.task) (run_at s job.task).machine s.vars
left_begun s job stage number =
    let r = run_at s job.task in
    cond-true (is_active r job.number) (machine_left (code_at s.parts job.task) r.machine s.vars) 0
    (and_from (is_begun r.stage) (eqb r.number job.number) (ap is_begun stage) (eq-eqb r.number job.number number))

pub left_some : (s : HandlersState) (job : Job) → 0 < left_at s job → ((run_at s job.task).stage ≡ Begun) × ((run_at s job.task).number ≡ job.number)
left_some s job some =
    let r = run_at s job.task in
    ⊎_elim
    (λ (e : is_active r job.number ≡ true).
    let p = and_parts (is_begun r.stage) (eqb r.number job.number) e in
    (stage_begun r.stage p.0, eqb-true r.number job.number p.1))
    (λ (e : is_active r job.number ≡ false).
    let none = cond-false (is_active r job.number) (machine_left (code_at s.parts job.task) r.machine s.vars) 0 e in
    absurd (omega arith))
    (cases_Bool (is_active r job.number))

-- of a job that isn't under way no ticks are left
pub left_none : (s : HandlersState) (job : Job) → ((run_at s job.task).stage ≡ Begun → (run_at s job.task).number ≡ job.number → ⊥) → left_at s job ≡ 0
left_none s job not =
    let r = run_at s job.task in
    ⊎_elim
    (λ (e : is_active r job.number ≡ true).
    let p = and_parts (is_begun r.stage) (eqb r.number job.number) e in
    absurd (not (stage_begun r.stage p.0) (eqb-true r.number job.number p.1)))
    (λ (e : is_active r job.number ≡ false). cond-false (is_active r job.number) (machine_left (code_at s.parts job.task) r.machine s.vars) 0 e)
    (cases_Bool (is_active r job.number))

-- as many ticks are left of a job whose run has not changed, where as many are left of its machine
pub left_same : (s new : HandlersState) (job : Job) → run_at new job.task ≡ run_at s job.task → new.parts ≡ s.parts →
    ((run_at s job.task).stage ≡ Begun → machine_left (code_at s.parts job.task) (run_at s job.task).machine new.vars ≡ machine_left (code_at s.parts job.task) (run_at s job.task).machine s.vars) → left_at new job ≡ left_at s job
left_same s new job run parts same =
    let r = run_at s job.task in
    ⊎_elim
    (λ (e : is_active r job.number ≡ true).
    let p = and_parts (is_begun r.stage) (eqb r.number job.number) e in
    let stage = stage_begun r.stage p.0 in
    let number = eqb-true r.number job.number p.1 in
    left_begun new job (ap (λ (x : PortRun). x.stage) run ∙ stage) (ap (λ (x : PortRun). x.number) run ∙ number)
    ∙ ap (λ (x : PortRun). machine_left (code_at new.parts job.task) x.machine new.vars) run
    ∙ ap (λ (x : Parts). machine_left (code_at x job.task) r.machine new.vars) parts
    ∙ same stage ∙ sym (left_begun s job stage number))
    (λ (e : is_active r job.number ≡ false).
    let off : is_active (run_at new job.task) job.number ≡ false = ap (λ (x : PortRun). is_active x job.number) run ∙ e in
    cond-false (is_active (run_at new job.task) job.number) (machine_left (code_at new.parts job.task) (run_at new job.task).machine new.vars) 0 off
    ∙ sym (cond-false (is_active r job.number) (machine_left (code_at s.parts job.task) r.machine s.vars) 0 e))
    (cases_Bool (is_active r job.number))

-- what a tick leaves of a machine in the middle of a handling
abbrev pub GoesFrom : GraphTree → Program → PortTree → State → (ℕ → List (List ℤ)) → List ℤ → Tick → Type 0
GoesFrom g code p machine f now t =
    ((t.stepped ≡ Going) × IsMidHandling g code p t.machine (with_sends f t.sends) t.vars × (machine_left code machine now ≡ suc (machine_left code t.machine t.vars)))
    ⊎ ((t.stepped ≡ Ended) × (machine_left code machine now ≡ 1))

pub record MidTick (g : GraphTree) (code : Program) (p : PortTree) (machine : State) (f : ℕ → List (List ℤ)) (now : List ℤ) (t : Tick) : Type 0 where
  pub changes : ChangesOnlyAt (instrs_vars code.instrs) now t.vars
  pub room : (out : ℕ) → length (with_sends f t.sends out) ≤ greatest_sends p out
  pub wide : (x : SendItem) → Has t.sends x → IsOutOfWidth p x.out (length x.values)
  pub goes : GoesFrom g code p machine f now t

module _ (parts : Parts) (accepted : IsAccepted parts) (port : ℕ) (inside : IsPortOf (graph_tree parts.graph) port) (machine : State) (f : ℕ → List (List ℤ)) (now : List ℤ)
    (mid : IsMidHandling (graph_tree parts.graph) (code_at parts port) (port_at (graph_tree parts.graph) port) machine f now) where
  pub some_left : (1 ≤ machine_left (code_at parts port) machine now) × (machine_left (code_at parts port) machine now ≤ greatest_cost (port_at (graph_tree parts.graph) port))
  unfolding machine_left
  some_left =
      let is = code_is parts accepted port inside in
      bodies_go_on.left (graph_tree parts.graph) (code_at parts port) (port_at (graph_tree parts.graph) port) is.meaning is.own_vars most_cost (limit_at parts accepted port inside).ticks machine f now mid

  steps_on : MidHandlingTick (graph_tree parts.graph) (code_at parts port) (port_at (graph_tree parts.graph) port) machine f now most_cost
  steps_on =
      let is = code_is parts accepted port inside in
      bodies_go_on.steps (graph_tree parts.graph) (code_at parts port) (port_at (graph_tree parts.graph) port) is.meaning is.own_vars most_cost (limit_at parts accepted port inside).ticks machine f now mid

  pub mid_tick : (t : Tick) × (instruction_step (code_at parts port).instrs machine now ≡ Some t) × MidTick (graph_tree parts.graph) (code_at parts port) (port_at (graph_tree parts.graph) port) machine f now t
  unfolding machine_left
  mid_tick =
      let g = graph_tree parts.graph in
      let m = steps_on in (
        m.tick,
        m.defined,
        record {
          changes = m.changes;
          room = m.room;
          wide = λ x has. let w = m.part x has in bodies_go_on.wide g (port_at g port) (fine_at parts accepted port inside) w.0 w.1 x w.2;
          goes = m.goes;
        },
      )

  pub tick_facts : (t : Tick) → instruction_step (code_at parts port).instrs machine now ≡ Some t → MidTick (graph_tree parts.graph) (code_at parts port) (port_at (graph_tree parts.graph) port) machine f now t
  tick_facts t defined =
      let m = mid_tick in
      subst (MidTick (graph_tree parts.graph) (code_at parts port) (port_at (graph_tree parts.graph) port) machine f now) (same_Some m.0 t (sym m.1 ∙ defined)) m.2

  -- variables that another port's code uses may change, where the two are not under one resource
  pub other_vars : (other : ℕ) → IsPortOf (graph_tree parts.graph) other →
      (0 < group_at (graph_tree parts.graph) port → group_at (graph_tree parts.graph) port ≡ group_at (graph_tree parts.graph) other → ⊥) → (new : List ℤ) → ChangesOnlyAt (instrs_vars (code_at parts other).instrs) now new →
      IsMidHandling (graph_tree parts.graph) (code_at parts port) (port_at (graph_tree parts.graph) port) machine f new × (machine_left (code_at parts port) machine new ≡ machine_left (code_at parts port) machine now)
  unfolding machine_left
  other_vars other at apart new changes =
      let g = graph_tree parts.graph in
      let is = code_is parts accepted port inside in
      let its = code_is parts accepted other at in
      bodies_go_on.others g (code_at parts port) (port_at g port) is.meaning is.own_vars most_cost (limit_at parts accepted port inside).ticks machine f now new mid (instrs_vars (code_at parts other).instrs) changes
      (λ v own theirs.
      let u : Uses g port v = subst (λ (vs : List ℕ). Contains vs v) is.own_vars own in
      let w : Uses g other v = subst (λ (vs : List ℕ). Contains vs v) its.own_vars theirs in
      let both = bodies_go_on.shared g accepted.well_formed port other v u w in
      apart both.0 both.1)

-- a machine that begins is in the middle of its handling
pub mid_begins : (parts : Parts) → IsAccepted parts → (port : ℕ) → IsPortOf (graph_tree parts.graph) port → (message now : List ℤ) (f : ℕ → List (List ℤ)) → ((out : ℕ) → f out ≡ []) →
    IsMidHandling (graph_tree parts.graph) (code_at parts port) (port_at (graph_tree parts.graph) port) (begun (code_at parts port) message) f now
mid_begins parts accepted port inside message now f none =
    let is = code_is parts accepted port inside in
    bodies_go_on.begins (graph_tree parts.graph) (code_at parts port) (port_at (graph_tree parts.graph) port) is.meaning is.own_vars message now f none
