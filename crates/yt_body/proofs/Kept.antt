-- What calls leave of a port that they don't concern.
use Rattle.std.proofs.Common.{◌≡◌, ℕ, ◌+◌, ◌-◌, ◌<◌, ◌≤◌, ◌⊎◌, true, false, cond, eqb, List, [], ◌∷◌, ◌++◌, length, Option, Some, refl, sym, ap, subst, ◌∙◌, inl, inr, ⊎_elim, arith, append-nil, ne_eqb}
use Rattle.std.specs.Prelude.{ℤ}
use Rattle.std.specs.List.{Contains}
use Rattle.std.proofs.lemmas.Bool.{cases_eq, cond-true, cond-false}
use Rattle.std.proofs.lemmas.List.Elements.{Contains-append_cases, Contains-append_right}
use Rattle.yt_code.specs.Step.{State}
use Rattle.yt_code.specs.Valid.{Program}
use Rattle.yt_graph.specs.declared.handled.SendItem.{SendItem}
use Rattle.yt_graph.specs.Picture.{GraphTree, PortTree, graph_tree}
use Rattle.yt_log.specs.declared.job.Job.{Job}
use Rattle.yt_rates.specs.Acceptance.{Parts}
use Rattle.yt_chan.specs.declared.wire.Wire.{Wire}
use Rattle.yt_chan.specs.declared.port.PortJob.{PortJob}
use Rattle.yt_chan.specs.declared.target.Arrived.{Arrived}
use Rattle.yt_chan.specs.declared.target.Arrived.TheVariants.{Output, Port}
use Rattle.yt_chan.specs.Pending.{Pending}
use Rattle.yt_chan.specs.Changes.{Delivers, KeepsOpens, KeepsWaits, KeepsWires, Places, StartsHandling, StartsHandlingAt}
use Rattle.yt_chan.specs.State.{ChannelState, job_at, open_at, open_on, placed_at, waits_at}
use Rattle.yt_chan.specs.Wires.{wire_at, wire_of_out, wire_to}
use Rattle.yt_chan.proofs.Lemmas.{line_is, over_other, target_cases}
use Rattle.yt_interleave.specs.Interleaved.{port_at}
use Rattle.yt_interleave.specs.MidHandling.{IsMidHandling}
use Rattle.yt_body.specs.declared.port_run.PortRun.{PortRun}
use Rattle.yt_body.specs.declared.port_run.PortStage.{PortStage}
use Rattle.yt_body.specs.declared.port_run.PortStage.TheVariants.{Idle, Placed, Begun}
use Rattle.yt_body.specs.Sends.{Closes, SendsAll}
use Rattle.yt_body.specs.Sound.{IsAsStage, IsClearOf, IsHeld}
use Rattle.yt_body.specs.State.{code_at}
use Rattle.yt_body.proofs.Opens.{of_other_port}
use Rattle.yt_body.proofs.Sending.{clear_kept}
use Rattle.yt_body.proofs.Ticked.{apart_kept}

-- of a port, all stays that its run's stage speaks of
pub record KeepsPort (old new : ChannelState) (port : ℕ) : Type 0 where
  pub job : job_at new port ≡ job_at old port
  pub wires : new.wires ≡ old.wires
  pub clear : IsClearOf old port → IsClearOf new port
  pub opens : (out : ℕ) → open_on new port out ≡ open_on old port out
  pub placed : placed_at new (Port port) ≡ placed_at old (Port port)

pub keeps_both : (old mid new : ChannelState) (port : ℕ) → KeepsPort old mid port → KeepsPort mid new port → KeepsPort old new port
keeps_both old mid new port a b = record {
  job = b.job ∙ a.job;
  wires = b.wires ∙ a.wires;
  clear = λ c. b.clear (a.clear c);
  opens = λ out. b.opens out ∙ a.opens out;
  placed = b.placed ∙ a.placed;
}

pub mid_open : (g : GraphTree) (code : Program) (p : PortTree) (machine : State) (f h : ℕ → List (List ℤ)) (now : List ℤ) → ((out : ℕ) → h out ≡ f out) → IsMidHandling g code p machine f now → IsMidHandling g code p machine h now
mid_open g code p machine f h now same w = record {
  msg = w.msg;
  vars = w.vars;
  spent = w.spent;
  progress = w.progress;
  unfinished = w.unfinished;
  alone = w.alone;
  is = w.is;
  sent = λ out. same out ∙ w.sent out;
  agree = w.agree;
}

pub held_kept : (old new : ChannelState) (port : ℕ) (run : PortRun) → KeepsPort old new port → IsHeld old port run → IsHeld new port run
held_kept old new port run k h = record {
  handled = ap (λ (j : PortJob). j.in_handling) k.job ∙ h.handled;
  number = h.number ∙ ap (λ (j : PortJob). j.number + 1) (sym k.job);
  early = h.early;
  apart = apart_kept old new port run.arrival k.job k.wires h.apart;
  clear = k.clear h.clear;
}

module _ (parts : Parts) (old new : ChannelState) (vs ws : List ℤ) (port : ℕ) (run : PortRun) (k : KeepsPort old new port)
    (goes : run.stage ≡ Begun → (machine : State) → IsMidHandling (graph_tree parts.graph) (code_at parts port) (port_at (graph_tree parts.graph) port) machine (open_on old port) vs →
    IsMidHandling (graph_tree parts.graph) (code_at parts port) (port_at (graph_tree parts.graph) port) machine (open_on old port) ws) where
  pub stage_kept : (stage : PortStage) → run.stage ≡ stage → IsAsStage parts old vs port run stage → IsAsStage parts new ws port run stage
  stage_kept Idle at is = record {
    free = ap (λ (j : PortJob). j.in_handling) k.job ∙ is.free;
    number = is.number ∙ ap (λ (j : PortJob). j.number) (sym k.job);
    none = λ out. k.opens out ∙ is.none out;
  }
  stage_kept Placed at is = record {
    held = held_kept old new port run k is.held;
    none = λ out. k.opens out ∙ is.none out;
    message = is.message;
    placed = k.placed ∙ is.placed;
    wide = is.wide;
  }
  stage_kept Begun at is = record {
    held = held_kept old new port run k is.held;
    ready = is.ready;
    mid = mid_open (graph_tree parts.graph) (code_at parts port) (port_at (graph_tree parts.graph) port) run.machine (open_on old port) (open_on new port) ws k.opens (goes at run.machine is.mid);
  }

-- sends of another port's job
pub sends_keep : (old new : ChannelState) (other : ℕ) (sends : List SendItem) (port : ℕ) → 1 ≤ other → (port ≡ other → ⊥) → SendsAll old other sends new → KeepsPort old new port
sends_keep old new other sends port some ne s = record {
  job = s.jobs port;
  wires = s.wires.1;
  clear = clear_kept old new port s.wires.1 (λ target out lt to m has. subst (λ (ms : List Pending). Contains ms m) (s.waits target) has);
  opens = λ out. ap (λ (ls : List Wire). open_at new (wire_of_out ls port out)) s.wires.1 ∙ s.others (wire_of_out old.wires port out) (of_other_port old.wires port out other some ne);
  placed = s.placed (Port port);
}

-- the end of another port's job
pub closes_keep : (old new : ChannelState) (job : Job) (arrival port : ℕ) → 1 ≤ job.task → (port ≡ job.task → ⊥) → Closes old new job arrival → KeepsPort old new port
closes_keep old new job arrival port some ne s = record {
  job = s.jobs port ∙ cond-false (eqb port job.task) (record { in_handling = false; number = job.number; arrival = arrival }) (job_at old port) (ne_eqb port job.task ne);
  wires = s.wires.1;
  clear = clear_kept old new port s.wires.1 (λ target out lt to m has.
      let own : (wire_at old.wires (wire_to old.wires target)).port ≡ port = ap (λ (i : ℕ). (wire_at old.wires i).port) to ∙ (line_is old.wires port out lt).0 in
      let none = over_other (wire_at old.wires (wire_to old.wires target)) (open_at old (wire_to old.wires target)) job arrival (λ e. ne (sym own ∙ e)) in
      let all : waits_at new target ≡ waits_at old target = s.waits target ∙ ap (λ (ms : List Pending). waits_at old target ++ ms) none ∙ append-nil (waits_at old target) in
      subst (λ (ms : List Pending). Contains ms m) all has);
  opens = λ out.
      let i = wire_of_out old.wires port out in
      ap (λ (ls : List Wire). open_at new (wire_of_out ls port out)) s.wires.1 ∙ s.opens i
      ∙ cond-false (eqb (wire_at old.wires i).port job.task) [] (open_at old i) (ne_eqb (wire_at old.wires i).port job.task (of_other_port old.wires port out job.task some ne));
  placed = s.placed (Port port);
}

pub port_differs : (port other : ℕ) → (port ≡ other → ⊥) → Port port ≡ Port other → ⊥
port_differs port other ne e = ne cc

other_job : (old new : ChannelState) (other port : ℕ) → (port ≡ other → ⊥) → StartsHandling old new other → job_at new port ≡ job_at old port
other_job old new other port ne handles = handles port ∙ cond-false (eqb port other) (record (job_at old port) { in_handling = true }) (job_at old port) (ne_eqb port other ne)

-- a message that comes from outside to another port
pub puts_keep : (old new : ChannelState) (other : ℕ) (values : List ℤ) (port : ℕ) → (port ≡ other → ⊥) → KeepsWires old new → Places old new (Port other) values → StartsHandling old new other → KeepsWaits old new → KeepsOpens old new →
    KeepsPort old new port
puts_keep old new other values port ne wires places handles waits opens = record {
  job = other_job old new other port ne handles;
  wires = wires.1;
  clear = clear_kept old new port wires.1 (λ target out lt to m has. subst (λ (ms : List Pending). Contains ms m) (waits target) has);
  opens = λ out. ap (λ (ls : List Wire). open_at new (wire_of_out ls port out)) wires.1 ∙ opens (wire_of_out old.wires port out);
  placed = places.others (Port port) (port_differs port other ne);
}

-- of what waits, less waits after a message came
pub waits_less : (old new : ChannelState) (now : ℕ) (target : Arrived) → Delivers old new now target → (at : Arrived) (m : Pending) → Contains (waits_at new at) m → Contains (waits_at old at) m
waits_less old new now target d at m has =
    ⊎_elim
    (λ (e : at ≡ target).
    let has_here = subst (λ (t : Arrived). Contains (waits_at new t) m) e has in
    subst (λ (t : Arrived). Contains (waits_at old t) m) (sym e)
    (subst (λ (ms : List Pending). Contains ms m) (sym d.taken) (Contains-append_right (d.message ∷ []) (waits_at new target) m has_here)))
    (λ (ne : at ≡ target → ⊥). subst (λ (ms : List Pending). Contains ms m) (d.others at ne) has)
    (target_cases at target)

delivered_job : (old new : ChannelState) (target : Arrived) (port : ℕ) → (Port port ≡ target → ⊥) → StartsHandlingAt old new target → job_at new port ≡ job_at old port
delivered_job old new (Port other) port ne handles = other_job old new other port (λ e. ne (ap (λ (n : ℕ). Port n) e)) handles
delivered_job old new (Output other) port ne handles = handles port

-- a message that comes to another target
pub delivers_keep : (old new : ChannelState) (now : ℕ) (target : Arrived) (port : ℕ) → (Port port ≡ target → ⊥) → Delivers old new now target → KeepsPort old new port
delivers_keep old new now target port ne d = record {
  job = delivered_job old new target port ne d.handles;
  wires = d.wires.1;
  clear = clear_kept old new port d.wires.1 (λ at out lt to m has. waits_less old new now target d at m has);
  opens = λ out. ap (λ (ls : List Wire). open_at new (wire_of_out ls port out)) d.wires.1 ∙ d.opens (wire_of_out old.wires port out);
  placed = d.places.others (Port port) ne;
}
