-- Messages that come leave handlers sound.
use Rattle.std.proofs.Common.{◌≡◌, ℕ, ◌+◌, ◌<◌, ◌≤◌, true, false, eqb, List, [], length, get_or, set, Some, refl, sym, ap, subst, ◌∙◌, arith, cond, eq-eqb}
use Rattle.std.specs.Prelude.{ℤ}
use Rattle.std.specs.List.{Contains}
use Rattle.std.proofs.lemmas.Bool.{cond-true}
use Rattle.yt_code.specs.Step.{State}
use Rattle.yt_graph.specs.Picture.{GraphTree, graph_tree}
use Rattle.yt_rates.specs.Acceptance.{IsAccepted, Parts}
use Rattle.yt_chan.specs.declared.wire.Wire.{Wire}
use Rattle.yt_chan.specs.declared.port.PortJob.{PortJob}
use Rattle.yt_chan.specs.declared.target.Arrived.{Arrived}
use Rattle.yt_chan.specs.declared.target.Arrived.TheVariants.{Output, Port}
use Rattle.yt_chan.specs.Pending.{Pending}
use Rattle.yt_chan.specs.Changes.{Delivers, KeepsOpens, KeepsWaits, KeepsWires, Places, StartsHandling}
use Rattle.yt_chan.specs.State.{ChannelState, IsApart, IsNext, job_at, open_at, open_on, waits_at}
use Rattle.yt_chan.specs.Wires.{wire_of_out}
use Rattle.yt_interleave.specs.Interleaved.{port_at}
use Rattle.yt_body.specs.declared.port_run.PortRun.{PortRun}
use Rattle.yt_body.specs.declared.port_run.PortStage.{PortStage}
use Rattle.yt_body.specs.declared.port_run.PortStage.TheVariants.{Idle, Placed, Begun}
use Rattle.yt_body.specs.Sound.{IsAsStage, IsClearOf, IsHeld, IsIdle, IsPlaced, IsPortOf, IsSound, MayCome}
use Rattle.yt_body.specs.State.{HandlersState, run_at}
use Rattle.yt_body.specs.Steps.{Comes, with_message}
use Rattle.yt_body.proofs.Facts.{has_wires}
use Rattle.yt_body.proofs.Frames.{framed, sets_run, state}
use Rattle.yt_body.proofs.Kept.{delivers_keep, port_differs, puts_keep, stage_kept, waits_less}
use Rattle.yt_body.proofs.Sending.{clear_kept}
use Rattle.yt_body.proofs.Widths.{comes_wide, opens_kept, waits_kept, waits_wide}

apart_same : (old new : ChannelState) (port arrival : ℕ) → job_at new port ≡ record (job_at old port) { in_handling = true } → new.wires ≡ old.wires → IsApart old port arrival → IsApart new port arrival
apart_same old new port arrival job wires apart some wire has is =
    subst (λ (j : PortJob). j.arrival + wire.period ≤ arrival) (sym job)
    (apart (subst (λ (j : PortJob). 0 < j.number) job some) wire (subst (λ (ws : List Wire). Contains ws wire) wires has) is)

module _ (parts : Parts) (accepted : IsAccepted parts) (runs : List PortRun) (vs : List ℤ) (old : ChannelState) (sound : IsSound (state parts runs vs old)) where
  was_idle : (port now : ℕ) → IsPortOf (graph_tree parts.graph) port → MayCome (state parts runs vs old) port now → IsIdle old port (run_at (state parts runs vs old) port)
  was_idle port now inside may =
      subst (λ (st : PortStage). IsAsStage parts old vs port (run_at (state parts runs vs old) port) st) may.idle (sound.each port inside)

  pub is_free : (port now : ℕ) → IsPortOf (graph_tree parts.graph) port → MayCome (state parts runs vs old) port now → (job_at old port).in_handling ≡ false
  is_free port now inside may = (was_idle port now inside may).free

  -- a port's message is placed
  placed_now : (new : ChannelState) (port now : ℕ) (values : List ℤ) → IsPortOf (graph_tree parts.graph) port → MayCome (state parts runs vs old) port now → new.wires ≡ old.wires →
      Places old new (Port port) values → StartsHandling old new port →
      ((target : Arrived) (m : Pending) → Contains (waits_at new target) m → Contains (waits_at old target) m) → KeepsOpens old new → length values ≡ (port_at (graph_tree parts.graph) port).params →
      IsPlaced parts new port (with_message now (run_at (state parts runs vs old) port))
  placed_now new port now values inside may wires places handles less opens wide =
      let idle = was_idle port now inside may in
      let job : job_at new port ≡ record (job_at old port) { in_handling = true } =
      handles port ∙ cond-true (eqb port port) (record (job_at old port) { in_handling = true }) (job_at old port) (eq-eqb port port refl) in
      let number : (run_at (state parts runs vs old) port).number ≡ (job_at old port).number = idle.number in
      let new_number : (job_at new port).number ≡ (job_at old port).number = ap (λ (j : PortJob). j.number) job in
      record {
        held = record {
          handled = ap (λ (j : PortJob). j.in_handling) job;
          number = omega arith;
          early = may.early;
          apart = apart_same old new port now job wires may.apart;
          clear = clear_kept old new port wires (λ target out lt to m has. less target m has) may.clear;
        };
        none = λ out. ap (λ (ls : List Wire). open_at new (wire_of_out ls port out)) wires ∙ opens (wire_of_out old.wires port out) ∙ idle.none out;
        message = values;
        placed = places.here;
        wide = wide;
      }

  not_begun : (st : PortStage) → st ≡ Placed → st ≡ Begun → ⊥
  not_begun st a b = cc

  pub put_sound : (new : ChannelState) (port now : ℕ) (values : List ℤ) (run : PortRun) → run ≡ with_message now (run_at (state parts runs vs old) port) → IsPortOf (graph_tree parts.graph) port → length values ≡ (port_at (graph_tree parts.graph) port).params →
      MayCome (state parts runs vs old) port now → KeepsWires old new → Places old new (Port port) values → StartsHandling old new port → KeepsWaits old new → KeepsOpens old new →
      IsSound (state parts (set runs port run) vs new)
  put_sound new port now values run is inside wide may wires places handles waits opens =
      let less : (target : Arrived) (m : Pending) → Contains (waits_at new target) m → Contains (waits_at old target) m = λ target m has. subst (λ (ms : List Pending). Contains ms m) (waits target) has in
      let own = placed_now new port now values inside may wires.1 places handles less opens wide in
      framed parts runs vs vs old new port run sound inside refl wires
      (subst (λ (r : PortRun). IsAsStage parts new vs port r r.stage) (sym is) own)
      (λ q at ne r here st. stage_kept parts old new vs vs q r (puts_keep old new port values q ne wires places handles waits opens) (λ e machine h. h) r.stage refl st)
      (λ begun q ne other some same. not_begun run.stage (ap (λ (r : PortRun). r.stage) is) begun)
      (opens_kept old new wires opens sound.open_wide)
      (waits_kept old new wires.1 less sound.waiting_wide)

  -- a port for which a message comes next is there, and none of its messages is in handling
  pub next_inside : (now port : ℕ) → IsNext old now (Port port) → IsPortOf (graph_tree parts.graph) port
  next_inside now port next = (waits_wide (graph_tree parts.graph) (has_wires parts accepted) old port sound.wires sound.waiting_wide next.arrives.0 next.arrives.1).0

  pub next_free : (now : ℕ) → ((port : ℕ) → IsNext old now (Port port) → MayCome (state parts runs vs old) port now) → (port : ℕ) → IsNext old now (Port port) → (job_at old port).in_handling ≡ false
  next_free now may port next = is_free port now (next_inside now port next) (may port next)

  pub comes_inside : (new : ChannelState) (now port : ℕ) → Delivers old new now (Port port) → IsPortOf (graph_tree parts.graph) port
  comes_inside new now port d = (comes_wide (graph_tree parts.graph) (has_wires parts accepted) old new now port sound.wires sound.waiting_wide d).0

  pub deliver_sound : (new : ChannelState) (port now : ℕ) (run : PortRun) → run ≡ with_message now (run_at (state parts runs vs old) port) → MayCome (state parts runs vs old) port now → Delivers old new now (Port port) →
      IsSound (state parts (set runs port run) vs new)
  deliver_sound new port now run is may d =
      let wide = comes_wide (graph_tree parts.graph) (has_wires parts accepted) old new now port sound.wires sound.waiting_wide d in
      let own = placed_now new port now d.message.values wide.0 may d.wires.1 d.places d.handles (waits_less old new now (Port port) d) d.opens wide.1 in
      framed parts runs vs vs old new port run sound wide.0 refl d.wires
      (subst (λ (r : PortRun). IsAsStage parts new vs port r r.stage) (sym is) own)
      (λ q at ne r here st. stage_kept parts old new vs vs q r (delivers_keep old new now (Port port) q (port_differs q port ne) d) (λ e machine h. h) r.stage refl st)
      (λ begun q ne other some same. not_begun run.stage (ap (λ (r : PortRun). r.stage) is) begun)
      (opens_kept old new d.wires d.opens sound.open_wide)
      (waits_kept old new d.wires.1 (waits_less old new now (Port port) d) sound.waiting_wide)

  pub show_sound : (new : ChannelState) (output now : ℕ) → Delivers old new now (Output output) → IsSound (state parts runs vs new)
  show_sound new output now d = record {
    long = sound.long;
    count = sound.count;
    widths = d.wires.0 ∙ sound.widths;
    wires = d.wires.1 ∙ sound.wires;
    inside = sound.inside;
    each = λ q at.
        let r = run_at (state parts runs vs old) q in
        stage_kept parts old new vs vs q r (delivers_keep old new now (Output output) q (λ e. cc) d) (λ e machine h. h) r.stage refl (sound.each q at);
    exclusive = sound.exclusive;
    open_wide = opens_kept old new d.wires d.opens sound.open_wide;
    waiting_wide = waits_kept old new d.wires.1 (waits_less old new now (Output output) d) sound.waiting_wide;
  }

pub comes_port : (parts : Parts) (runs : List PortRun) (vs : List ℤ) (old new : ChannelState) (port now : ℕ) (run : PortRun) → port < length runs → run ≡ with_message now (run_at (state parts runs vs old) port) →
    Delivers old new now (Port port) → Comes (state parts runs vs old) now (Port port) (state parts (set runs port run) vs new)
comes_port parts runs vs old new port now run lt is d =
    let sets = sets_run parts runs vs vs old new port run lt in
    record { parts = refl; vars = refl; run = record { long = sets.long; here = sets.here ∙ is; others = sets.others }; delivers = d }
