-- Before the first message.
use Rattle.std.proofs.Common.{◌≡◌, ℕ, zero, suc, List, [], map, length, slice_get, Option, None, Some, refl, sym, ap, subst, ◌∙◌, arith}
use Rattle.std.specs.Option.{option_map, unwrap_or}
use Rattle.std.proofs.lemmas.Option.{none-some, slice_get-map}
use Rattle.yt_graph.specs.declared.graph as declared
use Rattle.yt_graph.specs.declared.port.Feed as feed
use Rattle.yt_graph.specs.declared.port.Feed.{Feed}
use Rattle.yt_graph.specs.Labels.{no_port}
use Rattle.yt_graph.specs.Picture.{GraphTree, PortTree, graph_tree}
use Rattle.yt_log.proofs.Lemmas.{jobs_none}
use Rattle.yt_log.specs.Plan.{jobs_of}
use Rattle.yt_chan.specs.declared.port.PortJob.{PortJob}
use Rattle.yt_chan.specs.declared.target.Arrived.{Arrived}
use Rattle.yt_chan.specs.declared.target.Arrived.TheVariants.{Port, Output}
use Rattle.yt_chan.specs.State.{job_at, waits_at}
use Rattle.yt_rates.specs.Acceptance.{Parts}
use Rattle.yt_trace.specs.declared.message.Message.{Message}
use Rattle.yt_serial.specs.PortMessages.{PortMessage}
use Rattle.yt_serial.specs.SerialHandling.{from_outside, start}
use Rattle.yt_interleave.specs.Carrying.{as_message}
use Rattle.yt_interleave.specs.Interleaved.{first_state, port_at}
use Rattle.yt_interleave.specs.Waits.{wait_from}
use Rattle.yt_body.specs.declared.port_run.PortRun.{PortRun}
use Rattle.yt_body.specs.declared.port_run.PortStage.{PortStage}
use Rattle.yt_body.specs.declared.port_run.PortStage.TheVariants.{Idle, Placed, Begun}
use Rattle.yt_body.specs.State.{run_at}
use Rattle.yt_body_laws.specs.Carrying.{AreRising, come_to, known_for, over_wire}
use Rattle.yt_body_laws.specs.Laws.{BodiesStart}

-- what comes from outside doesn't come over a wire
not_over : (trace : List Message) (f : Feed) → over_wire f (from_outside trace f) ≡ []
not_over trace (feed.TheVariants.Input input) = refl
not_over trace (feed.TheVariants.Out port out) = refl

over_none : (f : Feed) → over_wire f [] ≡ []
over_none (feed.TheVariants.Input input) = refl
over_none (feed.TheVariants.Out port out) = refl

port_none : (trace : List Message) (o : Option PortTree) → over_wire (unwrap_or o no_port).feed (unwrap_or (option_map (λ (p : PortTree). from_outside trace p.feed) o) []) ≡ []
port_none trace None = refl
port_none trace (Some p) = not_over trace p.feed

abbrev nothing : declared.Output.Output → List PortMessage
nothing o = []

output_none : (o : Option declared.Output.Output) → unwrap_or (option_map nothing o) [] ≡ []
output_none None = refl
output_none (Some o) = refl

none_known : (g : GraphTree) (trace : List Message) (target : Arrived) → known_for g (first_state g trace) target ≡ []
none_known g trace (Port zero) = refl
none_known g trace (Port (suc k)) =
    ap (λ (o : Option (List PortMessage)). over_wire (port_at g (suc k)).feed (unwrap_or o [])) (slice_get-map (λ (p : PortTree). from_outside trace p.feed) g.ports k)
    ∙ port_none trace (slice_get g.ports k)
none_known g trace (Output zero) = refl
none_known g trace (Output (suc k)) = ap (λ (o : Option (List PortMessage)). unwrap_or o []) (slice_get-map nothing g.outputs k) ∙ output_none (slice_get g.outputs k)

not_begun : (stage : PortStage) → stage ≡ Idle → (stage ≡ Begun → ⊥) × (stage ≡ Placed → ⊥)
not_begun stage e = ((λ f. cc), (λ f. cc))

pub bodies_start : BodiesStart
bodies_start parts trace b start sound =
    let g = graph_tree parts.graph in
    let stage : (port : ℕ) → (run_at b port).stage ≡ Idle = λ port. ap (λ (x : PortRun). x.stage) (start.idle port) in
    record {
      graph = start.graph;
      sound = sound;
      vars = start.values ∙ ap (λ (p : Parts). map (λ v. v.start) (graph_tree p.graph).vars) start.graph;
      begun = λ port a h. absurd (none-some a h);
      only = λ port h. absurd ((not_begun (run_at b port).stage (stage port)).0 h);
      placed = λ port h. absurd ((not_begun (run_at b port).stage (stage port)).1 h);
      came = λ port. ap (λ (x : PortRun). x.number) (start.idle port) ∙ sym (ap (λ (x : PortStage). come_to x (jobs_of port [])) (stage port) ∙ jobs_none port);
      arrived = λ port n m there lt. absurd (omega arith);
      closed = λ port lt. absurd (let n : (job_at b.channels port).number ≡ 0 = ap (λ (j : PortJob). j.number) (start.initial.jobs port) in omega arith);
      waits = λ target. ap (map as_message) (start.initial.waits target) ∙ sym (ap (wait_from 0) (none_known g trace target));
      rise = λ target. subst AreRising (sym (start.initial.waits target)) tt;
      sent = λ target m h. absurd (let n : length (waits_at b.channels target) ≡ 0 = ap length (start.initial.waits target) in let k = h.1 in omega arith);
    }
