-- Handlers before the first message are sound.
use Rattle.std.proofs.Common.{◌≡◌, ℕ, zero, suc, ◌+◌, ◌<◌, ◌≤◌, List, [], ◌∷◌, length, get_or, map, replicate, refl, sym, ap, subst, ◌∙◌, arith}
use Rattle.std.specs.Prelude.{ℤ}
use Rattle.std.specs.List.{Contains}
use Rattle.std.proofs.lemmas.List.{length-map, length-replicate}
use Rattle.yt_graph.specs.declared.graph.Graph.{Graph}
use Rattle.yt_graph.specs.declared.graph.Var.{Var}
use Rattle.yt_graph.specs.declared.port.Port.{Port}
use Rattle.yt_graph.specs.Picture.{GraphTree, PortTree, graph_tree, port_tree}
use Rattle.yt_rates.specs.Acceptance.{IsAccepted, Parts}
use Rattle.yt_chan.specs.declared.port.PortJob.{PortJob}
use Rattle.yt_chan.specs.Changes.{IsInitial}
use Rattle.yt_chan.specs.Pending.{Pending}
use Rattle.yt_chan.specs.State.{ChannelState, open_at}
use Rattle.yt_chan.specs.Wires.{wire_of_out}
use Rattle.yt_body.specs.declared.port_run.PortRun.{PortRun}
use Rattle.yt_body.specs.declared.port_run.PortStage.{PortStage}
use Rattle.yt_body.specs.declared.port_run.PortStage.TheVariants.{Idle, Placed, Begun}
use Rattle.yt_body.specs.Sound.{IsAsStage, IsIdle, IsSound}
use Rattle.yt_body.specs.State.{IsStart, no_run, run_at}
use Rattle.yt_body.specs.Wiring.{widths_of, wires_of}
use Rattle.yt_body.proofs.Frames.{state}

none_yet : (n port : ℕ) → get_or (replicate n no_run) port no_run ≡ no_run
none_yet zero port = refl
none_yet (suc n) zero = refl
none_yet (suc n) (suc port) = none_yet n port

nothing : {X : Type 0} (xs : List X) → xs ≡ [] → (x : X) → Contains xs x → ⊥
nothing [] e x has = let lt = has.1 in absurd (omega arith)
nothing (y ∷ xs) e x has = absurd cc

module _ (parts : Parts) (runs : List PortRun) (vs : List ℤ) (ch : ChannelState) (runs_are : runs ≡ replicate (length (graph_tree parts.graph).ports + 1) no_run)
    (vars_are : vs ≡ map (λ (v : Var). v.start) (graph_tree parts.graph).vars) (initial : IsInitial (widths_of (graph_tree parts.graph)) (wires_of (graph_tree parts.graph)) ch) where
  all_idle : (port : ℕ) → run_at (state parts runs vs ch) port ≡ no_run
  all_idle port = ap (λ (rs : List PortRun). get_or rs port no_run) runs_are ∙ none_yet (length (graph_tree parts.graph).ports + 1) port

  pub is_start : IsStart parts (state parts runs vs ch)
  is_start = record { graph = refl; idle = all_idle; values = vars_are; initial = initial }

  not_begun : (port : ℕ) → (run_at (state parts runs vs ch) port).stage ≡ Begun → ⊥
  not_begun port e = begun_idle (run_at (state parts runs vs ch) port).stage e (ap (λ (r : PortRun). r.stage) (all_idle port))
    where
      begun_idle : (st : PortStage) → st ≡ Begun → st ≡ Idle → ⊥
      begun_idle st a b = cc

  pub start_sound : IsSound (state parts runs vs ch)
  start_sound =
      let g = graph_tree parts.graph in
      record {
        long = ap length runs_are ∙ length-replicate (length g.ports + 1) no_run;
        count = ap length vars_are ∙ length-map g.vars (λ (v : Var). v.start);
        widths = initial.ports;
        wires = initial.wired;
        inside = λ port busy. absurd (busy (ap (λ (r : PortRun). r.stage) (all_idle port)));
        each = λ port at.
            let idle : IsIdle ch port no_run = record {
              free = ap (λ (j : PortJob). j.in_handling) (initial.jobs port);
              number = sym (ap (λ (j : PortJob). j.number) (initial.jobs port));
              none = λ out. initial.opens (wire_of_out ch.wires port out);
            } in
            subst (λ (r : PortRun). IsAsStage parts ch vs port r r.stage) (sym (all_idle port)) idle;
        exclusive = λ m n ne first second some same. not_begun m first;
        open_wide = λ k values has. absurd (nothing (open_at ch k) (initial.opens k) values has);
        waiting_wide = λ target m has. absurd (nothing _ (initial.waits target) m has);
      }

widths_are : (ports : List Port) → map (λ (p : Port). p.params) ports ≡ map (λ (p : PortTree). p.params) (map port_tree ports)
widths_are [] = refl
widths_are (p ∷ ports) = ap (λ (ns : List ℕ). p.params ∷ ns) (widths_are ports)

-- the widths, runs and values that are made of a graph that is read
pub widths_made : (read own : Graph) (slice : List Port) (widths : List ℕ) → read ≡ own → slice ≡ read.ports → widths ≡ map (λ (p : Port). p.params) slice → widths ≡ widths_of (graph_tree own)
widths_made read own slice widths same at is = is ∙ ap (map (λ (p : Port). p.params)) (at ∙ ap (λ (g : Graph). g.ports) same) ∙ widths_are own.ports

pub runs_made : (read own : Graph) (count : ℕ) (runs : List PortRun) → read ≡ own → count ≡ length read.ports → runs ≡ replicate (count + 1) no_run → runs ≡ replicate (length (graph_tree own).ports + 1) no_run
runs_made read own count runs same at is =
    let long = length-map own.ports port_tree in
    let ports = ap (λ (g : Graph). length g.ports) same in
    let e : count + 1 ≡ length (graph_tree own).ports + 1 = omega arith in
    is ∙ ap (λ (n : ℕ). replicate n no_run) e

pub values_made : (read own : Graph) (slice : List Var) (values : List ℤ) → read ≡ own → slice ≡ read.vars → values ≡ map (λ (v : Var). v.start) slice → values ≡ map (λ (v : Var). v.start) (graph_tree own).vars
values_made read own slice values same at is = is ∙ ap (map (λ (v : Var). v.start)) (at ∙ ap (λ (g : Graph). g.vars) same)
