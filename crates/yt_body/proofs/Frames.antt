-- What changes of one port and of the messages on their way leaves sound.
use Rattle.std.proofs.Common.{◌≡◌, ℕ, ◌+◌, ◌<◌, ◌≤◌, ◌⊎◌, List, length, get_or, set, refl, sym, ap, subst, ◌∙◌, inl, inr, ⊎_elim, arith}
use Rattle.std.specs.Prelude.{ℤ, ◌≢◌}
use Rattle.std.proofs.lemmas.Bool.{cases_eq}
use Rattle.std.proofs.lemmas.List.{get_or_default, get_or-set_same, get_or-set_other, length-set}
use Rattle.yt_graph.specs.Picture.{GraphTree, graph_tree}
use Rattle.yt_rates.specs.Acceptance.{Parts}
use Rattle.yt_chan.specs.Changes.{KeepsWires}
use Rattle.yt_chan.specs.State.{ChannelState}
use Rattle.yt_interleave.specs.Interleaved.{group_at}
use Rattle.yt_body.specs.declared.port_run.PortRun.{PortRun}
use Rattle.yt_body.specs.declared.port_run.PortStage.{PortStage}
use Rattle.yt_body.specs.declared.port_run.PortStage.TheVariants.{Idle, Placed, Begun}
use Rattle.yt_body.specs.Sends.{AreOpenWide}
use Rattle.yt_body.specs.Sound.{AreWaitingWide, IsAsStage, IsPortOf, IsSound}
use Rattle.yt_body.specs.State.{HandlersState, no_run, run_at}
use Rattle.yt_body.specs.Steps.{SetsRun}

abbrev pub state : Parts → List PortRun → List ℤ → ChannelState → HandlersState
state parts runs vs channels = record { parts = parts; runs = runs; vars = vs; channels = channels }

module _ (parts : Parts) (runs : List PortRun) (vs ws : List ℤ) (old new : ChannelState) (port : ℕ) (run : PortRun) where
  pub sets_run : port < length runs → SetsRun (state parts runs vs old) port run (state parts (set runs port run) ws new)
  sets_run lt = record {
    long = length-set runs port run;
    here = get_or-set_same runs port run no_run lt;
    others = λ other ne. get_or-set_other runs port other run no_run ne;
  }

  pub there : IsSound (state parts runs vs old) → IsPortOf (graph_tree parts.graph) port → port < length runs
  there sound inside = let l = sound.long in let last = inside.1 in omega arith

  pub framed : IsSound (state parts runs vs old) → IsPortOf (graph_tree parts.graph) port → length ws ≡ length vs → KeepsWires old new → IsAsStage parts new ws port run run.stage →
      ((q : ℕ) → IsPortOf (graph_tree parts.graph) q → (q ≡ port → ⊥) → (r : PortRun) → r ≡ run_at (state parts runs vs old) q → IsAsStage parts old vs q r r.stage → IsAsStage parts new ws q r r.stage) →
      (run.stage ≡ Begun → (q : ℕ) → (q ≡ port → ⊥) → (run_at (state parts runs vs old) q).stage ≡ Begun → 0 < group_at (graph_tree parts.graph) port → group_at (graph_tree parts.graph) port ≡ group_at (graph_tree parts.graph) q → ⊥) →
      AreOpenWide new → AreWaitingWide new → IsSound (state parts (set runs port run) ws new)
  framed sound inside count wires own others alone opens waits =
      let g = graph_tree parts.graph in
      let before = state parts runs vs old in
      let after = state parts (set runs port run) ws new in
      let sets = sets_run (there sound inside) in
      let stage : (q : ℕ) → (q ≡ port → ⊥) → (run_at after q).stage ≡ Begun → (run_at before q).stage ≡ Begun = λ q ne e. subst (λ (r : PortRun). r.stage ≡ Begun) (sets.others q ne) e in
      record {
        long = sets.long ∙ sound.long;
        count = count ∙ sound.count;
        widths = wires.0 ∙ sound.widths;
        wires = wires.1 ∙ sound.wires;
        inside = λ q busy. ⊎_elim
            (λ (e : q ≡ port). subst (IsPortOf g) (sym e) inside)
            (λ (ne : q ≡ port → ⊥). sound.inside q (λ idle. busy (ap (λ (r : PortRun). r.stage) (sets.others q ne) ∙ idle)))
            (cases_eq q port);
        each = λ q at. ⊎_elim
            (λ (e : q ≡ port). subst (λ (n : ℕ). IsAsStage parts new ws n (run_at after n) (run_at after n).stage) (sym e) (subst (λ (r : PortRun). IsAsStage parts new ws port r r.stage) (sym sets.here) own))
            (λ (ne : q ≡ port → ⊥). subst (λ (r : PortRun). IsAsStage parts new ws q r r.stage) (sym (sets.others q ne)) (others q at ne (run_at before q) refl (sound.each q at)))
            (cases_eq q port);
        exclusive = λ m n ne first second some same. ⊎_elim
            (λ (e : m ≡ port).
            let begun : run.stage ≡ Begun = subst (λ (r : PortRun). r.stage ≡ Begun) sets.here (subst (λ (i : ℕ). (run_at after i).stage ≡ Begun) e first) in
            let apart : n ≡ port → ⊥ = λ f. ne (e ∙ sym f) in
            alone begun n apart (stage n apart second) (subst (λ (i : ℕ). 0 < group_at g i) e some) (subst (λ (i : ℕ). group_at g i ≡ group_at g n) e same))
            (λ (not : m ≡ port → ⊥). ⊎_elim
            (λ (f : n ≡ port).
            let begun : run.stage ≡ Begun = subst (λ (r : PortRun). r.stage ≡ Begun) sets.here (subst (λ (i : ℕ). (run_at after i).stage ≡ Begun) f second) in
            let back : group_at g port ≡ group_at g m = subst (λ (i : ℕ). group_at g i ≡ group_at g m) f (sym same) in
            alone begun m not (stage m not first) (omega arith) back)
            (λ (neither : n ≡ port → ⊥). sound.exclusive m n ne (stage m not first) (stage n neither second) some same)
            (cases_eq n port))
            (cases_eq m port);
        open_wide = opens;
        waiting_wide = waits;
      }

-- a run that is read is that of its port
pub run_read : (runs : List PortRun) (port : ℕ) (run : PortRun) → port < length runs → run ≡ get_or runs port run → run ≡ get_or runs port no_run
run_read runs port run lt is = is ∙ sym (get_or_default runs port no_run run lt)
