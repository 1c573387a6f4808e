use Rattle.std.proofs.Common.{◌≡◌, ℕ, ◌+◌, ◌≤◌, List, length, get_or, Some, refl, sym, ap, ap₂, subst, ◌∙◌, arith, add-one}
use Rattle.std.proofs.lemmas.List.{length-map}
use Rattle.std.proofs.lemmas.Option.{get_or_from_slice_get, slice_get_within}
use Rattle.yt_graph.specs.declared.graph.Graph.{Graph}
use Rattle.yt_graph.specs.Picture.{port_tree}
use Rattle.yt_trace.specs.declared.message.Message.{Message}
use Rattle.yt_runner.specs.Inside.Going.{IsServing}
use Rattle.yt_runner.specs.Inside.State.{RunnerState, graph_of}
use Rattle.yt_runner.proofs.Taking.{ends_serving, starts_serving}
use Rattle.yt_runner.proofs.running.Running.take.Goals as goal

pub loop-place-init : goal.loop-place-init
loop-place-init c =
    let s = c.args.self.now in
    let v = c.self.view_is in
    let m = c.index-messages-self.result in
    let now = c.requires.now in
    let graph : c.graph.result.now ≡ s.parts.graph = c.graph.ensures.graph ∙ ap (λ (q : RunnerState). q.parts.graph) v in
    let trace : c.messages.result.now ≡ s.trace = c.messages.ensures.messages ∙ ap (λ (q : RunnerState). q.trace) v in
    let taken : c.self.inside.taken ≡ s.taken = ap (λ (q : RunnerState). q.taken) v in
    let read : m ≡ now.0 = c.index-messages-self.is ∙ ap₂ (λ (l : List Message) (k : ℕ). get_or l k m) trace taken ∙ get_or_from_slice_get s.trace s.taken now.0 m now.1 in
    record {
      same = record { parts = refl; trace = refl };
      clock = refl;
      taken = refl;
      ports = c.len-place-end.ensures ∙ ap (λ (g : Graph). length g.ports) graph ∙ sym (length-map s.parts.graph.ports port_tree);
      serving = starts_serving s m c.requires.taking (now.1 ∙ ap Some (sym read)) (subst (λ (y : Message). y.time ≤ s.moment.clock) (sym read) now.2);
    }

pub overflow_add-self : goal.overflow_add-self
overflow_add-self c =
    let s = c.loop-place.self in
    let serving = c.loop-place.invariant.serving in
    let within = slice_get_within s.trace s.taken _ serving.there in
    let few = serving.mid.telling.placing.can.can.keeps.few in
    let same : c.self-2.inside.taken ≡ s.taken = ap (λ (q : RunnerState). q.taken) c.self-2.view_is in
    omega arith

pub returns-clause-taking : goal.returns-clause-taking
returns-clause-taking c =
    let v = c.self-2.view_is in
    let m = c.index-messages-self.result in
    let n = c.loop-place.place in
    let all : length (graph_of c.loop-place.self).ports ≤ n = let p = c.loop-place.invariant.ports in let t = c.loop-place-test.false in omega arith in
    let serving = subst (λ (s : RunnerState). IsServing s m n) (sym v) c.loop-place.invariant.serving in
    let most = subst (λ (s : RunnerState). length (graph_of s).ports ≤ n) (sym v) all in
    ends_serving c.handlers_go_on.ensures.read _ m n most serving (c.self-2.inside.taken + 1) (add-one c.self-2.inside.taken)
