use Rattle.std.proofs.Common.{◌≡◌, ◌+◌, slice_get, Some, refl, sym, ap, subst, ◌∙◌, add-one}
use Rattle.yt_trace.specs.declared.message.Message.{Message}
use Rattle.yt_body_laws.specs.Placing.{FeedsSome}
use Rattle.yt_runner.specs.Inside.Going.{IsPlacedNow}
use Rattle.yt_runner.specs.Inside.State.{RunnerState, graph_of}
use Rattle.yt_runner.proofs.Taking.{passes_message}
use Rattle.yt_runner.proofs.running.Running.pass_over.Goals as goal

abbrev NextIsUnfed : RunnerState → Type 0
NextIsUnfed s = (x : Message) × (slice_get s.trace s.taken ≡ Some x) × (FeedsSome (graph_of s) x.input → ⊥)

pub loop-self-preserved : goal.loop-self-preserved
loop-self-preserved c =
    let v = c.self.view_is in
    let inv = c.loop-self.invariant in
    let placed = subst IsPlacedNow (sym v) inv.placed in
    let unfed = subst NextIsUnfed (sym v) (c.loop-self-test.ensures.unfed refl) in
    record {
      same = record { parts = ap (λ (s : RunnerState). s.parts) v ∙ inv.same.parts; trace = ap (λ (s : RunnerState). s.trace) v ∙ inv.same.trace };
      moment = ap (λ (s : RunnerState). s.moment) v ∙ inv.moment;
      placed = passes_message c.handlers_go_on.ensures.read _ unfed.0 placed unfed.1 unfed.2 (c.self.inside.taken + 1) (add-one c.self.inside.taken);
    }
