-- The text of a trace has one verdict, and it always has one.
use Rattle.std.proofs.Common.{◌≡◌, ℕ, ◌<◌, ◌≤◌, List, refl, sym, ap, ◌∙◌, ⊎_elim, arith}
use Rattle.std.specs.Prelude.{Result, Ok}
use Rattle.std.proofs.lemmas.Bool.{cases_lt}
use Rattle.yt_bound.specs.Bounds.{job_bound}
use Rattle.yt_graph.specs.Picture.{GraphTree}
use Rattle.yt_runner.specs.Limits.{most_jobs_and_lines}
use Rattle.yt_trace.specs.declared.message.Message.{Message}
use Rattle.yt_trace.specs.declared.message_fault.MessageFault.{MessageFault}
use Rattle.yt_trace.specs.declared.read.TraceFault.{TraceFault}
use Rattle.yt_trace.specs.declared.read.TraceFault.TheVariants.{Memory}
use Rattle.yt_trace.specs.TraceText.{IsFaultOf, IsLegalTrace, trace_of}
use Rattle.yt_trace.proofs.Lemmas.{no_trace_and_fault, trace_or_fault}
use Rattle.yt_cmd_run.specs.Causes.{TraceCause, at_fault, legal, too_long, trace_verdict}

-- a text that says messages has no fault
no_fault : (g : GraphTree) (trace : List ℕ) (fault : TraceFault) (messages : List Message) → IsFaultOf g trace fault → (fault ≡ Memory → ⊥) → trace_of g trace ≡ Ok messages → ⊥
no_fault g trace fault messages is not_memory said = not_memory (no_trace_and_fault g trace fault (messages, said) is)

-- a text says one list of messages
same_messages : (g : GraphTree) (trace : List ℕ) (a b : List Message) → trace_of g trace ≡ Ok a → trace_of g trace ≡ Ok b → a ≡ b
same_messages g trace a b p q = let here : ◌≡◌ {A = Result (List Message) (ℕ × MessageFault)} (Ok a) (Ok b) = sym p ∙ q in cc

-- its bound is too great or it isn't
not_both : (g : GraphTree) (trace : List ℕ) (a b : List Message) → trace_of g trace ≡ Ok a → trace_of g trace ≡ Ok b → most_jobs_and_lines < job_bound g a → job_bound g b ≤ most_jobs_and_lines → ⊥
not_both g trace a b p q more few = let e : job_bound g a ≡ job_bound g b = ap (job_bound g) (same_messages g trace a b p q) in omega (arith, e, more, few)

-- two causes of one text have one verdict
pub one_trace : (g : GraphTree) (trace : List ℕ) (a b : TraceCause g trace) → trace_verdict a ≡ trace_verdict b
one_trace g trace (at_fault f is real) (at_fault h too really) = refl
one_trace g trace (at_fault f is real) (too_long ms said more) = refl
one_trace g trace (at_fault f is real) (legal ms said few) = absurd (no_fault g trace f ms is real said)
one_trace g trace (too_long ms said more) (at_fault f is real) = refl
one_trace g trace (too_long ms said more) (too_long ns told most) = refl
one_trace g trace (too_long ms said more) (legal ns told few) = absurd (not_both g trace ms ns said told more few)
one_trace g trace (legal ms said few) (at_fault f is real) = absurd (no_fault g trace f ms is real said)
one_trace g trace (legal ms said few) (too_long ns told more) = absurd (not_both g trace ns ms told said more few)
one_trace g trace (legal ms said few) (legal ns told less) = refl

-- and there always is one
pub some_trace : (g : GraphTree) (trace : List ℕ) → (TraceCause g trace → ⊥) → ⊥
some_trace g trace none =
    ⊎_elim
    (λ (said : IsLegalTrace g trace). ⊎_elim
    (λ (more : most_jobs_and_lines < job_bound g said.0). none (too_long said.0 said.1 more))
    (λ (few : job_bound g said.0 ≤ most_jobs_and_lines). none (legal said.0 said.1 few))
    (cases_lt most_jobs_and_lines (job_bound g said.0)))
    (λ (f : (fault : TraceFault) × IsFaultOf g trace fault × (fault ≡ Memory → ⊥)). none (at_fault f.0 f.1 f.2))
    (trace_or_fault g trace)
