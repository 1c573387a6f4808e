-- What a job passes on over a wire is what it passes on in a run.
use Rattle.std.proofs.Common.{◌≡◌, ℕ, ◌+◌, ◌%◌, Bool, true, false, cond, eqb, ℤ, List, [], ◌∷◌, map, refl, ◌∙◌, ap, eq-eqb}
use Rattle.std.proofs.lemmas.Bool.{cond-true}
use Rattle.yt_graph.specs.declared.handled.SendItem.{SendItem}
use Rattle.yt_graph.specs.Picture.{GraphTree, PortTree}
use Rattle.yt_graph.specs.Sends.{messages_on}
use Rattle.yt_log.specs.declared.job.Job.{Job}
use Rattle.yt_rates.specs.Rates.{every_of, period_of}
use Rattle.yt_order.specs.Gaps.{at_gaps}
use Rattle.yt_serial.specs.PortMessages.{PortMessage, arriving, passed}
use Rattle.yt_chan.specs.declared.wire.Wire.{Wire}
use Rattle.yt_chan.specs.State.{passed_over}
use Rattle.yt_chan.specs.Pending.{Pending, with_ticks}
use Rattle.yt_interleave.specs.Carrying.{as_message, IsTimedAs}

as_arriving : (number time gap : ℕ) (messages : List (List ℤ)) → map as_message (with_ticks number time gap messages) ≡ at_gaps arriving time gap messages
as_arriving number time gap [] = refl
as_arriving number time gap (values ∷ rest) = ap (λ (ms : List PortMessage). (record { time = time; values = values }) ∷ ms) (as_arriving number (time + gap) gap rest)

as_either : (b : Bool) (messages : List Pending) → map as_message (cond b messages []) ≡ cond b (map as_message messages) []
as_either true messages = refl
as_either false messages = refl

-- what `close_job` leaves to wait is what the run's job passes on
pub as_passed : (g : GraphTree) (p : PortTree) (n : ℕ) (wire : Wire) (job : Job) (arrival : ℕ) (sends : List SendItem) → IsTimedAs g job.task p n wire →
    map as_message (passed_over wire (messages_on n sends) job arrival) ≡ passed g p job.number arrival sends n
as_passed g p n wire job arrival sends is =
    let ms = messages_on n sends in
    let made : ℕ → ℕ → ℕ → List PortMessage = λ every period gap. cond (eqb (job.number % every) 0) (at_gaps arriving (arrival + period) gap ms) [] in
    ap (map as_message) (cond-true (eqb wire.port job.task) (cond (eqb (job.number % wire.every) 0) (with_ticks job.number (arrival + wire.period) wire.gap ms) []) [] (eq-eqb wire.port job.task is.port))
    ∙ as_either (eqb (job.number % wire.every) 0) (with_ticks job.number (arrival + wire.period) wire.gap ms)
    ∙ ap (λ (xs : List PortMessage). cond (eqb (job.number % wire.every) 0) xs []) (as_arriving job.number (arrival + wire.period) wire.gap ms)
    ∙ ap (λ (e : ℕ). made e wire.period wire.gap) is.every
    ∙ ap (λ (q : ℕ). made (every_of p n) q wire.gap) is.period
    ∙ ap (λ (q : ℕ). made (every_of p n) (period_of g p) q) is.gap
