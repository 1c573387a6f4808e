-- When a log ends with the last job and the last line.
use Rattle.std.proofs.Common.{◌≡◌, ℕ, suc, ◌≤◌, max, List, [], ◌∷◌, ◌++◌, length, Some, refl, ap, subst, ◌∙◌, inl, inr, ⊎_elim, arith, is_some}
use Rattle.std.proofs.lemmas.Bool.{cond-true}
use Rattle.yt_graph.specs.Picture.{GraphTree}
use Rattle.yt_log.specs.declared.job.Job.{Job}
use Rattle.yt_log.specs.declared.plan.PlanItem.{PlanItem}
use Rattle.yt_log.specs.Tasks.{Has}
use Rattle.yt_log.specs.Ticks.{Ticks, tick}
use Rattle.yt_serial.specs.declared.shown.OutLine.{OutLine}
use Rattle.yt_trace.specs.declared.message.Message.{Message}
use Rattle.yt_serial.specs.Beginnings.{busy_until}
use Rattle.yt_serial.specs.SerialHandling.{Serial}
use Rattle.yt_serial.specs.Told.{latest}
use Rattle.yt_serial.proofs.Lemmas.{busy_until_within, length_push, tick_last, lines_has}
use Rattle.yt_interleave.specs.Interleaved.{RunState}
use Rattle.yt_interleave.specs.Lines.{messages_to}
use Rattle.yt_interleave.specs.Runs.{IsRunning, RunsEnd}
use Rattle.yt_interleave.proofs.Shown.{has_before}

latest_within : (t : ℕ) (lines : List OutLine) → ((l : OutLine) → Has lines l → l.time ≤ t) → latest lines ≤ t
latest_within t [] early = omega arith
latest_within t (l ∷ lines) early = let a = early l (inl refl) in let b = latest_within t lines (λ x h. early x (inr h)) in omega arith

latest_has : (lines : List OutLine) (l : OutLine) → Has lines l → l.time ≤ latest lines
latest_has [] l h = absurd h
latest_has (x ∷ lines) l h =
    ⊎_elim
    (λ (e : l ≡ x). let t = ap (λ (y : OutLine). y.time) e in omega arith)
    (λ (k : Has lines l). let r = latest_has lines l k in omega arith)
    h

busy_at : (log : Ticks) (t : ℕ) (job : Job) → tick log t ≡ Some job → busy_until log (suc t) ≡ suc t
unfolding busy_until
busy_at log t job e = cond-true (is_some (tick log t)) (suc t) (busy_until log t) (ap is_some e)

module _ (g : GraphTree) (trace : List Message) (s : Serial) (r : RunState) (due : ℕ) (plan : List PlanItem) (lines : List OutLine)
    (is : IsRunning g trace s r due plan lines) (low : due ≤ suc (length r.log)) where
  early : (l : OutLine) → Has lines l → l.time ≤ length r.log
  early l h =
      let lt = has_before l.output due (messages_to r.outputs l.output) l (subst (λ (ls : List OutLine). Has ls l) (is.shown.each l.output) (lines_has l.output lines l h refl)) in
      omega arith

  ends_busy : (log : Ticks) (job : Job) → r.log ≡ log ++ Some job ∷ [] → length r.log ≡ max (busy_until r.log (length r.log)) (latest lines)
  ends_busy log job e =
      let a = latest_within (length r.log) lines early in
      let long = length_push log (Some job) in
      let at : busy_until (log ++ Some job ∷ []) (suc (length log)) ≡ suc (length log) = busy_at (log ++ Some job ∷ []) (length log) job (tick_last log (Some job)) in
      let same : length r.log ≡ suc (length log) = ap length e ∙ long in
      let busy : busy_until r.log (length r.log) ≡ suc (length log) = ap (busy_until r.log) same ∙ ap (λ (x : Ticks). busy_until x (suc (length log))) e ∙ at in
      omega arith

  ends_shown : (l : OutLine) → Has lines l → l.time ≡ length r.log → length r.log ≡ max (busy_until r.log (length r.log)) (latest lines)
  ends_shown l h e =
      let a = latest_within (length r.log) lines early in
      let b = latest_has lines l h in
      let c = busy_until_within r.log (length r.log) in
      omega arith

  ends_none : r.log ≡ [] → length r.log ≡ max (busy_until r.log (length r.log)) (latest lines)
  ends_none e =
      let a = latest_within (length r.log) lines early in
      let b = busy_until_within r.log (length r.log) in
      let c : length r.log ≡ 0 = ap length e in
      omega arith

pub runs_end : RunsEnd
runs_end = record {
  busy = λ g trace s r due plan lines is low log job e. ends_busy g trace s r due plan lines is low log job e;
  shown = λ g trace s r due plan lines is low l h e. ends_shown g trace s r due plan lines is low l h e;
  none = λ g trace s r due plan lines is low e. ends_none g trace s r due plan lines is low e;
}
