-- The text of a promised run is read back as its log and lines.
use Rattle.std.proofs.Common.{◌≡◌, ℕ, zero, suc, ◌+◌, ◌<◌, ◌≤◌, List, [], length, get_or, slice_get, Option, Some, ap, subst, arith}
use Rattle.std.specs.List.{All}
use Rattle.std.specs.Option.{option_map_or}
use Rattle.std.proofs.lemmas.Option.{none-some, slice_get_within, slice_get-get_or}
use Rattle.yt_graph.specs.Picture.{GraphTree}
use Rattle.yt_list.specs.Numbered.{numbered}
use Rattle.yt_log.specs.declared.plan.PlanItem.{PlanItem}
use Rattle.yt_log.specs.Patterns.{item_before}
use Rattle.yt_log.specs.Segments.{segments_of}
use Rattle.yt_log.specs.Tasks.{Has}
use Rattle.yt_log.specs.Ticks.{Ticks, IsLawful}
use Rattle.yt_log.proofs.Lemmas.{has_all, has_sorted, ticks_of-segments_of}
use Rattle.yt_rates.specs.Rates.{period_of}
use Rattle.yt_run.specs.RunText.{read_back, run_text}
use Rattle.yt_run.proofs.Lemmas.{IsReadableJob, IsReadableLine, faithful_texts, read_back-run_text, segments_of-jobs}
use Rattle.yt_run_laws.specs.ReadingBack.{RunsReadBack}
use Rattle.yt_run_laws.specs.Values.{AreValues, CanRunOnValues}
use Rattle.yt_run_laws.proofs.ReadableNames.{names_are_readable}
use Rattle.yt_run_laws.proofs.SerialValues.{line_values}
use Rattle.yt_schedule_laws.proofs.Lemmas.{all_has, line_by, line_within, of_port, runs_end}
use Rattle.yt_serial.specs.declared.shown.OutLine.{OutLine}
use Rattle.yt_trace.specs.declared.message.Message.{Message}
use Rattle.yt_serial.specs.Beginnings.{order_of}
use Rattle.yt_serial.specs.PortMessages.{PortMessage}
use Rattle.yt_serial.specs.Premises.{CanRun, IsHandling}
use Rattle.yt_serial.specs.SerialHandling.{Serial, messages_at, items_of, plan_of, plan_of_log}
use Rattle.yt_serial.specs.Told.{line_before, IsPromisedRun}
use Rattle.yt_serial.proofs.Lemmas.{numbered_within, period_some, serial_holds}

-- where messages are a tick apart at least, as many ticks as messages have passed
behind : (period : ℕ) → 1 ≤ period → (ms : List PortMessage) → ((i j : ℕ) (x y : PortMessage) → slice_get ms i ≡ Some x → slice_get ms j ≡ Some y → i < j → x.time + period ≤ y.time) →
    (k : ℕ) (m : PortMessage) → slice_get ms k ≡ Some m → k ≤ m.time
behind period some ms spread zero m there = omega arith
behind period some ms spread (suc k) m there =
    let inside = slice_get_within ms (suc k) m there in
    let before = slice_get-get_or ms k m (omega arith) in
    let r = behind period some ms spread k (get_or ms k m) before in
    let apart = spread k (suc k) (get_or ms k m) m before there (omega arith) in
    omega arith

number_within : (period : ℕ) → 1 ≤ period → (ms : List PortMessage) → ((i j : ℕ) (x y : PortMessage) → slice_get ms i ≡ Some x → slice_get ms j ≡ Some y → i < j → x.time + period ≤ y.time) →
    (n : ℕ) (m : PortMessage) → numbered ms n ≡ Some m → n ≤ suc m.time
number_within period some ms spread zero m there = absurd (none-some m there)
number_within period some ms spread (suc k) m there = let r = behind period some ms spread k m there in omega arith

module _ (g : GraphTree) (trace : List Message) (can : CanRun g trace) (log : Ticks) (lines : List OutLine) (p : IsPromisedRun g trace log lines) where
  is_handling : IsHandling g trace (order_of log) p.tells.serial
  is_handling = record { can = can; along = p.tells.along }

  plan_is : plan_of_log g trace log ≡ plan_of p.tells.serial
  plan_is = ap (λ (o : Option Serial). option_map_or plan_of o []) p.tells.along

  -- a job of the plan is of a port, and its number is small
  job_reads : (z : PlanItem) → Has (plan_of p.tells.serial) z → IsReadableJob (length g.ports) z.job
  job_reads z has =
      let s = p.tells.serial in
      let holds = serial_holds g can.well_formed can.rates trace can.keeps (order_of log) s p.tells.along in
      let port = of_port g trace (order_of log) s is_handling z has in
      let within = numbered_within g.ports z.job.task port.port port.there in
      let of = holds.items z (has_sorted item_before (items_of s) z has) in
      let some = period_some g z.job.task port.port can.rates port.there in
      let early = number_within (period_of g port.port) some (messages_at s z.job.task) (holds.spread z.job.task port.port port.there) z.job.number of.message of.there in
      let arrival = of.arrival in
      let arrives = port.arrives in
      record { from_one = within.0; in_set = within.1; number = omega arith }

  jobs_read : All (λ s. IsReadableJob (length g.ports) s.job) (segments_of log)
  jobs_read = segments_of-jobs (IsReadableJob (length g.ports)) log (λ t job at.
      let lawful : IsLawful (plan_of p.tells.serial) log = subst (λ (plan : List PlanItem). IsLawful plan log) plan_is p.tells.lawful in
      let w = lawful t job at in
      subst (IsReadableJob (length g.ports)) w.2 (job_reads w.0 w.1))

  -- a line is one of serial handling
  line_is : (l : OutLine) → Has lines l → Has p.tells.serial.lines l
  line_is l has = has_sorted line_before p.tells.serial.lines l (subst (λ (ls : List OutLine). Has ls l) p.tells.shown has)

  line_reads : All (λ line. AreValues line.values) lines → (l : OutLine) → Has lines l → IsReadableLine (length g.outputs) l
  line_reads fits l has =
      let s = p.tells.serial in
      let is = line_is l has in
      let by = line_by g trace (order_of log) s is_handling l is in
      let within = numbered_within g.outputs l.output by.output by.there in
      let early = line_within g trace (order_of log) s is_handling l is in
      let values : AreValues l.values = has_all (λ line. AreValues line.values) lines fits l has in
      record { time = omega arith; from_one = within.0; in_set = within.1; values = λ k d lt. (values k d lt).sfits }

  reads_back : All (λ line. AreValues line.values) lines → read_back g (run_text g log lines) ≡ record { log = log; lines = lines }
  reads_back fits =
      let short = runs_end g trace can log lines p in
      read_back-run_text g log lines (names_are_readable g can.well_formed) (omega arith) jobs_read
      (all_has (IsReadableLine (length g.outputs)) lines (line_reads fits)) (ticks_of-segments_of log)

-- where the texts have values alone, so do the lines
back : (g : GraphTree) (trace : List Message) → CanRunOnValues g trace → (log : Ticks) (lines : List OutLine) → IsPromisedRun g trace log lines →
    read_back g (run_text g log lines) ≡ record { log = log; lines = lines }
back g trace can log lines p =
    let s = p.tells.serial in
    let along = is_handling g trace can.can log lines p in
    reads_back g trace can.can log lines p
    (all_has (λ line. AreValues line.values) lines (λ l has. line_values g trace can (order_of log) s along l (line_is g trace can.can log lines p l has)))

pub runs_read_back : RunsReadBack
runs_read_back = record {
  of_values = reads_back;
  back = back;
  faithful = λ g trace can log lines p. faithful_texts.of_promised g trace log lines p (back g trace can log lines p);
}
