-- Serial handling keeps messages apart and makes legal plans.
use Rattle.std.proofs.Common.{◌≡◌, List, [], Option, None, Some, refl}
use Rattle.std.specs.Option.{option_map_or}
use Rattle.yt_graph.specs.Picture.{GraphTree}
use Rattle.yt_log.specs.declared.job.Job.{Job}
use Rattle.yt_log.specs.Plan.{IsLegal}
use Rattle.yt_rates.specs.Rates.{period_of}
use Rattle.yt_rates.specs.Tables.{tasks_of}
use Rattle.yt_trace.specs.declared.message.Message.{Message}
use Rattle.yt_serial.specs.Beginnings.{order_of}
use Rattle.yt_serial.specs.Premises.{IsHandling}
use Rattle.yt_serial.specs.Laws.{PlansAreLegal, LogPlansAreLegal, MessagesAreApart}
use Rattle.yt_serial.specs.SerialHandling.{Serial, messages_at, plan_of, handled_along}
use Rattle.yt_serial.proofs.Orderly.{sorted_legal}
use Rattle.yt_serial.proofs.SerialInvariant.{Holds}
use Rattle.yt_serial.proofs.SerialRuns.{serial_holds}
use Rattle.yt_serial.proofs.Spread.{apart_from}

handled : (g : GraphTree) (trace : List Message) (order : List Job) (s : Serial) → IsHandling g trace order s → Holds g s
handled g trace order s is = serial_holds g is.can.well_formed is.can.rates trace is.can.keeps order s is.along

pub plans_are_legal : PlansAreLegal
plans_are_legal g trace order s is = sorted_legal (tasks_of g) _ (handled g trace order s is).orderly

pub log_plans_are_legal : LogPlansAreLegal
log_plans_are_legal g trace log can = by (handled_along g trace log) refl
  where
    by : (o : Option Serial) → handled_along g trace log ≡ o → IsLegal (tasks_of g) (option_map_or plan_of o [])
    by None is = tt
    by (Some s) is = plans_are_legal g trace (order_of log) s (record { can = can; along = is })

pub messages_are_apart : MessagesAreApart
messages_are_apart g trace order s is port p there = apart_from (period_of g p) (messages_at s port) ((handled g trace order s is).spread port p there)
