-- The lemmas that proofs of other crates cite.
pub use Rattle.yt_serial.proofs.Bounds.{every_some, messages_are_bounded}
pub use Rattle.yt_serial.proofs.Done.{begun_again, begun_fresh, begun_idle, begun_stays, busy_until_le, busy_until_within, done_within, first_tick_at, length_is_end}
pub use Rattle.yt_serial.proofs.LineOrder.{TimesRise, from_not, lines_has, lines_other, lines_same, sorted_is}
pub use Rattle.yt_serial.proofs.LogWrites.{done_before, done_other, done_this, length_push, tick_cases, tick_last, variables_stay, writes_below_more, writes_below_prefix, writes_below_push, writes_below_same, writes_below_zero, writes_idle, writes_in_idle, writes_in_job, writes_of_push_other, writes_of_push_same}
pub use Rattle.yt_serial.proofs.Orders.{goes_on}
pub use Rattle.yt_serial.proofs.Prefix.{begun_below-append, begun_same}
pub use Rattle.yt_serial.proofs.RunRules.{meets_rules, run_rules_are_exact}
pub use Rattle.yt_serial.proofs.Sends.{messages_on-length}
pub use Rattle.yt_serial.proofs.SerialInvariant.{Holds, period_some, port_task}
pub use Rattle.yt_serial.proofs.SerialLaws.{plans_are_legal}
pub use Rattle.yt_serial.proofs.SerialLines.{LinesHold, all_at, all_before, all_past, lines_append, lines_hold}
pub use Rattle.yt_serial.proofs.SerialRuns.{inputs_stay, run_push, serial_holds, step_of, stepped}
pub use Rattle.yt_serial.proofs.SerialStates.{feed_cases, placed-length, placed_at, port_there}
pub use Rattle.yt_serial.proofs.SerialSteps.{at_tick, in_plan, run_rest, sent_late}
pub use Rattle.yt_serial.proofs.Spread.{get_cases, numbered_apart, numbered_far, numbered_left, numbered_within}
pub use Rattle.yt_serial.proofs.Unique.{IsRuleRun, agree_to, no_more, promised_is}
