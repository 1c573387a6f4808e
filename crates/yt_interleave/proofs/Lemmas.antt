-- The lemmas that proofs of other crates cite.
pub use Rattle.yt_interleave.proofs.Carrying.{as_passed}
pub use Rattle.yt_interleave.proofs.Determined.{runs_agree}
pub use Rattle.yt_interleave.proofs.Ends.{runs_end}
pub use Rattle.yt_interleave.proofs.Executives.{executives_follow, group_is}
pub use Rattle.yt_interleave.proofs.ExecutiveTicks.{executives_tick}
pub use Rattle.yt_interleave.proofs.Fitting.{messages_fit}
pub use Rattle.yt_interleave.proofs.HandlerWrites.{handling_written}
pub use Rattle.yt_interleave.proofs.Idling.{idles_keep_serial}
pub use Rattle.yt_interleave.proofs.Machines.{machines_go_on}
pub use Rattle.yt_interleave.proofs.MidHandling.{bodies_go_on, has_left_of, has_right_of, messages-append}
pub use Rattle.yt_interleave.proofs.Over.{ends_are_serial, variables_are_written}
pub use Rattle.yt_interleave.proofs.Pieces.{added-length, put_cases, put_other, put_same}
pub use Rattle.yt_interleave.proofs.Shown.{before_all, before_late, has_before}
pub use Rattle.yt_interleave.proofs.Steps.{after_last, after_other, begins_keep_serial, idling_keeps_serial, starts_serial, ticks_keep_serial}
pub use Rattle.yt_interleave.proofs.Timing.{known_first, known_port, number_before, passes_late}
pub use Rattle.yt_interleave.proofs.WaitLists.{none_between, wait_all, wait_append, wait_has, wait_no, wait_same, wait_there, wait_yes}
pub use Rattle.yt_interleave.proofs.Waits.{messages_wait}
pub use Rattle.yt_interleave.proofs.Whole.{runs_are_on_time, runs_go_on}
