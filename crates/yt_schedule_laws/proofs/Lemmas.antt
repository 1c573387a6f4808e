-- The lemmas that proofs of other crates cite.
pub use Rattle.yt_schedule_laws.proofs.Arriving.{IsLineInTime, IsShown, all_shown_from, brought_from, has_numbered, message_at, passed_from}
pub use Rattle.yt_schedule_laws.proofs.InTime.{IsOfPort, all_has, all_there, by_start, line_by, line_within, of_port, rated}
pub use Rattle.yt_schedule_laws.proofs.LogsEnding.{runs_end}
