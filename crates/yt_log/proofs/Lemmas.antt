-- The lemmas that proofs of other crates cite.
pub use Rattle.yt_log.proofs.Appends.{has_push, jobs_none, jobs_push_other, jobs_push_same}
pub use Rattle.yt_log.proofs.Blockers.{blockers}
pub use Rattle.yt_log.proofs.Choices.{IsLeast, below_end, chosen, current_fresh, least_is, waits_from, waits_true}
pub use Rattle.yt_log.proofs.Costs.{rule_is_non_clairvoyant, rank_like}
pub use Rattle.yt_log.proofs.Demands.{deadline_is, has_number, has_task, task_of-suc, task_read}
pub use Rattle.yt_log.proofs.Exclusions.{rule_is_safe}
pub use Rattle.yt_log.proofs.Floors.{floor_at, floor_least, floor_none, floor_some}
pub use Rattle.yt_log.proofs.Forms.{has_all}
pub use Rattle.yt_log.proofs.Growing.{rule_is_online}
pub use Rattle.yt_log.proofs.Inserts.{IsLegalFrom, legal_insert, legal_whole}
pub use Rattle.yt_log.proofs.Jobs.{cases_job, same_job_other, same_job_refl, same_job_true}
pub use Rattle.yt_log.proofs.Keeping.{demand_keeps, fits_keeps}
pub use Rattle.yt_log.proofs.Leasts.{rule_is_least}
pub use Rattle.yt_log.proofs.Made.{Agree, agree_less, choice_same, done_same, first_same, rule_is_determined, rule_makes_logs, same_so_far}
pub use Rattle.yt_log.proofs.Members.{has_append, has_insert, has_last, has_left, has_right, has_sorted, sorted_has}
pub use Rattle.yt_log.proofs.Multiples.{next_multiple}
pub use Rattle.yt_log.proofs.Overloads.{overloads}
pub use Rattle.yt_log.proofs.Places.{deadline_read}
pub use Rattle.yt_log.proofs.PlanFaults.{HasFault, no_plan_and_fault, plan_or_fault}
pub use Rattle.yt_log.proofs.PlanJudging.{has_at, no_item}
pub use Rattle.yt_log.proofs.Plans.{AreCounted, IsGood, apart_after, good_item, jobs_of-cons, numbered_after, one_item}
pub use Rattle.yt_log.proofs.Runs.{capped}
pub use Rattle.yt_log.proofs.SegmentLemmas.{job_at-segments_below, segments_below-in_order, segments_below-suc, ticks_of-segments_of}
pub use Rattle.yt_log.proofs.SegmentLists.{Begins, Continues, cases_run, job_at-nil, job_at_after, job_at_before, job_at_here, le_of_in_order, run_of, some_from_ends_in, with_run-continues}
pub use Rattle.yt_log.proofs.Ticks.{done-zero, done_grows, done_no, done_step, done_yes, first-suc, first-suc_zero, first_is, first_stays, tick_or_not}
