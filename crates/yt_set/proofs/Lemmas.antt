-- The lemmas that proofs of other crates cite.
pub use Rattle.yt_set.proofs.Demands.{AreDueInPeriods, IsDueInPeriod, demand_fits, due_in_periods, jobs_due_whole, none_due, same_jobs_due}
pub use Rattle.yt_set.proofs.Hyperperiods.{HavePeriods, all_first, all_more, all_one, all_rest, hyperperiod_is, least_from, multiple_more, periods_of}
pub use Rattle.yt_set.proofs.Multiples.{lcm_by, lcm_is}
pub use Rattle.yt_set.proofs.Numbers.{number_bounds}
