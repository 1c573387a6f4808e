-- The worked schedules, by computing.
use Rattle.std.proofs.Common.{refl}
use Rattle.yt_log.specs.Tasks.{task_of}
use Rattle.yt_log.specs.Plan.{same_job, deadline_of, jobs_of}
use Rattle.yt_log.specs.Ticks.{tick, names, done, first_tick}
use Rattle.yt_log.specs.EdfDdm.{lowered, current_deadline, rank, waits, sooner, least, job_of, choice, edf_ddm}
use Rattle.yt_order.specs.Words.{precedes}
use Rattle.yt_log.specs.Worked.{sharing, sharing_plan, free, free_plan, overloaded, overload, blocked, block, WorkedSchedules}

pub worked : WorkedSchedules
unfolding task_of same_job deadline_of jobs_of tick names done first_tick lowered current_deadline rank precedes waits sooner least job_of choice edf_ddm sharing sharing_plan free free_plan overloaded overload blocked block
worked = record { lowered = refl; floor = refl; interrupted = refl; over = refl; over_plan = refl; missed = refl; blocks = refl; blocks_plan = refl; late = refl }
