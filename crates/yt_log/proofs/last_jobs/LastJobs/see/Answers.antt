use Rattle.yt_log.proofs.LastItems.{see_last}
use Rattle.yt_log.proofs.last_jobs.LastJobs.see.Goals as goal

pub returns : goal.returns
returns c = λ before are number. see_last c.args.self.now.jobs before c.args.item c.requires.positive c.requires.within number are
