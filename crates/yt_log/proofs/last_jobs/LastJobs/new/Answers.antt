use Rattle.std.proofs.Common.{Some, replicate, ap, ◌∙◌, arith}
use Rattle.std.proofs.lemmas.List.{get_or-replicate, length-replicate}
use Rattle.std.proofs.lemmas.Option.{slice_get-get_or}
use Rattle.yt_log.specs.declared.last_jobs.LastJob.{LastJob}
use Rattle.yt_log.proofs.LastItems.{none, none_last}
use Rattle.yt_log.proofs.last_jobs.LastJobs.new.Goals as goal

pub returns : goal.returns
returns c =
    none_last (replicate 64 none)
    (λ k lt. slice_get-get_or (replicate 64 none) k none (omega (arith, length-replicate 64 none)) ∙ ap (λ (j : LastJob). Some j) (get_or-replicate 64 k none none lt))
