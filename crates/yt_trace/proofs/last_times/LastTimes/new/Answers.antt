use Rattle.std.proofs.Common.{ℕ, Option, None, Some, replicate, ap, ◌∙◌, arith}
use Rattle.std.proofs.lemmas.List.{get_or-replicate, length-replicate}
use Rattle.std.proofs.lemmas.Option.{slice_get-get_or}
use Rattle.yt_trace.proofs.LastTimes.{none_last}
use Rattle.yt_trace.proofs.last_times.LastTimes.new.Goals as goal

pub returns : goal.returns
returns c =
    let none : Option ℕ = None in
    none_last (replicate 16 none)
    (λ k lt. slice_get-get_or (replicate 16 none) k none (omega (arith, length-replicate 16 none)) ∙ ap (λ (o : Option ℕ). Some o) (get_or-replicate 16 k none none lt))
