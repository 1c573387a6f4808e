use Rattle.std.proofs.Common.{ℕ, Option, ap, ◌∙◌}
use Rattle.yt_runner.specs.Inside.Next.{least_of}
use Rattle.yt_runner.proofs.Rounds.{next_tick}
use Rattle.yt_runner.proofs.running.Running.next_time.Goals as goal

pub returns : goal.returns
returns c =
    next_tick c.args.self.now c.next_due.result c.least_of.result (rw (← c.self.view_is) c.next_due.ensures)
    (c.least_of.ensures ∙ ap (λ (o : Option ℕ). least_of c.next_due.result o) c.next_read.ensures)
