use Rattle.yt_fitting.specs.declared.set_reading.SetReading.TheVariants.{Set, Refused}
use Rattle.yt_fitting.specs.Sets.{IsSetReadingOf}
use Rattle.yt_fitting.proofs.Lemmas.{due_refused, due_set}
use Rattle.yt_cmd_set.specs.Judged.{FitCause, IsFitText, fit_verdict}
use Rattle.yt_cmd_set.proofs.judge.set_answer.Goals as goal

pub returns-in-Set : goal.returns-in-Set
returns-in-Set c =
    let reading : IsSetReadingOf c.args.text.now (Set c.in-Set.named) = rw c.in-Set.is at c.in_ok-named.ensures in
    due_set c.args.text.now FitCause fit_verdict IsFitText c.in-Set.named c.judge.result reading.0 c.judge.ensures

pub returns-in-Refused : goal.returns-in-Refused
returns-in-Refused c =
    let reading : IsSetReadingOf c.args.text.now (Refused c.in-Refused.answer) = rw c.in-Refused.is at c.in_ok-named.ensures in
    due_refused c.args.text.now FitCause fit_verdict IsFitText c.in-Refused.answer reading
