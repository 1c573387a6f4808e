use Rattle.yt_fitting.specs.declared.set_reading.SetReading.TheVariants.{Set, Refused}
use Rattle.yt_fitting.specs.Sets.{IsSetReadingOf}
use Rattle.yt_fitting.proofs.Lemmas.{due_refused, due_set}
use Rattle.yt_cmd_replay.specs.Causes.{IsReplayedText, ReplayedCause, replayed_verdict}
use Rattle.yt_cmd_replay.proofs.answer.replay_answer.Goals as goal

pub replay_set-requires : goal.replay_set-requires
replay_set-requires c =
    let reading : IsSetReadingOf c.args.text.now (Set c.in-Set.named) = rw c.in-Set.is at c.in_ok-named.ensures in
    reading.1

pub returns-in-Set : goal.returns-in-Set
returns-in-Set c =
    let reading : IsSetReadingOf c.args.text.now (Set c.in-Set.named) = rw c.in-Set.is at c.in_ok-named.ensures in
    due_set c.args.text.now ReplayedCause (λ named why. replayed_verdict why) (λ named why told. IsReplayedText why told) c.in-Set.named c.replay_set.result reading.0 c.replay_set.ensures

pub returns-in-Refused : goal.returns-in-Refused
returns-in-Refused c =
    let reading : IsSetReadingOf c.args.text.now (Refused c.in-Refused.answer) = rw c.in-Refused.is at c.in_ok-named.ensures in
    due_refused c.args.text.now ReplayedCause (λ named why. replayed_verdict why) (λ named why told. IsReplayedText why told) c.in-Refused.answer reading
