use Rattle.std.proofs.lemmas.Slice.Zip.{either_empty_from_Zip}
use Rattle.yt_cmd_run.proofs.VarLines.{all_put}
use Rattle.yt_cmd_run.proofs.stop_text.put_vars.Goals as goal

pub returns : goal.returns
returns c =
    all_put _ _ _ _ (either_empty_from_Zip c.loop-var.var-iterator c.next.new.self c.next.result c.in-None.is c.next.ensures.steps) c.loop-var.invariant
