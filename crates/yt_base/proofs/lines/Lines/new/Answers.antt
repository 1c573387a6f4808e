use Rattle.yt_base.proofs.LineCounts.{lines_few}
use Rattle.yt_base.proofs.lines.Lines.new.Goals as goal

pub returns-clause-few : goal.returns-clause-few
returns-clause-few c = lines_few c.args.text.now
