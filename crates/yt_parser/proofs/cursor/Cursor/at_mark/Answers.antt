use Rattle.yt_parser.proofs.parsing.Signs.{sign_is_mark-at}
use Rattle.yt_parser.proofs.cursor.Cursor.at_mark.Goals as goal

pub returns : goal.returns
returns c = rw (c.is_mark.ensures, c.self.invariant.0, c.self.view_is) (sign_is_mark-at c.args.mark c.args.self.now)
