use Rattle.yt_parser.proofs.parsing.Signs.{sign_is_key-at}
use Rattle.yt_parser.proofs.cursor.Cursor.at_key.Goals as goal

pub returns : goal.returns
returns c = rw (c.is_key.ensures, c.self.invariant.0, c.self.view_is) (sign_is_key-at c.args.key c.args.self.now)
