use Rattle.yt_printer.proofs.printing.Law.{printed_is_read}
use Rattle.yt_printer.proofs.print_laws.printed_is_read.Goals as goal

pub returns : goal.returns
returns c = printed_is_read
