use Rattle.std.proofs.Common.{◌≡◌, ◌≤◌, ◌+◌, length}
use Rattle.yt_base.specs.Files.{read_from, read_lines}
use Rattle.yt_base.proofs.line_reader.read_lines.Given as goal

abbrev pub invariant-loop-line : goal.invariant-loop-line
invariant-loop-line g l = record {
  counted : l.number + length l.lines ≤ length l.text;
  read : read_from g.R.LineReader.judged (l.number + 1) l.reader l.lines ≡ read_lines g.R.LineReader.judged l.fn.reader l.text;
}

abbrev pub decreases-loop-line : goal.decreases-loop-line
decreases-loop-line g l = length l.lines
