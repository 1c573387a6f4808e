-- Graphs whose names can be read back from the text of a run.
use Rattle.yt_graph.specs.Picture.{GraphTree}
use Rattle.yt_graph.specs.WellFormed.{IsWellFormed}
use Rattle.yt_run.specs.Readable.{HasReadableNames}

-- each well-formed graph has readable names
abbrev pub NamesAreReadable : Type 0
NamesAreReadable = (g : GraphTree) → IsWellFormed g → HasReadableNames g
