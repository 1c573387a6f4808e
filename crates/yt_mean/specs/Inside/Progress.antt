-- How far a handler has come, without a list of its writes: what a walk over its tree keeps.
use Rattle.std.specs.Prelude.{ℕ, ℤ, List, []}
use Rattle.yt_graph.specs.declared.handled.SendItem.{SendItem}
use Rattle.yt_graph.specs.Picture.{BlockTree}
use Rattle.yt_graph.specs.Meaning.{Run, spend, block_run}

pub record Progress : Type 0 where
  pub locals : List ℤ
  pub vars : List ℤ
  pub ticks : ℕ
  pub sends : List SendItem

-- how far a run has come
abbrev pub progress_of : Run → Progress
progress_of s = record { locals = s.locals; vars = s.vars; ticks = s.ticks; sends = s.sends }

-- a run that has come so far, with no writes
abbrev pub run_of : Progress → Run
run_of p = record { locals = p.locals; vars = p.vars; ticks = p.ticks; sends = p.sends; writes = [] }

-- what a step of a run does to the progress
abbrev pub after : (Run → Run) → Progress → Progress
after step p = progress_of (step (run_of p))

-- one turn of a loop: its body, and one tick
abbrev pub turn_run : BlockTree → Run → Run
turn_run body s = spend 1 (block_run body s)
