-- Messages at ports: those that a job passes on.
use Rattle.std.specs.Prelude.{ℕ, ◌+◌, ◌%◌, ◌==◌, ℤ, List, [], if◌then◌else◌}
use Rattle.yt_graph.specs.declared.handled.SendItem.{SendItem}
use Rattle.yt_graph.specs.Picture.{GraphTree, PortTree}
use Rattle.yt_graph.specs.Sends.{messages_on}
use Rattle.yt_order.specs.Gaps.{at_gaps}
use Rattle.yt_rates.specs.Rates.{every_of, within_of, gap_of}
pub use Rattle.yt_trace.specs.Traces.{AreApart, PortMessage, messages_of}

-- a message of these numbers that arrives at a tick
abbrev pub arriving : ℕ → List ℤ → PortMessage
arriving time values = record { time = time; values = values }

-- the messages of these sends on an out, from 1: the first at a time, each later one a gap after the one before
abbrev pub spaced : ℕ → ℕ → ℕ → List SendItem → List PortMessage
spaced out time gap sends = at_gaps arriving time gap (messages_on out sends)

-- the messages that a port's job of a number passes on through an out, where it arrived at a tick and its handler sent these:
-- none where the number is no multiple of the out's `every`, else the first of them when the job is due
abbrev pub passed : GraphTree → PortTree → ℕ → ℕ → List SendItem → ℕ → List PortMessage
passed g port number arrival sends out =
    if number % every_of port out == 0 then spaced out (arrival + within_of g port) (gap_of g port out) sends else []
