-- The status of each verdict, and the exit status of each status.
use Rattle.std.specs.Prelude.{ℕ}
use Rattle.yt_answer.specs.declared.status.Status.{Status}
use Rattle.yt_answer.specs.declared.status.Status.TheVariants.{Done, Usage, Graph, Overload, Trace, ReadFault, WriteFault, Missed, NoMemory, Long, NotYet}
use Rattle.yt_answer.specs.declared.verdict.Verdict.{Verdict}
use Rattle.yt_answer.specs.declared.verdict.Verdict.TheVariants as found

-- the exit status of a command that ended so
abbrev pub code_of : Status → ℕ
code_of Done = 0
code_of Usage = 2
code_of Graph = 3
code_of Overload = 4
code_of Trace = 5
code_of ReadFault = 6
code_of WriteFault = 7
code_of Missed = 8
code_of NoMemory = 9
code_of Long = 10
code_of NotYet = 11

-- how a command ends of which this is found, unless a read, a write or memory fails
abbrev pub status_of : Verdict → Status
status_of found.Done = Done
status_of found.Usage = Usage
status_of found.Graph = Graph
status_of found.Overload = Overload
status_of found.Trace = Trace
status_of found.Missed = Missed
status_of found.Long = Long
status_of found.NotYet = NotYet
