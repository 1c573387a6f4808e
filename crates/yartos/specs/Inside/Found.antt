-- The command and the request that the code finds.
use Rattle.yartos.specs.declared.words.Command as declared_command
use Rattle.yartos.specs.declared.words.Command.TheVariants.{Form, Tasks, Check, Run, Stop, Set, Replay, Play}
use Rattle.yartos.specs.declared.words.Request as declared
use Rattle.yartos.specs.declared.words.Request.TheVariants.{Misuse, Demo, Judges}
use Rattle.yartos.specs.Words.{Command, form, tasks, check, run, stop, set, replay, play, Request, misuse, demo, judges}

-- the command that the code finds, with the bytes of the words
abbrev pub command_found : declared_command.Command → Command
command_found (Form graph) = form graph.now
command_found (Tasks graph) = tasks graph.now
command_found (Check graph) = check graph.now
command_found (Run graph trace) = run graph.now trace.now
command_found (Stop graph trace tick) = stop graph.now trace.now tick
command_found (Set named) = set named.now
command_found (Replay named) = replay named.now
command_found (Play named plan) = play named.now plan.now

-- the request that the code finds
abbrev pub request_found : declared.Request → Request
request_found Misuse = misuse
request_found (Demo number) = demo number
request_found (Judges command) = judges (command_found command)
