use Rattle.std.proofs.Common.{◌≡◌, ◌++◌}
use Rattle.std.specs.List.{flat_map}
use Rattle.std.specs.String.{string_bytes}
use Rattle.yt_gen.specs.GraphText.{process_text}
use Rattle.yt_gen.specs.Pipelines.{pipelines}
use Rattle.yt_gen.proofs.graph.put_processes.Given as goal

abbrev pub invariant-loop-n : goal.invariant-loop-n
invariant-loop-n l = string_bytes l.text ≡ string_bytes l.initial.text ++ flat_map process_text (pipelines l.n)
