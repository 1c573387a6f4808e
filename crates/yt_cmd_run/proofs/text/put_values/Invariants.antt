use Rattle.std.proofs.Common.{◌≡◌, ◌++◌, drop}
use Rattle.yt_run.specs.RunText.{spaced_values}
use Rattle.yt_run_laws.specs.Values.{AreValues}
use Rattle.yt_cmd_run.proofs.text.put_values.Given as goal

-- what was put so far, and then the values that are left, is all; and all are values where those that are left are
abbrev pub invariant-loop-value : goal.invariant-loop-value
invariant-loop-value l = (l.text ++ spaced_values (drop l.value-index l.values) ≡ l.fn.text ++ spaced_values l.values) × (AreValues (drop l.value-index l.values) → AreValues l.values)
