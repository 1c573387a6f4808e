use Rattle.std.proofs.Common.{◌≡◌, ◌++◌}
use Rattle.yt_cmd_run.specs.Runs.{var_lines}
use Rattle.yt_cmd_run.proofs.stop_text.put_vars.Given as goal

-- what was put so far, and then the lines of the variables that are left, is all
abbrev pub invariant-loop-var : goal.invariant-loop-var
invariant-loop-var l = l.text ++ var_lines l.var-iterator.a.rest.now l.var-iterator.b.rest.now ≡ l.fn.text ++ var_lines l.vars l.values
