use Rattle.std.proofs.Common.{◌≡◌, ◌++◌, map, drop}
use Rattle.yt_names.specs.Resolved.{var_of}
use Rattle.yt_names.proofs.heads.add_vars.Given as goal

abbrev pub invariant-loop-decl : goal.invariant-loop-decl
invariant-loop-decl l = l.vars ++ map (var_of l.process.text) (drop l.decl-index l.decls) ≡ l.fn.vars ++ map (var_of l.process.text) l.decls
