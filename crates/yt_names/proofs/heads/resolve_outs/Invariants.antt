use Rattle.std.proofs.Common.{◌≡◌, ◌++◌, map, drop}
use Rattle.yt_names.specs.Resolved.{out_head}
use Rattle.yt_names.proofs.heads.resolve_outs.Given as goal

abbrev pub invariant-loop-decl : goal.invariant-loop-decl
invariant-loop-decl l = l.outs ++ map out_head (drop l.decl-index l.decls) ≡ map out_head l.decls
