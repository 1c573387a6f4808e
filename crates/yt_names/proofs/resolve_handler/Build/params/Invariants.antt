use Rattle.std.proofs.Common.{◌≡◌, ◌≤◌, ◌-◌, drop}
use Rattle.yt_names.specs.Resolved.{param_locals}
use Rattle.yt_names.proofs.resolve_handler.Build.params.Given as goal

abbrev pub invariant-loop-word : goal.invariant-loop-word
invariant-loop-word l = record {
  short : l.self.left ≤ 16;
  visible : param_locals l.self.visible l.self.left (drop l.word-index l.params) ≡ param_locals l.fn.self.visible l.fn.self.left l.params;
  left : l.self.left ≡ l.fn.self.left - l.word-index;
}
