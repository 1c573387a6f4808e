use Rattle.std.proofs.Common.{◌≡◌, ◌-◌, drop}
use Rattle.yt_name_faults.specs.First.{least_with}
use Rattle.yt_name_faults.specs.Handlers.{visible_params, params_faults}
use Rattle.yt_name_faults.proofs.handler_faults.Walk.params.Given as goal

abbrev pub invariant-loop-word : goal.invariant-loop-word
invariant-loop-word l = record {
  visible : visible_params l.self.visible (drop l.word-index l.params) ≡ visible_params l.fn.self.visible l.params;
  left : l.self.left ≡ l.fn.self.left - l.word-index;
  so_far : least_with (params_faults l.env l.self.visible l.self.left (drop l.word-index l.params)) l.self.least ≡ least_with (params_faults l.fn.env l.fn.self.visible l.fn.self.left l.params) l.fn.self.least;
}
