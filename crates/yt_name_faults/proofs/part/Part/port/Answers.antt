use Rattle.std.proofs.Common.{◌+◌, ap, sym, ◌∙◌}
use Rattle.std.specs.Option.{option_map}
use Rattle.yt_name_faults.proofs.PartLemmas.{port_number}
use Rattle.yt_name_faults.proofs.part.Part.port.Goals as goal

pub returns-in_err-place : goal.returns-in_err-place
returns-in_err-place c =
    c.from_residual.ensures
    ∙ ap (option_map (λ n. c.args.self.now.first + n)) (sym c.in_err-place.was)
    ∙ port_number c.args.name.now c.args.self.now.first _ c.place.result c.place.ensures.first

pub returns : goal.returns
returns c =
    ap (option_map (λ n. c.args.self.now.first + n)) (sym c.in_ok-place.was)
    ∙ port_number c.args.name.now c.args.self.now.first _ c.place.result c.place.ensures.first
