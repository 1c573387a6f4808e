use Rattle.std.proofs.Common.{◌≡◌, ◌+◌, ◌<◌, ℕ, length, slice_get, Option, Some, IfSome, ap, sym, subst, ◌∙◌}
use Rattle.std.proofs.lemmas.Option.{slice_get-get_or, slice_get-map}
use Rattle.std.specs.Option.{option_map}
use Rattle.yt_graph.specs.AstPicture.{item_tree}
use Rattle.yt_name_faults.specs.Parts.{port_of}
use Rattle.yt_name_faults.specs.Paths.{ports_of, out_of_port}
use Rattle.yt_name_faults.specs.Inside.OwnParts.{own_port_at}
use Rattle.yt_name_faults.proofs.PartLemmas.{trees_are}
use Rattle.yt_name_faults.proofs.paths.look_at_port.Goals as goal

pub returns-in-Some : goal.returns-in-Some
returns-in-Some c =
    let path = c.args.path.now in
    let part = c.args.part.now in
    let n = c.in-Some.n in
    let items = part.ports.items in
    let port = c.index.result.now in
    let within : n < length items = subst (λ (o : Option ℕ). IfSome o (λ n. n < length items)) c.in-Some.is c.requires in
    let found : slice_get items n ≡ Some port = slice_get-get_or items n port within ∙ ap Some (sym c.index.ensures) in
    let placed : slice_get (ports_of (item_tree part.item.now)) n ≡ Some (port_of port) =
    ap (λ l. slice_get l n) (sym (trees_are items part.item.now part.ports_are)) ∙ slice_get-map port_of items n ∙ ap (option_map port_of) found in
    c.look_in_port.ensures
    ∙ ap (out_of_port path (part.first + n)) (sym placed)
    ∙ ap (own_port_at path part.first (ports_of (item_tree part.item.now))) (sym c.in-Some.is)
