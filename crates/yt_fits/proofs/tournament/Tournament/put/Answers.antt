use Rattle.std.proofs.Common.{◌≡◌, ◌+◌, ◌/◌, refl, ◌∙◌, arith}
use Rattle.std.proofs.lemmas.List.{length-set}
use Rattle.yt_fits.specs.declared.tournament.Entrant.{Entrant}
use Rattle.yt_fits.proofs.TournamentLemmas.{lesser_there, number_new, number_still, place_there, told_again}
use Rattle.yt_fits.proofs.tournament.Tournament.put.Goals as goal

pub loop-node-init : goal.loop-node-init
loop-node-init c =
    let nodes = c.args.self.now.nodes in
    let place = c.args.place in
    let new : Entrant = record { number = c.args.number; place = place } in
    let size = c.requires.played.size in
    record {
      size = length-set nodes (64 + place) new ∙ size;
      some = omega arith;
      few = omega arith;
      told = λ n some few ne.
          told_again nodes (64 + place) n new size (omega arith) (omega arith) (place_there nodes (64 + place) place new refl refl) some ne
          (λ other. c.requires.played.told n some few);
      here = number_new nodes (64 + place) place new (omega arith) refl;
      others = λ other few ne. number_still nodes (64 + place) other new (λ (e : 64 + other ≡ 64 + place). ne (omega arith));
    }

pub loop-node-preserved : goal.loop-node-preserved
loop-node-preserved c =
    let nodes = c.loop-node.self.nodes in
    let m = c.loop-node.node / 2 in
    let new = c.lesser_below.result in
    let inv = c.loop-node.invariant in
    let size = inv.size in
    let more = c.loop-node-test.true in
    let few = inv.few in
    record {
      size = length-set nodes m new ∙ size;
      some = omega arith;
      few = omega arith;
      told = λ n some less ne.
          told_again nodes m n new size (omega arith) (omega arith) (lesser_there nodes m new (omega arith) c.lesser_below.ensures) some ne
          (λ other. inv.told n some less other);
      here = number_still nodes m c.args.place new (λ (e : 64 + c.args.place ≡ m). omega arith) ∙ inv.here;
      others = λ other less ne. number_still nodes m other new (λ (e : 64 + other ≡ m). omega arith) ∙ inv.others other less ne;
    }

pub returns-clause-played : goal.returns-clause-played
returns-clause-played c =
    let inv = c.loop-node.invariant in
    let top = c.loop-node-test.false in
    record {
      size = inv.size;
      told = λ n some few. inv.told n some few (λ (e : n ≡ c.loop-node.node / 2). omega arith);
    }
