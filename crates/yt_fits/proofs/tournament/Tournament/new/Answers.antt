use Rattle.std.proofs.Common.{◌≡◌, ◌+◌, ◌-◌, ◌/◌, ⊎_elim, ◌∙◌, arith}
use Rattle.std.proofs.lemmas.Bool.{cases_eq}
use Rattle.std.proofs.lemmas.List.{length-replicate, length-set}
use Rattle.yt_fits.specs.declared.tournament.Entrant.{Entrant}
use Rattle.yt_fits.proofs.TournamentLemmas.{number_new, number_still, told_again}
use Rattle.yt_fits.proofs.tournament.Tournament.new.Goals as goal

pub loop-node-init : goal.loop-node-init
loop-node-init c = record {
  size = length-replicate {A = Entrant} 128 (record { number = 18446744073709551615; place = 0 });
  some = omega arith;
  few = omega arith;
  told = λ n some few. absurd (omega arith);
  numbers = λ place some few. absurd (omega arith);
}

pub loop-node-preserved : goal.loop-node-preserved
loop-node-preserved c =
    let nodes = c.loop-node.all.nodes in
    let m = c.loop-node.node - 1 in
    let new = c.first_entrant.result in
    let inv = c.loop-node.invariant in
    let size = inv.size in
    let some = c.loop-node-test.true in
    let few = inv.few in
    record {
      size = length-set nodes m new ∙ size;
      some = omega arith;
      few = omega arith;
      told = λ n from less.
          told_again nodes m n new size (omega arith) (omega arith) c.first_entrant.ensures.entrant (omega arith) (λ (e : n ≡ m / 2). omega arith)
          (λ (ne : n ≡ m → ⊥). inv.told n (omega arith) less);
      numbers = λ place from less.
          ⊎_elim
          (λ (e : 64 + place ≡ m). number_new nodes m place new (omega arith) e ∙ c.first_entrant.ensures.number (omega arith))
          (λ (ne : 64 + place ≡ m → ⊥). number_still nodes m place new ne ∙ inv.numbers place (omega arith) less)
          (cases_eq (64 + place) m);
    }

pub returns-clause-played : goal.returns-clause-played
returns-clause-played c =
    let inv = c.loop-node.invariant in
    let some = inv.some in
    let end = c.loop-node-test.false in
    record {
      size = inv.size;
      told = λ n from less. inv.told n (omega arith) less;
    }
