-- The task of each port of a graph.
use Rattle.std.proofs.Common.{◌≡◌, ℕ, ◌+◌, List, Some, ap, ◌∙◌, subst, arith}
use Rattle.std.specs.Prelude.{slice_get}
use Rattle.std.specs.List.{All}
use Rattle.std.proofs.lemmas.List.Elements.{All-get_or}
use Rattle.std.proofs.lemmas.Option.{slice_get_within, get_or_from_slice_get}
use Rattle.yt_list.proofs.Lemmas.{numbered_next}
use Rattle.yt_graph.specs.Picture.{PortTree, GraphTree}
use Rattle.yt_graph.specs.Cost.{greatest_cost}
use Rattle.yt_cost.specs.Codes.{PortCode, ForCode, AreCodesOf}
use Rattle.yt_set.specs.declared.task.Task.{Task}
use Rattle.yt_rates.specs.Rates.{period_of}
use Rattle.yt_rates.specs.Tables.{PortRates, ForRates, AreRatesOf, task_of}
use Rattle.yt_rates.proofs.Lists.{item_at}

module _ (g : GraphTree) (place : ℕ) (p : PortTree) (there : slice_get g.ports place ≡ Some p) where
  cost_is : (codes : List PortCode) (n : ℕ) → AreCodesOf g codes → ForCode codes (place + 1) (λ kept. n ≡ kept.cost) → n ≡ greatest_cost p
  cost_is codes n h is =
      let at = item_at codes place (omega (arith, h.count, slice_get_within g.ports place p there)) in
      let number = numbered_next codes place ∙ at.1 in
      is at.0 number ∙ (h.each (place + 1) p (numbered_next g.ports place ∙ there) at.0 number).cost

  period_is : (rates : List PortRates) (n : ℕ) → AreRatesOf g rates → ForRates rates (place + 1) (λ kept. n ≡ kept.stream.period) → n ≡ period_of g p
  period_is rates n h is =
      let at = item_at rates place (omega (arith, h.count, slice_get_within g.ports place p there)) in
      let number = numbered_next rates place ∙ at.1 in
      is at.0 number ∙ ap (λ s. s.period) (h.each (place + 1) p (numbered_next g.ports place ∙ there) at.0 number).stream

  -- the task that is made of a port's numbers is the port's
  pub task_is : (codes : List PortCode) (rates : List PortRates) (t : Task) → AreCodesOf g codes → AreRatesOf g rates → ForCode codes (place + 1) (λ kept. t.cost ≡ kept.cost) → ForRates rates (place + 1) (λ kept. t.period ≡ kept.stream.period) → t.resource ≡ p.group → t ≡ task_of g p
  task_is codes rates t of_codes of_rates cost period resource =
      let c = cost_is codes t.cost of_codes cost in
      let d = period_is rates t.period of_rates period in
      λ i. record { cost = c i; period = d i; resource = resource i }

-- what holds of all items holds of the one at a place
pub at_place : {X : Type 0} (P : X → Type 0) (xs : List X) (k : ℕ) (x : X) → slice_get xs k ≡ Some x → All P xs → P x
at_place P xs k x there h = subst P (get_or_from_slice_get xs k x x there) (All-get_or P xs k x (slice_get_within xs k x there) h)
