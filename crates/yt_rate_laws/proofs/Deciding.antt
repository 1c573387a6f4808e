-- The fault that decides is the first.
use Rattle.std.proofs.Common.{◌≡◌, ◌↔◌, ℕ, ◌+◌, ◌<◌, length, Option, None, Some, refl, ◌∙◌, subst, ⊎_elim, arith}
use Rattle.std.specs.Prelude.{slice_get}
use Rattle.std.specs.List.{All}
use Rattle.std.proofs.lemmas.List.Elements.{All-get_or}
use Rattle.std.proofs.lemmas.Option.{slice_get-get_or, slice_get_within, get_or_from_slice_get}
use Rattle.yt_graph.specs.Picture.{PortTree, GraphTree}
use Rattle.yt_graph.specs.WellFormed.{IsWellFormed}
use Rattle.yt_rates.specs.declared.fault.RateFault.{RateFault}
use Rattle.yt_rates.specs.Faults.{IsWithinRates, port_fault, fault_at, rate_fault}
use Rattle.yt_rates.specs.Rates.{distance_of}
use Rattle.yt_rate_laws.specs.Deciding.{IsFirstFault, RateFaultIsFirst}
use Rattle.yt_rate_laws.proofs.Near.{near, within_one, nearer_within}
use Rattle.yt_rate_laws.proofs.Outs.{port_decided, fine_is_none}
use Rattle.yt_rate_laws.proofs.Walks.{walked, none_at, ended, none_from}

-- a port's number from 1, either way
numbered : (g : GraphTree) (k : ℕ) (p : PortTree) (o : Option RateFault) → port_fault g (1 + k) p ≡ o → port_fault g (k + 1) p ≡ o
numbered g k p o h = let n : 1 + k ≡ k + 1 = omega arith in subst (λ m. port_fault g m p ≡ o) n h

-- where no fault is found at a distance, no port there has one
none_there : (g : GraphTree) (d : ℕ) → fault_at g d 1 g.ports ≡ None → (k : ℕ) (q : PortTree) → slice_get g.ports k ≡ Some q → distance_of g q ≡ d → port_fault g (k + 1) q ≡ None
none_there g d e k q at far = numbered g k q None ((walked g d 1 g.ports).none e k q at far)

first : (g : GraphTree) → IsWellFormed g → (fault : RateFault) → rate_fault g ≡ Some fault → IsFirstFault g fault
first g well fault e =
    let end = (ended g (length g.ports + 1) 0).some fault e in
    let d = end.0 in
    let found = (walked g d 1 g.ports).some fault end.1 in
    let nearer = nearer_within g well d (λ k q at less. none_there g (distance_of g q) (end.2 (distance_of g q) (omega arith) less) k q at refl) in
    let far : distance_of g found.port ≡ d = found.far in
    record {
      place = found.place;
      port = found.port;
      there = found.there;
      cause = (port_decided g (found.place + 1) found.port).some fault (numbered g found.place found.port (Some fault) found.fault_is);
      before = λ i p at h. ⊎_elim
          (λ (l : distance_of g p < distance_of g found.port). nearer i p at (omega arith))
          (λ s.
          let same : distance_of g p ≡ d = s.0 ∙ far in
          within_one g well i p at (λ k q there lt. nearer k q there (omega arith)) (numbered g i p None (found.before i p at s.1 same)))
          h;
    }

none : (g : GraphTree) → IsWellFormed g → (rate_fault g ≡ None) ↔ All (IsWithinRates g) g.ports
none g well = (within, without)
  where
    within : rate_fault g ≡ None → All (IsWithinRates g) g.ports
    within e k d lt =
        let all = nearer_within g well (length g.ports + 1) (λ k q at less. none_there g (distance_of g q) ((ended g (length g.ports + 1) 0).none e (distance_of g q) (omega arith) (omega arith)) k q at refl) in
        let at = slice_get-get_or g.ports k d lt in
        let less = near g k _ well at in
        all k _ at (omega arith)

    without : All (IsWithinRates g) g.ports → rate_fault g ≡ None
    without all = none_from g (length g.ports + 1) 0 (λ d. none_at g d 1 g.ports (λ k q at far.
        let fine = subst (IsWithinRates g) (get_or_from_slice_get g.ports k q q at) (All-get_or (IsWithinRates g) g.ports k q (slice_get_within g.ports k q at) all) in
        fine_is_none g (1 + k) q fine.period fine.outs))

pub rate_fault_is_first : RateFaultIsFirst
rate_fault_is_first = record { first = first; none = none }
