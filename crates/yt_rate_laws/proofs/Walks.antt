-- Walks over ports and over distances: where a fault is found, and where none is.
use Rattle.std.proofs.Common.{◌≡◌, ◌⊎◌, inl, inr, ⊎_elim, ℕ, zero, suc, ◌+◌, ◌<◌, ◌≤◌, ◌==◌, Bool, true, false, cond, List, [], ◌∷◌, Option, None, Some, refl, sym, ap, ◌∙◌, subst, arith}
use Rattle.std.specs.Prelude.{slice_get}
use Rattle.std.specs.Option.{option_or}
use Rattle.std.proofs.lemmas.Bool.{both_ways, eq-eqb, eqb-true}
use Rattle.std.proofs.lemmas.Bool.Decides.{nat_tests}
use Rattle.std.proofs.lemmas.Option.{none-some, same_Some}
use Rattle.yt_graph.specs.Picture.{PortTree, GraphTree}
use Rattle.yt_rates.specs.declared.fault.RateFault.{RateFault}
use Rattle.yt_rates.specs.Faults.{port_fault, fault_at, fault_from}
use Rattle.yt_rates.specs.Rates.{distance_of}

module _ (g : GraphTree) (distance : ℕ) where
  -- no port that stands so far has a fault
  abbrev pub NoneAt : ℕ → List PortTree → Type 0
  NoneAt number ps = (k : ℕ) (q : PortTree) → slice_get ps k ≡ Some q → distance_of g q ≡ distance → port_fault g (number + k) q ≡ None

  -- one that stands so far has this fault, and none before it has one
  pub record FoundAt (number : ℕ) (ps : List PortTree) (fault : RateFault) : Type 0 where
    pub place : ℕ
    pub port : PortTree
    pub there : slice_get ps place ≡ Some port
    pub far : distance_of g port ≡ distance
    pub fault_is : port_fault g (number + place) port ≡ Some fault
    pub before : (k : ℕ) (q : PortTree) → slice_get ps k ≡ Some q → k < place → distance_of g q ≡ distance → port_fault g (number + k) q ≡ None

  -- one port in front that has no fault, or stands elsewhere
  Passed : ℕ → PortTree → Type 0
  Passed number p = distance_of g p ≡ distance → port_fault g number p ≡ None

  none_more : (number : ℕ) (p : PortTree) (ps : List PortTree) → Passed number p → NoneAt (number + 1) ps → NoneAt number (p ∷ ps)
  unfolding Passed
  none_more number p ps h rest zero q at far =
      let same : p ≡ q = same_Some p q at in
      let n : number ≡ number + 0 = omega arith in
      subst (λ m. port_fault g m q ≡ None) n (subst (λ x. port_fault g number x ≡ None) same (h (ap (distance_of g) same ∙ far)))
  none_more number p ps h rest (suc k) q at far =
      let n : number + 1 + k ≡ number + suc k = omega arith in
      subst (λ m. port_fault g m q ≡ None) n (rest k q at far)

  found_more : (number : ℕ) (p : PortTree) (ps : List PortTree) (fault : RateFault) → Passed number p → FoundAt (number + 1) ps fault → FoundAt number (p ∷ ps) fault
  unfolding Passed
  found_more number p ps fault h f = record {
    place = suc f.place;
    port = f.port;
    there = f.there;
    far = f.far;
    fault_is = let n : number + 1 + f.place ≡ number + suc f.place = omega arith in subst (λ m. port_fault g m f.port ≡ Some fault) n f.fault_is;
    before = none_before;
  }
    where
      none_before : (k : ℕ) (q : PortTree) → slice_get (p ∷ ps) k ≡ Some q → k < suc f.place → distance_of g q ≡ distance → port_fault g (number + k) q ≡ None
      none_before zero q at lt far =
          let same : p ≡ q = same_Some p q at in
          let n : number ≡ number + 0 = omega arith in
          subst (λ m. port_fault g m q ≡ None) n (subst (λ x. port_fault g number x ≡ None) same (h (ap (distance_of g) same ∙ far)))
      none_before (suc k) q at lt far =
          let n : number + 1 + k ≡ number + suc k = omega arith in
          subst (λ m. port_fault g m q ≡ None) n (f.before k q at (omega arith) far)

  -- what a walk over ports answers
  pub record Walked (number : ℕ) (ps : List PortTree) (o : Option RateFault) : Type 0 where
    pub none : o ≡ None → NoneAt number ps
    pub some : (fault : RateFault) → o ≡ Some fault → FoundAt number ps fault

  passed_walk : (number : ℕ) (p : PortTree) (ps : List PortTree) (o : Option RateFault) → Passed number p → Walked (number + 1) ps o → Walked number (p ∷ ps) o
  passed_walk number p ps o h w = record { none = λ e. none_more number p ps h (w.none e); some = λ fault e. found_more number p ps fault h (w.some fault e) }

  stopped_walk : (number : ℕ) (p : PortTree) (ps : List PortTree) (fault : RateFault) → distance_of g p ≡ distance → port_fault g number p ≡ Some fault → Walked number (p ∷ ps) (Some fault)
  stopped_walk number p ps fault far is = record {
    none = λ e. absurd (none-some fault (sym e));
    some = λ f e.
        let n : number ≡ number + 0 = omega arith in
        record { place = 0; port = p; there = refl; far = far; fault_is = subst (λ m. port_fault g m p ≡ Some f) n (is ∙ e); before = λ k q at lt d. absurd (omega arith) };
  }

  one_walk : (number : ℕ) (p : PortTree) (ps : List PortTree) (rest : Option RateFault) (b : Bool) (o : Option RateFault) → (distance_of g p == distance) ≡ b → port_fault g number p ≡ o →
      Walked (number + 1) ps rest → Walked number (p ∷ ps) (option_or (cond b o None) rest)
  unfolding Passed
  one_walk number p ps rest false o e is w = passed_walk number p ps rest (λ far. absurd (both_ways (distance_of g p == distance) e (eq-eqb (distance_of g p) distance far))) w
  one_walk number p ps rest true None e is w = passed_walk number p ps rest (λ far. is) w
  one_walk number p ps rest true (Some f) e is w = stopped_walk number p ps f (eqb-true (distance_of g p) distance e) is

  pub walked : (number : ℕ) (ps : List PortTree) → Walked number ps (fault_at g distance number ps)
  walked number [] = record { none = λ e k q at. absurd (none-some q at); some = λ fault e. absurd (none-some fault e) }
  walked number (p ∷ ps) = one_walk number p ps (fault_at g distance (number + 1) ps) (distance_of g p == distance) (port_fault g number p) refl refl (walked (number + 1) ps)

  -- where no port that stands so far has a fault, none is found
  pub none_at : (number : ℕ) (ps : List PortTree) → NoneAt number ps → fault_at g distance number ps ≡ None
  none_at number ps h = by (fault_at g distance number ps) refl
    where
      by : (o : Option RateFault) → fault_at g distance number ps ≡ o → o ≡ None
      by None e = refl
      by (Some f) e =
          let at = (walked number ps).some f e in
          absurd (none-some f (sym (h at.place at.port at.there at.far) ∙ at.fault_is))

-- what a walk over distances answers, from one on
pub record Ended (g : GraphTree) (n from : ℕ) (o : Option RateFault) : Type 0 where
  pub none : o ≡ None → (d : ℕ) → from ≤ d → d < from + n → fault_at g d 1 g.ports ≡ None
  pub some : (fault : RateFault) → o ≡ Some fault → (d : ℕ) × (fault_at g d 1 g.ports ≡ Some fault) × ((e : ℕ) → from ≤ e → e < d → fault_at g e 1 g.ports ≡ None)

here_or_later : (from d : ℕ) → from ≤ d → (d ≡ from) ⊎ (from + 1 ≤ d)
here_or_later from d le = by (d == from) refl
  where
    by : (b : Bool) → (d == from) ≡ b → (d ≡ from) ⊎ (from + 1 ≤ d)
    by true e = inl (eqb-true d from e)
    by false e = inr (grind (arith, nat_tests))

one_end : (g : GraphTree) (n from : ℕ) (o rest : Option RateFault) → fault_at g from 1 g.ports ≡ o → Ended g n (from + 1) rest → Ended g (suc n) from (option_or o rest)
one_end g n from (Some f) rest is w = record { none = λ e. absurd (none-some f (sym e)); some = λ fault e. (from, is ∙ e, λ d a b. absurd (omega arith)) }
one_end g n from None rest is w = record {
  none = λ e d a b. ⊎_elim (λ (h : d ≡ from). ap (λ x. fault_at g x 1 g.ports) h ∙ is) (λ (h : from + 1 ≤ d). w.none e d h (omega arith)) (here_or_later from d a);
  some = λ fault e.
      let s = w.some fault e in
      (s.0, s.1, λ d a b. ⊎_elim (λ (h : d ≡ from). ap (λ x. fault_at g x 1 g.ports) h ∙ is) (λ (h : from + 1 ≤ d). s.2 d h b) (here_or_later from d a));
}

pub ended : (g : GraphTree) (n from : ℕ) → Ended g n from (fault_from g n from)
ended g zero from = record { none = λ e d a b. absurd (omega arith); some = λ fault e. absurd (none-some fault e) }
ended g (suc n) from = one_end g n from (fault_at g from 1 g.ports) (fault_from g n (from + 1)) refl (ended g n (from + 1))

pub none_from : (g : GraphTree) (n from : ℕ) → ((d : ℕ) → fault_at g d 1 g.ports ≡ None) → fault_from g n from ≡ None
none_from g zero from h = refl
none_from g (suc n) from h = ap (λ o. option_or o (fault_from g n (from + 1))) (h from) ∙ none_from g n (from + 1) h
