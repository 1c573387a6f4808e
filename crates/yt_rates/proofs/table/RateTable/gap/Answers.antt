use Rattle.std.proofs.Common.{◌≡◌, ℕ, List, ◌-◌, ◌<◌, ◌≤◌, Some, length, refl, sym, ap, ◌∙◌, subst, arith}
use Rattle.std.specs.Prelude.{slice_get, IsSomeAnd}
use Rattle.std.proofs.lemmas.Option.{same_Some, slice_get_read, slice_get-get_or}
use Rattle.yt_list.specs.Numbered.{numbered}
use Rattle.yt_list.proofs.Lemmas.{numbered_place}
use Rattle.yt_rates.specs.declared.stream.Stream.{Stream}
use Rattle.yt_rates.proofs.table.RateTable.gap.Goals as goal

module _ (c : goal.After-deref) where
  kept_is : slice_get c.args.self.now (c.args.port - 1) ≡ Some c.index.result.now
  kept_is =
      let ports = c.self.inside.ports.items in
      let same : ports ≡ c.args.self.now = c.self.view_is in
      let lt : c.args.port - 1 < length ports = omega (arith, ap length same, c.requires.first, c.requires.last) in
      ap (λ l. slice_get l (c.args.port - 1)) (sym same) ∙ slice_get_read ports (length ports) (c.args.port - 1) c.index.result.now refl lt c.index.ensures

  number_is : numbered c.args.self.now c.args.port ≡ Some c.index.result.now
  number_is = numbered_place c.args.self.now c.args.port c.requires.first ∙ kept_is

  outs_are : c.deref.result.now ≡ c.index.result.now.outs
  outs_are = c.deref.ensures.0 ∙ ap (λ k. k.outs) c.behind-self.view_is

  within : c.args.out - 1 < length c.deref.result.now
  within =
      let few : c.args.out ≤ length c.index.result.now.outs = c.requires.last_out c.index.result.now number_is in
      omega (arith, ap length outs_are, few, c.requires.first_out)

pub bounds-deref-out : goal.bounds-deref-out
bounds-deref-out c = within c

-- what is read of a number
read : (outs : List Stream) (out r : ℕ) (s : Stream) → 1 ≤ out → slice_get outs (out - 1) ≡ Some s → r ≡ s.period → IsSomeAnd (numbered outs out) (λ s. r ≡ s.period)
read outs out r s low at is = subst (λ o. IsSomeAnd o (λ s. r ≡ s.period)) (sym (numbered_place outs out low ∙ at)) is

pub returns : goal.returns
returns c x is =
    let same : c.index.result.now ≡ x = same_Some c.index.result.now x (sym (number_is c) ∙ is) in
    let outs : c.deref.result.now ≡ x.outs = outs_are c ∙ ap (λ k. k.outs) same in
    let at = slice_get-get_or c.deref.result.now (c.args.out - 1) (record { period = 0; start = 0 }) (within c) in
    read x.outs c.args.out _ _ c.requires.first_out (ap (λ l. slice_get l (c.args.out - 1)) (sym outs) ∙ at) refl
