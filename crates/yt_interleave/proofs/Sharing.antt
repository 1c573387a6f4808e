-- Two ports whose handlers name one variable are under one resource.
use Rattle.std.proofs.Common.{◌≡◌, ℕ, zero, suc, ◌<◌, ◌≤◌, Bool, true, false, List, [], length, get_or, slice_get, Option, None, Some, refl, sym, ap, subst, ◌∙◌, inl, inr, ◌⊎◌, ⊎_elim, arith}
use Rattle.std.specs.Prelude.{IsSomeAnd}
use Rattle.std.specs.List.{All, Contains}
use Rattle.std.specs.Option.{unwrap_or}
use Rattle.std.proofs.lemmas.Bool.{cases_lt}
use Rattle.std.proofs.lemmas.List.Elements.{All-contains}
use Rattle.std.proofs.lemmas.Option.{slice_get_past, unwrap_or-slice_get}
use Rattle.yt_graph.specs.Picture.{GraphTree, PortTree}
use Rattle.yt_graph.specs.WellFormed.{block_uses_var, IsVarOf, IsFineGroup, IsFinePort, IsWellFormed}
use Rattle.yt_cost.specs.Code.{port_code}
use Rattle.yt_cost.specs.CodeVars.{port_vars}
use Rattle.yt_cost.proofs.Lemmas.{owns}
use Rattle.yt_cost.proofs.Lemmas.{uses_vars}
use Rattle.yt_graph.specs.Labels.{no_port}
use Rattle.yt_interleave.specs.Interleaved.{port_at, group_at, Uses}

-- a number is that of a port, or of none
pub port_cases : (g : GraphTree) (n : ℕ) → (port_at g n ≡ no_port) ⊎ ((k : ℕ) × (k < length g.ports) × (port_at g n ≡ get_or g.ports k no_port))
port_cases g zero = inl refl
port_cases g (suc k) =
    ⊎_elim
    (λ (lt : k < length g.ports). inr (k, lt, unwrap_or-slice_get g.ports k no_port))
    (λ (ge : length g.ports ≤ k). inl (ap (λ (o : Option PortTree). unwrap_or o no_port) (slice_get_past g.ports k ge)))
    (cases_lt k (length g.ports))

uses_none : (v : ℕ) → Contains {X = ℕ} [] v → ⊥
uses_none v h = let k = h.1 in absurd (omega arith)

-- what is known of a port that uses a variable
pub record IsUser (g : GraphTree) (n v : ℕ) : Type 0 where
  pub place : ℕ
  pub inside : place < length g.ports
  pub is : port_at g n ≡ get_or g.ports place no_port
  pub own : IsVarOf g (port_at g n).process v
  pub uses : block_uses_var (port_at g n).body ≡ true
  pub some : 1 ≤ group_at g n

same_owner : {V : Type 0} (process : V → List ℕ) (o : Option V) (a b : List ℕ) → IsSomeAnd o (λ v. process v ≡ a) → IsSomeAnd o (λ v. process v ≡ b) → a ≡ b
same_owner process None a b h k = absurd h
same_owner process (Some v) a b h k = sym h ∙ k

uses_or_not : (g : GraphTree) (p : PortTree) (b : Bool) → block_uses_var p.body ≡ b → IsFinePort g p → (v : ℕ) → Contains (port_vars g p) v → (block_uses_var p.body ≡ true) × (1 ≤ p.group)
uses_or_not g p true e fine v h = (e, (subst (IsFineGroup g p) e fine.11).0)
uses_or_not g p false e fine v h =
    let none : p.group ≡ 0 = subst (IsFineGroup g p) e fine.11 in
    let same = uses_vars g p in
    let empty : port_vars g p ≡ [] = sym same ∙ (owns g p (port_code g p) fine same).none none in
    absurd (uses_none v (subst (λ xs. Contains xs v) empty h))

module _ (g : GraphTree) (well : IsWellFormed g) where
  pub user : (n v : ℕ) → Uses g n v → IsUser g n v
  user n v h =
      ⊎_elim
      (λ (e : port_at g n ≡ no_port). absurd (uses_none v (subst (λ (p : PortTree). Contains (port_vars g p) v) e h)))
      (λ (r : (k : ℕ) × (k < length g.ports) × (port_at g n ≡ get_or g.ports k no_port)).
      let fine : IsFinePort g (port_at g n) = subst (IsFinePort g) (sym r.2) (well.each_port r.0 no_port r.1) in
      let same = uses_vars g (port_at g n) in
      let is = uses_or_not g (port_at g n) (block_uses_var (port_at g n).body) refl fine v h in
      let own : IsVarOf g (port_at g n).process v =
      All-contains (IsVarOf g (port_at g n).process) (port_vars g (port_at g n)) v
      (subst (λ xs. All (IsVarOf g (port_at g n).process) xs) same (owns g (port_at g n) (port_code g (port_at g n)) fine same).of_process) h in
      let u : IsUser g n v = record { place = r.0; inside = r.1; is = r.2; own = own; uses = is.0; some = is.1 } in
      u)
      (port_cases g n)

  -- a variable that two ports use
  pub shared : (m n v : ℕ) → Uses g m v → Uses g n v → (0 < group_at g m) × (group_at g m ≡ group_at g n)
  shared m n v h k =
      let a = user m v h in
      let b = user n v k in
      let p = port_at g m in
      let q = port_at g n in
      let process : p.process ≡ q.process = same_owner (λ x. x.process) (slice_get g.vars v) p.process q.process a.own b.own in
      let fine : IsFinePort g p = subst (IsFinePort g) (sym a.is) (well.each_port a.place no_port a.inside) in
      let under = fine.12 b.place no_port b.inside in
      let one : p.group ≡ q.group =
      subst (λ (x : PortTree). p.process ≡ x.process → block_uses_var p.body ≡ true → block_uses_var x.body ≡ true → p.group ≡ x.group) (sym b.is) under process a.uses b.uses in
      let some = a.some in
      (omega arith, one)
