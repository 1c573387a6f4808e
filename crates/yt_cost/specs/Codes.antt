-- What is kept of a graph's handlers.
use Rattle.std.specs.Prelude.{◌≡◌, ℕ, ◌≤◌, List, length}
use Rattle.std.specs.List.{All}
use Rattle.std.specs.Option.{ForSome}
use Rattle.yt_list.specs.Numbered.{numbered, numbered_or}
use Rattle.yt_graph.specs.Picture.{PortTree, GraphTree}
use Rattle.yt_graph.specs.Cost.{greatest_cost, greatest_sends}
use Rattle.yt_graph.specs.Limits.{most_cost}
use Rattle.yt_code.specs.Valid.{Program, IsValidCode}
use Rattle.yt_cost.specs.CodeAlone.{MeansPort}
use Rattle.yt_cost.specs.CodeVars.{UsesVarsOf, UsesOwnVars}
use Rattle.yt_cost.specs.declared.limits.TheConstants.{MOST_SENDS}

-- what is kept of a port: its code, its greatest cost, and its greatest number of sends on each out, by place from 0
pub record PortCode : Type 0 where
  pub code : Program
  pub cost : ℕ
  pub sends : List ℕ

-- what is kept of a port is within the limits: the ticks, and the sends on each out
pub record IsCodeWithin (kept : PortCode) : Type 0 where
  pub ticks : kept.cost ≤ most_cost
  pub sends : All (λ count. count ≤ MOST_SENDS) kept.sends

-- a fact about what is kept of the port with this number, from 1
abbrev pub ForCode : List PortCode → ℕ → (PortCode → Type 0) → Type 0
ForCode codes port P = ForSome (numbered codes port) P

-- the greatest number of sends on each out of a port, by place from 0
pub record AreSendsOf (port : PortTree) (sends : List ℕ) : Type 0 where
  pub count : length sends ≡ length port.outs
  pub each : (out : ℕ) → 1 ≤ out → out ≤ length port.outs → numbered_or sends out 0 ≡ greatest_sends port out

-- the code that is kept does what the handler of the graph's port means, and the numbers that are kept are the greatest
pub record IsCodeOf (graph : GraphTree) (port : PortTree) (kept : PortCode) : Type 0 where
  pub valid : IsValidCode kept.code
  pub params : kept.code.params ≡ port.params
  pub vars : kept.code.vars ≡ length graph.vars
  pub meaning : MeansPort graph kept.code port
  pub own_vars : UsesVarsOf graph kept.code port
  pub cost : kept.cost ≡ greatest_cost port
  pub sends : AreSendsOf port kept.sends

-- each port has its code under its number, which uses variables of the port's process alone
pub record AreCodesOf (graph : GraphTree) (codes : List PortCode) : Type 0 where
  pub count : length codes ≡ length graph.ports
  pub each : (port : ℕ) → ForSome (numbered graph.ports port) (λ p. ForCode codes port (IsCodeOf graph p))
  pub own : (port : ℕ) → ForSome (numbered graph.ports port) (λ p. ForCode codes port (λ kept. UsesOwnVars graph kept.code p))
