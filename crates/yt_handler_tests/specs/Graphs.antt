-- The graphs that the tests build: their ports have three outs, one local beside their parameter, and variables of their own.
use Rattle.std.specs.Prelude.{◌≡◌, ℕ, ◌==◌, ◌≤◌, not, false, if◌then◌else◌, List, [], ◌∷◌, length, pos, codes}
use Rattle.yt_graph.specs.declared.graph.Var.{Var}
use Rattle.yt_graph.specs.declared.port.Feed.TheVariants.{Input}
use Rattle.yt_graph.specs.declared.port.OutHead.{OutHead}
use Rattle.yt_graph.specs.Picture.{ExprTree, BlockTree, PortTree, GraphTree}
use Rattle.yt_graph.specs.Meaning.{expr_ticks}
use Rattle.yt_graph.specs.Cost.{block_cost}
use Rattle.yt_graph.specs.WellFormed.{expr_uses_var, block_uses_var, expr_depth, block_depth, IsFineExpr, IsFineBlock}

abbrev pub out_of : List ℕ → ℕ → OutHead
out_of name width = record { name = name; width = width; every = 1 }

-- o(1) e(1) b(8)
abbrev pub three_outs : List OutHead
three_outs = out_of (codes "o") 1 ∷ out_of (codes "e") 1 ∷ out_of (codes "b") 8 ∷ []

-- var NAME = 0, of the process p
abbrev pub var_of : List ℕ → Var
var_of name = record { process = codes "p"; name = name; start = pos 0 }

-- no variable, s alone, or s, t and u
abbrev pub vars_of : ℕ → List Var
vars_of vars =
    if vars == 0 then [] else if vars == 1 then var_of (codes "s") ∷ [] else var_of (codes "s") ∷ var_of (codes "t") ∷ var_of (codes "u") ∷ []

-- port NAME from t (v) out o(1) e(1) b(8), of the process p with so many variables in r, with one local beside v
abbrev pub port_of : ℕ → List ℕ → BlockTree → PortTree
port_of vars name body =
    record { process = codes "p"; name = name; feed = Input 1; group = if vars == 0 then 0 else 1; params = 1; locals = 2; outs = three_outs; body = body }

-- input t(1) period 1  resource r, the variables and the ports
abbrev pub graph_of : ℕ → List PortTree → GraphTree
graph_of vars ports =
    record { inputs = (record { name = codes "t"; width = 1; period = 1 }) ∷ []; outputs = []; groups = codes "r" ∷ []; vars = vars_of vars; ports = ports }

-- the graph of the port a alone
abbrev pub lone_graph : ℕ → BlockTree → GraphTree
lone_graph vars body = graph_of vars (port_of vars (codes "a") body ∷ [])

-- the graph of the ports a and b without variables
abbrev pub graph_of_two : BlockTree → BlockTree → GraphTree
graph_of_two first second = graph_of 0 (port_of 0 (codes "a") first ∷ port_of 0 (codes "b") second ∷ [])

-- a block of such a port, no deeper than this, that uses variables if there are any
pub record IsPlain (vars depth : ℕ) (body : BlockTree) : Type 0 where
  pub low : block_depth body ≤ depth
  pub fine : (ports : List PortTree) (name : List ℕ) (whole : BlockTree) → IsFineBlock (graph_of vars ports) (port_of vars name whole) body
  pub uses : block_uses_var body ≡ not (vars == 0)

-- an expression that such a block may send where there are no variables
pub record IsPlainValue (e : ExprTree) : Type 0 where
  pub low : expr_depth e ≤ 32
  pub fine : (ports : List PortTree) (name : List ℕ) (whole : BlockTree) → IsFineExpr (graph_of 0 ports) (port_of 0 name whole) e
  pub no_vars : expr_uses_var e ≡ false
  pub ticks : expr_ticks e ≤ 900

-- a graph of one such port with so many variables, whose handling takes few ticks
pub record IsLone (vars : ℕ) (graph : GraphTree) : Type 0 where
  pub body : BlockTree
  pub is : graph ≡ lone_graph vars body
  pub plain : IsPlain vars 8 body
  pub all_vars : length graph.vars ≡ vars
  pub ticks : block_cost body ≤ 1000
