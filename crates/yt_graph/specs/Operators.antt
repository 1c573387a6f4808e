-- The operators that handlers may call: their heads, by number from 1.
use Rattle.std.specs.Prelude.{◌≡◌, ℕ, ◌^◌, ◌<◌, IsTrue, List, length, IsSomeAnd}
use Rattle.std.specs.List.{All}
use Rattle.std.specs.Option.{option_map_or}
use Rattle.yt_list.specs.Numbered.{numbered}
use Rattle.yt_graph.specs.declared.operator.OpHead.{OpHead}
use Rattle.yt_graph.specs.Limits.{most_op_args, most_op_ticks, most_op_code}
use Rattle.yt_graph.specs.Names.{is_name}
use Rattle.yt_graph.specs.Picture.{ExprTree, num, local, var, neg, lnot, two, call, ExprsTree, no_exprs, more_exprs, StmtTree, set_local, set_var, send, if_only, if_else, repeat, BlockTree, empty, more, GraphTree}
use Rattle.yt_graph.specs.WellFormed.{IsWithin, exprs_count}

-- the numbers of an operator's head: 1 argument or 2, 1 to 1,000 ticks, and a code from 1 to 5
abbrev pub IsFineHead : OpHead → Type 0
IsFineHead o = IsWithin 1 most_op_args o.args × IsWithin 1 most_op_ticks o.ticks × IsWithin 1 most_op_code o.code

-- a head whose numbers are within these ranges, and whose name may name something
abbrev pub IsNamedHead : OpHead → Type 0
IsNamedHead o = IsTrue (is_name o.name) × IsFineHead o

-- heads of operators, whose numbers 32 bits hold
abbrev pub AreFineHeads : List OpHead → Type 0
AreFineHeads ops = (length ops < 2 ^ 32) × All IsFineHead ops

-- the code of the operator of a number, 0 where there is none
abbrev pub op_code : List OpHead → ℕ → ℕ
op_code heads op = option_map_or (λ o. o.code) (numbered heads op) 0

-- a head that a call is of: it takes so many arguments and ticks, and has this code
pub record IsHeadOf (args ticks code : ℕ) (head : OpHead) : Type 0 where
  pub same_args : head.args ≡ args
  pub same_ticks : head.ticks ≡ ticks
  pub same_code : head.code ≡ code

-- each call of an expression is of the head that its number has among these
abbrev mutual
  pub ExprCallsOf : List OpHead → ExprTree → Type 0
  ExprCallsOf heads (num n) = Unit {0}
  ExprCallsOf heads (local i) = Unit {0}
  ExprCallsOf heads (var i) = Unit {0}
  ExprCallsOf heads (neg e) = ExprCallsOf heads e
  ExprCallsOf heads (lnot e) = ExprCallsOf heads e
  ExprCallsOf heads (two op l r) = ExprCallsOf heads l × ExprCallsOf heads r
  ExprCallsOf heads (call op code ticks args) = IsSomeAnd (numbered heads op) (IsHeadOf (exprs_count args) ticks code) × ExprsCallsOf heads args

  pub ExprsCallsOf : List OpHead → ExprsTree → Type 0
  ExprsCallsOf heads no_exprs = Unit {0}
  ExprsCallsOf heads (more_exprs e rest) = ExprCallsOf heads e × ExprsCallsOf heads rest

-- and so each call of a statement and of a block
abbrev mutual
  pub StmtCallsOf : List OpHead → StmtTree → Type 0
  StmtCallsOf heads (set_local i e) = ExprCallsOf heads e
  StmtCallsOf heads (set_var i e) = ExprCallsOf heads e
  StmtCallsOf heads (send o es) = ExprsCallsOf heads es
  StmtCallsOf heads (if_only e first) = ExprCallsOf heads e × BlockCallsOf heads first
  StmtCallsOf heads (if_else e first second) = ExprCallsOf heads e × BlockCallsOf heads first × BlockCallsOf heads second
  StmtCallsOf heads (repeat e most body) = ExprCallsOf heads e × BlockCallsOf heads body

  pub BlockCallsOf : List OpHead → BlockTree → Type 0
  BlockCallsOf heads empty = Unit {0}
  BlockCallsOf heads (more a rest) = StmtCallsOf heads a × BlockCallsOf heads rest

-- the heads are the graph's: each call of a handler is of the head that its number has
abbrev pub AreHeadsOf : List OpHead → GraphTree → Type 0
AreHeadsOf heads graph = All (λ p. BlockCallsOf heads p.body) graph.ports
