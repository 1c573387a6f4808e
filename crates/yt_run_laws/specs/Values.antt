-- Values: numbers of 64 bits with a sign; and graphs and traces that have no other numbers.
use Rattle.std.specs.Prelude.{ℤ, List, FitsSigned}
use Rattle.std.specs.Int.{w64}
use Rattle.std.specs.List.{All}
use Rattle.yt_graph.specs.Picture.{ExprTree, num, local, var, neg, lnot, two, call, ExprsTree, no_exprs, more_exprs, StmtTree, set_local, set_var, send, if_only, if_else, repeat, BlockTree, empty, more, GraphTree}
use Rattle.yt_trace.specs.declared.message.Message.{Message}
use Rattle.yt_serial.specs.Premises.{CanRun}

-- a number of 64 bits with its sign
abbrev pub IsValue : ℤ → Type 0
IsValue n = FitsSigned w64 n

abbrev pub AreValues : List ℤ → Type 0
AreValues ns = All IsValue ns

-- each number that an expression writes is a value
abbrev mutual
  pub ExprWritesValues : ExprTree → Type 0
  ExprWritesValues (num n) = IsValue n
  ExprWritesValues (local i) = Unit {0}
  ExprWritesValues (var i) = Unit {0}
  ExprWritesValues (neg e) = ExprWritesValues e
  ExprWritesValues (lnot e) = ExprWritesValues e
  ExprWritesValues (two op l r) = ExprWritesValues l × ExprWritesValues r
  ExprWritesValues (call op code ticks args) = ExprsWriteValues args

  pub ExprsWriteValues : ExprsTree → Type 0
  ExprsWriteValues no_exprs = Unit {0}
  ExprsWriteValues (more_exprs e rest) = ExprWritesValues e × ExprsWriteValues rest

-- and each that a statement or a block writes
abbrev mutual
  pub StmtWritesValues : StmtTree → Type 0
  StmtWritesValues (set_local i e) = ExprWritesValues e
  StmtWritesValues (set_var i e) = ExprWritesValues e
  StmtWritesValues (send out es) = ExprsWriteValues es
  StmtWritesValues (if_only e first) = ExprWritesValues e × BlockWritesValues first
  StmtWritesValues (if_else e first second) = ExprWritesValues e × BlockWritesValues first × BlockWritesValues second
  StmtWritesValues (repeat e most body) = ExprWritesValues e × BlockWritesValues body

  pub BlockWritesValues : BlockTree → Type 0
  BlockWritesValues empty = Unit {0}
  BlockWritesValues (more s rest) = StmtWritesValues s × BlockWritesValues rest

-- a graph and a trace that can be run, where the numbers of the handlers' texts, the starts of variables and the numbers of messages are values
pub record CanRunOnValues (g : GraphTree) (trace : List Message) : Type 0 where
  pub can : CanRun g trace
  pub handlers : All (λ p. BlockWritesValues p.body) g.ports
  pub starts : All (λ v. IsValue v.start) g.vars
  pub messages : All (λ m. AreValues m.values) trace
