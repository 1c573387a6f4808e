-- A handler's greatest cost and greatest number of sends, by recursion on its picture.
use Rattle.std.specs.Prelude.{ℕ, ◌+◌, ◌*◌, ◌≤◌, max, ℤ, List, [], ◌∷◌, ◌==◌, if◌then◌else◌}
use Rattle.yt_graph.specs.declared.handled.SendItem.{SendItem}
use Rattle.yt_graph.specs.Picture.{StmtTree, set_local, set_var, send, if_only, if_else, repeat, BlockTree, empty, more, PortTree, GraphTree}
use Rattle.yt_graph.specs.Meaning.{expr_ticks, all_ticks, handling}

-- the most ticks that a statement or a block can take
abbrev mutual
  pub stmt_cost : StmtTree → ℕ
  stmt_cost (set_local i e) = expr_ticks e + 1
  stmt_cost (set_var i e) = expr_ticks e + 1
  stmt_cost (send o es) = all_ticks es + 1
  stmt_cost (if_only e first) = expr_ticks e + 1 + block_cost first
  stmt_cost (if_else e first second) = expr_ticks e + 1 + max (block_cost first + 1) (block_cost second)
  stmt_cost (repeat e most body) = expr_ticks e + 1 + most * (block_cost body + 1)

  pub block_cost : BlockTree → ℕ
  block_cost empty = 0
  block_cost (more a rest) = stmt_cost a + block_cost rest

-- the most ticks that one handling can take: the block, and one tick for the end
abbrev pub greatest_cost : PortTree → ℕ
greatest_cost port = block_cost port.body + 1

-- 1 where two numbers are equal
abbrev pub one_if_same : ℕ → ℕ → ℕ
one_if_same a b = if a == b then 1 else 0

-- the most messages that a statement or a block can send on an out
abbrev mutual
  pub stmt_sends : ℕ → StmtTree → ℕ
  stmt_sends out (set_local i e) = 0
  stmt_sends out (set_var i e) = 0
  stmt_sends out (send o es) = one_if_same out o
  stmt_sends out (if_only e first) = block_sends out first
  stmt_sends out (if_else e first second) = max (block_sends out first) (block_sends out second)
  stmt_sends out (repeat e most body) = most * block_sends out body

  pub block_sends : ℕ → BlockTree → ℕ
  block_sends out empty = 0
  block_sends out (more a rest) = stmt_sends out a + block_sends out rest

-- the most messages that one handling can send on an out, from 1
abbrev pub greatest_sends : PortTree → ℕ → ℕ
greatest_sends port out = block_sends out port.body

-- how many of these were sent on an out
abbrev pub sent_on : ℕ → List SendItem → ℕ
sent_on out [] = 0
sent_on out (s ∷ rest) = one_if_same out s.out + sent_on out rest

-- no handling takes more ticks than the greatest cost
abbrev pub TicksWithinCost : Type 0
TicksWithinCost = (graph : GraphTree) (port : PortTree) (msg vars : List ℤ) → (handling graph port msg vars).ticks ≤ greatest_cost port

-- no handling sends more messages on an out than the greatest number
abbrev pub SendsWithinGreatest : Type 0
SendsWithinGreatest =
    (graph : GraphTree) (port : PortTree) (out : ℕ) (msg vars : List ℤ) → sent_on out (handling graph port msg vars).sends ≤ greatest_sends port out
