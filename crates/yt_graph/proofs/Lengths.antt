-- A run keeps the number of locals and of variables.
use Rattle.std.proofs.Common.{◌≡◌, ℕ, zero, suc, ◌+◌, List, length, refl, ◌∙◌}
use Rattle.std.specs.Prelude.{Bool, true, false, ℤ}
use Rattle.std.proofs.Math.ListN.{length-set}
use Rattle.yt_graph.specs.Picture.{StmtTree, set_local, set_var, send, if_only, if_else, repeat, BlockTree, empty, more, PortTree, GraphTree}
use Rattle.yt_graph.specs.Meaning.{Run, expr_value, expr_ticks, spend, is_not_zero, choose, turns_of, turns, stmt_run, block_run, start, handling}

-- the same numbers of locals and variables
pub record SameSize (s t : Run) : Type 0 where
  pub locals : length t.locals ≡ length s.locals
  pub vars : length t.vars ≡ length s.vars

same_trans : (s t u : Run) → SameSize s t → SameSize t u → SameSize s u
same_trans s t u a b = record { locals = b.locals ∙ a.locals; vars = b.vars ∙ a.vars }

abbrev Keeps : (Run → Run) → Type 0
Keeps f = (s : Run) → SameSize s (f s)

turns_keeps : (n : ℕ) (body : Run → Run) → Keeps body → Keeps (turns n body)
turns_keeps zero body each s = record { locals = refl; vars = refl }
turns_keeps (suc n) body each s = same_trans s (body s) _ (each s) (turns_keeps n body each (body s))

choose_keeps : (z : Bool) (first second : Run → Run) → Keeps first → Keeps second → Keeps (choose z first second)
choose_keeps true first second f g s = f s
choose_keeps false first second f g s = g s

-- ticks are no matter of size
spent : (n : ℕ) (f : Run → Run) → Keeps f → Keeps (λ s. f (spend n s))
spent n f each s = let k = each (spend n s) in record { locals = k.locals; vars = k.vars }

mutual
  pub stmt_keeps : (a : StmtTree) → Keeps (stmt_run a)
  stmt_keeps (set_local i e) s = record { locals = length-set s.locals i _; vars = refl }
  stmt_keeps (set_var i e) s = record { locals = refl; vars = length-set s.vars i _ }
  stmt_keeps (send o es) s = record { locals = refl; vars = refl }
  stmt_keeps (if_only e first) s =
      spent (expr_ticks e + 1) (choose (is_not_zero (expr_value e s.locals s.vars)) (block_run first) (λ t. t)) (choose_keeps (is_not_zero (expr_value e s.locals s.vars)) (block_run first) (λ t. t) (block_keeps first) (λ t. record { locals = refl; vars = refl })) s
  stmt_keeps (if_else e first second) s =
      spent (expr_ticks e + 1) (choose (is_not_zero (expr_value e s.locals s.vars)) (λ t. spend 1 (block_run first t)) (block_run second)) (choose_keeps (is_not_zero (expr_value e s.locals s.vars)) (λ t. spend 1 (block_run first t)) (block_run second) (λ t. let k = block_keeps first t in record { locals = k.locals; vars = k.vars }) (block_keeps second)) s
  stmt_keeps (repeat e most body) s =
      let n = turns_of (expr_value e s.locals s.vars) most in
      spent (expr_ticks e + 1) (turns n (λ t. spend 1 (block_run body t))) (turns_keeps n (λ t. spend 1 (block_run body t)) (λ t. let k = block_keeps body t in record { locals = k.locals; vars = k.vars })) s

  pub block_keeps : (b : BlockTree) → Keeps (block_run b)
  block_keeps empty s = record { locals = refl; vars = refl }
  block_keeps (more a rest) s = same_trans s (stmt_run a s) _ (stmt_keeps a s) (block_keeps rest (stmt_run a s))

-- a handling keeps the number of variables
pub handling_vars : (graph : GraphTree) (port : PortTree) (msg vars : List ℤ) → length (handling graph port msg vars).vars ≡ length vars
handling_vars graph port msg vars = (block_keeps port.body (start port.locals msg vars)).vars
