-- The writes of a run change nothing else of what follows.
use Rattle.std.proofs.Common.{◌≡◌, ℕ, zero, suc, ◌+◌, refl, sym, ap, ◌∙◌}
use Rattle.std.specs.Prelude.{Bool, true, false}
use Rattle.yt_graph.specs.Picture.{StmtTree, set_local, set_var, send, if_only, if_else, repeat, BlockTree, empty, more}
use Rattle.yt_graph.specs.Meaning.{Run, expr_value, expr_ticks, spend, is_not_zero, choose, turns_of, turns, stmt_run, block_run}
use Rattle.yt_mean.specs.Inside.Progress.{progress_of, run_of, after, turn_run}

-- a step whose progress hangs on the progress before it alone
abbrev pub Forgets : (Run → Run) → Type 0
Forgets f = (s : Run) → progress_of (f s) ≡ after f (progress_of s)

choose_forgets : (z : Bool) (first second : Run → Run) → Forgets first → Forgets second → Forgets (choose z first second)
choose_forgets true first second f g s = f s
choose_forgets false first second f g s = g s

pub turns_forgets : (n : ℕ) (body : Run → Run) → Forgets body → Forgets (turns n body)
turns_forgets zero body each s = refl
turns_forgets (suc n) body each s =
    turns_forgets n body each (body s)
    ∙ ap (after (turns n body)) (each s)
    ∙ sym (turns_forgets n body each (body (run_of (progress_of s))))

-- a turn takes one tick more than its body
pub turn_forgets : (b : BlockTree) → Forgets (block_run b) → Forgets (turn_run b)
turn_forgets b h s = ap (after (spend 1)) (h s)

mutual
  pub stmt_forgets : (a : StmtTree) → Forgets (stmt_run a)
  stmt_forgets (set_local i e) s = refl
  stmt_forgets (set_var i e) s = refl
  stmt_forgets (send o es) s = refl
  stmt_forgets (if_only e first) s =
      choose_forgets (is_not_zero (expr_value e s.locals s.vars)) (block_run first) (λ t. t) (block_forgets first) (λ t. refl) (spend (expr_ticks e + 1) s)
  stmt_forgets (if_else e first second) s =
      choose_forgets (is_not_zero (expr_value e s.locals s.vars)) (turn_run first) (block_run second) (turn_forgets first (block_forgets first)) (block_forgets second) (spend (expr_ticks e + 1) s)
  stmt_forgets (repeat e most body) s =
      turns_forgets (turns_of (expr_value e s.locals s.vars) most) (turn_run body) (turn_forgets body (block_forgets body)) (spend (expr_ticks e + 1) s)

  pub block_forgets : (b : BlockTree) → Forgets (block_run b)
  block_forgets empty s = refl
  block_forgets (more a rest) s =
      block_forgets rest (stmt_run a s)
      ∙ ap (after (block_run rest)) (stmt_forgets a s)
      ∙ sym (block_forgets rest (stmt_run a (run_of (progress_of s))))
