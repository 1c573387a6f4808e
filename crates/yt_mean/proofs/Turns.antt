-- The steps of a walk.
use Rattle.std.proofs.Common.{◌≡◌, ℕ, suc, ◌+◌, ◌-◌, ◌*◌, ◌<◌, ◌^◌, List, sym, ap, ◌∙◌, subst, arith, length, drop, get_or, add-one}
use Rattle.std.proofs.Math.Seq.{drop-cons}
use Rattle.yt_graph.specs.declared.stmt.Stmt.{Stmt}
use Rattle.yt_graph.specs.Picture.{BlockTree, StmtTree, more, stmt_tree, block_tree}
use Rattle.yt_graph.specs.Meaning.{turns, stmt_run, block_run}
use Rattle.yt_graph.specs.Cost.{block_cost}
use Rattle.yt_graph.proofs.Lemmas.{stmt_ticks, block_ticks}
use Rattle.yt_graph.proofs.Lemmas.{stmt_keeps, block_keeps}
use Rattle.yt_mean.specs.Inside.Progress.{Progress, run_of, after, turn_run}
use Rattle.yt_mean.specs.Inside.Within.{IsBlockWithin}
use Rattle.yt_mean.proofs.Forget.{turn_forgets, block_forgets, turns_forgets}

-- a block before its statement at i
pub front : (b : List Stmt) (i : ℕ) (s : Stmt) → i < length b → s ≡ get_or b i s → block_tree (drop i b) ≡ more (stmt_tree s) (block_tree (drop (i + 1) b))
front b i s lt e =
    ap block_tree (drop-cons b i s lt)
    ∙ ap (λ x. more (stmt_tree x) (block_tree (drop (suc i) b))) (sym e)
    ∙ ap (λ n. more (stmt_tree s) (block_tree (drop n b))) (sym (add-one i))

-- a block before one of its statements
module _ (rest : BlockTree) (a : StmtTree) (w v : Progress) (e : v ≡ after (stmt_run a) w) where
  pub next_within : (all : BlockTree) → all ≡ more a rest → IsBlockWithin (length w.locals) (length w.vars) all → IsBlockWithin (length v.locals) (length v.vars) rest
  next_within all tree h =
      let k = stmt_keeps a (run_of w) in
      let both = subst (IsBlockWithin (length w.locals) (length w.vars)) tree h in
      rw (e, k.locals, k.vars) both.1

  pub next_room : (all : BlockTree) → all ≡ more a rest → w.ticks + block_cost all < 2 ^ 64 → v.ticks + block_cost rest < 2 ^ 64
  next_room all tree h = rw e (omega (arith, ap block_cost tree, stmt_ticks a (run_of w)))

  pub next_run : (all : BlockTree) → all ≡ more a rest → after (block_run rest) v ≡ after (block_run all) w
  next_run all tree =
      ap (after (block_run rest)) e
      ∙ sym (block_forgets rest (stmt_run a (run_of w)))
      ∙ sym (ap (λ t. after (block_run t) w) tree)

-- a loop before one of its turns
module _ (body : BlockTree) (n i : ℕ) (lt : i < n) (w v : Progress) (e : v ≡ after (turn_run body) w) where
  left_over : n - i ≡ suc (n - (i + 1))
  left_over = omega arith

  pub turn_within : IsBlockWithin (length w.locals) (length w.vars) body → IsBlockWithin (length v.locals) (length v.vars) body
  turn_within h = let k = block_keeps body (run_of w) in rw (e, k.locals, k.vars) h

  pub turn_room : w.ticks + (n - i) * (block_cost body + 1) < 2 ^ 64 → v.ticks + (n - (i + 1)) * (block_cost body + 1) < 2 ^ 64
  turn_room h = rw e (omega (arith, block_ticks body (run_of w), ap (λ k. k * (block_cost body + 1)) left_over))

  pub turn_goes : after (turns (n - (i + 1)) (turn_run body)) v ≡ after (turns (n - i) (turn_run body)) w
  turn_goes =
      ap (after (turns (n - (i + 1)) (turn_run body))) e
      ∙ sym (turns_forgets (n - (i + 1)) (turn_run body) (turn_forgets body (block_forgets body)) (turn_run body (run_of w)))
      ∙ sym (ap (λ k. after (turns k (turn_run body)) w) left_over)

-- there is room for the tick after a turn's body
pub turn_spends : (body : BlockTree) (n i : ℕ) (w v : Progress) → i < n → v ≡ after (block_run body) w → w.ticks + (n - i) * (block_cost body + 1) < 2 ^ 64 → v.ticks + 1 < 2 ^ 64
turn_spends body n i w v lt e h =
    let left : n - i ≡ suc (n - (i + 1)) = omega arith in
    rw e (omega (arith, block_ticks body (run_of w), ap (λ k. k * (block_cost body + 1)) left))
