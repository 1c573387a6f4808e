-- The steps of resolving the statements of a handler.
use Rattle.std.proofs.Common.{◌≡◌, ℕ, ◌-◌, ◌≤◌, List, [], ◌∷◌, length, take, refl, sym, ap, ◌∙◌, arith}
use Rattle.std.proofs.lemmas.List.{length-append, take-append-le}
use Rattle.yt_graph.specs.AstPicture.{AstStmtTree, let_local, assign, send_on, when_only, when_else, turns, AstBlockTree, no_stmts, more_stmts}
use Rattle.yt_graph.specs.Picture.{more}
use Rattle.yt_name_faults.specs.Handlers.{left_after, left_after_block}
use Rattle.yt_names.specs.Resolved.{NamedPlace, Scope, locals_after, resolved_stmt, resolved_block}

pub locals_longer : (v : List NamedPlace) (l : ℕ) (s : AstStmtTree) → length v ≤ length (locals_after v l s)
locals_longer v l (let_local w e) = omega (arith, length-append v (record { text = w.text; place = 16 - l } ∷ []))
locals_longer v l (assign w e) = omega arith
locals_longer v l (send_on w es) = omega arith
locals_longer v l (when_only e first) = omega arith
locals_longer v l (when_else e first second) = omega arith
locals_longer v l (turns e most body) = omega arith

pub locals_take : (n : ℕ) (v : List NamedPlace) (l : ℕ) (s : AstStmtTree) → n ≤ length v → take n (locals_after v l s) ≡ take n v
locals_take n v l (let_local w e) h = take-append-le n v (record { text = w.text; place = 16 - l } ∷ []) h
locals_take n v l (assign w e) h = refl
locals_take n v l (send_on w es) h = refl
locals_take n v l (when_only e first) h = refl
locals_take n v l (when_else e first second) h = refl
locals_take n v l (turns e most body) h = refl

-- a block before its first statement, with what is visible and left behind it
module _ (scope : Scope) (v v_after : List NamedPlace) (l l_after : ℕ) (s : AstStmtTree) (rest all : AstBlockTree)
    (tree : all ≡ more_stmts s rest) (visible : v_after ≡ locals_after v l s) (left : l_after ≡ left_after l s) where
  pub resolved_cut : resolved_block scope v l all ≡ more (resolved_stmt scope v l s) (resolved_block scope v_after l_after rest)
  resolved_cut =
      ap (resolved_block scope v l) tree
      ∙ ap (λ x. more (resolved_stmt scope v l s) (resolved_block scope x (left_after l s) rest)) (sym visible)
      ∙ ap (λ x. more (resolved_stmt scope v l s) (resolved_block scope v_after x rest)) (sym left)

  pub left_over : left_after_block l_after rest ≡ left_after_block l all
  left_over = ap (λ x. left_after_block x rest) left ∙ sym (ap (left_after_block l) tree)

-- no statement gives locals back
mutual
  pub left_falls : (l : ℕ) (s : AstStmtTree) → left_after l s ≤ l
  left_falls l (let_local w e) = omega arith
  left_falls l (assign w e) = omega arith
  left_falls l (send_on w es) = omega arith
  left_falls l (when_only e first) = block_falls l first
  left_falls l (when_else e first second) = omega (arith, block_falls l first, block_falls (left_after_block l first) second)
  left_falls l (turns e most body) = block_falls l body

  pub block_falls : (l : ℕ) (b : AstBlockTree) → left_after_block l b ≤ l
  block_falls l no_stmts = omega arith
  block_falls l (more_stmts s rest) = omega (arith, left_falls l s, block_falls (left_after l s) rest)
