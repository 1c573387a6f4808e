-- The steps of a walk over the statements and the parameters of a handler.
use Rattle.std.proofs.Common.{◌≡◌, ℕ, ◌-◌, ◌≤◌, List, [], ◌∷◌, ◌++◌, length, take, Bool, true, false, refl, sym, ap, ◌∙◌, arith, if◌then◌else◌}
use Rattle.std.proofs.lemmas.List.{length-append, take-append-le}
use Rattle.yt_graph.specs.declared.ast.Word.{Word}
use Rattle.yt_graph.specs.AstPicture.{AstStmtTree, let_local, assign, send_on, when_only, when_else, turns, AstBlockTree, more_stmts}
use Rattle.yt_table.specs.Tables.{is_among, with_name}
use Rattle.yt_name_faults.specs.Handlers.{Env, left_after, left_after_block, visible_after, visible_params, local_faults, stmt_faults, block_faults, params_faults}

-- one name more leaves those before it
name_longer : (name : List ℕ) (v : List (List ℕ)) → length v ≤ length (with_name name v)
name_longer name v = by (is_among name v)
  where
    by : (b : Bool) → length v ≤ length (if b then v else v ++ name ∷ [])
    by true = omega arith
    by false = omega (arith, length-append v (name ∷ []))

name_take : (n : ℕ) (name : List ℕ) (v : List (List ℕ)) → n ≤ length v → take n (with_name name v) ≡ take n v
name_take n name v h = by (is_among name v)
  where
    by : (b : Bool) → take n (if b then v else v ++ name ∷ []) ≡ take n v
    by true = refl
    by false = take-append-le n v (name ∷ []) h

pub visible_longer : (v : List (List ℕ)) (s : AstStmtTree) → length v ≤ length (visible_after v s)
visible_longer v (let_local w e) = name_longer w.text v
visible_longer v (assign w e) = omega arith
visible_longer v (send_on w es) = omega arith
visible_longer v (when_only e first) = omega arith
visible_longer v (when_else e first second) = omega arith
visible_longer v (turns e most body) = omega arith

pub visible_take : (n : ℕ) (v : List (List ℕ)) (s : AstStmtTree) → n ≤ length v → take n (visible_after v s) ≡ take n v
visible_take n v (let_local w e) h = name_take n w.text v h
visible_take n v (assign w e) h = refl
visible_take n v (send_on w es) h = refl
visible_take n v (when_only e first) h = refl
visible_take n v (when_else e first second) h = refl
visible_take n v (turns e most body) h = refl

-- a block before its first statement, with what is visible and left behind it
module _ (env : Env) (v v_after : List (List ℕ)) (l l_after : ℕ) (s : AstStmtTree) (rest all : AstBlockTree)
    (tree : all ≡ more_stmts s rest) (visible : v_after ≡ visible_after v s) (left : l_after ≡ left_after l s) where
  pub block_cut : block_faults env v l all ≡ stmt_faults env v l s ++ block_faults env v_after l_after rest
  block_cut =
      ap (block_faults env v l) tree
      ∙ ap (λ x. stmt_faults env v l s ++ block_faults env x (left_after l s) rest) (sym visible)
      ∙ ap (λ x. stmt_faults env v l s ++ block_faults env v_after x rest) (sym left)

  pub left_cut : left_after_block l_after rest ≡ left_after_block l all
  left_cut = ap (λ x. left_after_block x rest) left ∙ sym (ap (left_after_block l) tree)

-- parameters before the first of them
module _ (env : Env) (v v_after : List (List ℕ)) (l l_after : ℕ) (p : Word) (rest all : List Word)
    (list : all ≡ p ∷ rest) (visible : v_after ≡ with_name p.text v) (left : l_after ≡ l - 1) where
  pub params_cut : params_faults env v l all ≡ local_faults env v l p ++ params_faults env v_after l_after rest
  params_cut =
      ap (params_faults env v l) list
      ∙ ap (λ x. local_faults env v l p ++ params_faults env x (l - 1) rest) (sym visible)
      ∙ ap (λ x. local_faults env v l p ++ params_faults env v_after x rest) (sym left)

  pub visible_cut : visible_params v_after rest ≡ visible_params v all
  visible_cut = ap (λ x. visible_params x rest) visible ∙ sym (ap (visible_params v) list)
