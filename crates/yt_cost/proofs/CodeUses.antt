-- Code uses the very variables that its tree names.
use Rattle.std.proofs.Common.{◌≡◌, ℕ, ◌+◌, List, [], ◌∷◌, ◌++◌, refl, sym, ap, ◌∙◌, append_assoc, append-nil}
use Rattle.yt_graph.specs.Picture.{ExprTree, num, local, var, neg, lnot, two, call, ExprsTree, no_exprs, more_exprs, StmtTree, set_local, set_var, send, if_only, if_else, repeat, BlockTree, empty, more, PortTree, GraphTree}
use Rattle.yt_code.specs.declared.instr.Instr.{Instr}
use Rattle.yt_code.specs.declared.instr.Instr.TheVariants.{SetLocal, SetVar, Neg, Not, Two, Call, Send, JumpZero, Jump, Loop, Again, End}
use Rattle.yt_graph.specs.WellFormed.{exprs_count}
use Rattle.yt_cost.specs.CodeSizes.{expr_size, stmt_size, block_size}
use Rattle.yt_cost.specs.Code.{expr_code, exprs_code, stmt_code, block_code, port_code}
use Rattle.yt_cost.specs.CodeVars.{expr_vars, exprs_vars, stmt_vars, block_vars, instr_vars, instrs_vars, UsesVarsOf}

instrs_vars-append : (a b : List Instr) → instrs_vars (a ++ b) ≡ instrs_vars a ++ instrs_vars b
instrs_vars-append [] b = refl
instrs_vars-append (i ∷ a) b =
    ap (λ l. instr_vars i ++ l) (instrs_vars-append a b) ∙ sym (append_assoc (instr_vars i) (instrs_vars a) (instrs_vars b))

both : (a b : List Instr) (x y : List ℕ) → instrs_vars a ≡ x → instrs_vars b ≡ y → instrs_vars (a ++ b) ≡ x ++ y
both a b x y e f = instrs_vars-append a b ∙ ap (λ l. l ++ instrs_vars b) e ∙ ap (λ l. x ++ l) f

-- more instructions that use no variable
no_more : (a b : List Instr) (x : List ℕ) → instrs_vars a ≡ x → instrs_vars b ≡ [] → instrs_vars (a ++ b) ≡ x
no_more a b x e f = both a b x [] e f ∙ append-nil x

mutual
  expr_uses : (e : ExprTree) → instrs_vars (expr_code e) ≡ expr_vars e
  expr_uses (num n) = refl
  expr_uses (local i) = refl
  expr_uses (var i) = refl
  expr_uses (neg e) = no_more (expr_code e) (Neg ∷ []) _ (expr_uses e) refl
  expr_uses (lnot e) = no_more (expr_code e) (Not ∷ []) _ (expr_uses e) refl
  expr_uses (two op l r) =
      both (expr_code l) (expr_code r ++ Two op ∷ []) _ _ (expr_uses l) (no_more (expr_code r) (Two op ∷ []) _ (expr_uses r) refl)
  expr_uses (call op code ticks args) = no_more (exprs_code args) (Call op (exprs_count args) ticks code ∷ []) _ (exprs_use args) refl

  exprs_use : (es : ExprsTree) → instrs_vars (exprs_code es) ≡ exprs_vars es
  exprs_use no_exprs = refl
  exprs_use (more_exprs e es) = both (expr_code e) (exprs_code es) _ _ (expr_uses e) (exprs_use es)

mutual
  stmt_uses : (a : StmtTree) (p : ℕ) → instrs_vars (stmt_code a p) ≡ stmt_vars a
  stmt_uses (set_local i e) p = no_more (expr_code e) (SetLocal i ∷ []) _ (expr_uses e) refl
  stmt_uses (set_var i e) p = both (expr_code e) (SetVar i ∷ []) _ _ (expr_uses e) refl
  stmt_uses (send o es) p = no_more (exprs_code es) (Send o (exprs_count es) ∷ []) _ (exprs_use es) refl
  stmt_uses (if_only e first) p =
      both (expr_code e) (JumpZero _ ∷ block_code first _) _ _ (expr_uses e) (block_uses first (p + (expr_size e + 1)))
  stmt_uses (if_else e first second) p =
      let a = block_code first (p + (expr_size e + 1)) in
      let b = block_code second (p + (expr_size e + 1 + (block_size first + 1))) in
      both (expr_code e) (JumpZero _ ∷ (a ++ (Jump _ ∷ b))) _ _ (expr_uses e) (both a (Jump _ ∷ b) _ _ (block_uses first (p + (expr_size e + 1))) (block_uses second (p + (expr_size e + 1 + (block_size first + 1)))))
  stmt_uses (repeat e most body) p =
      let a = block_code body (p + (expr_size e + 1)) in
      both (expr_code e) (Loop most _ ∷ (a ++ Again _ ∷ [])) _ _ (expr_uses e) (no_more a (Again _ ∷ []) _ (block_uses body (p + (expr_size e + 1))) refl)

  block_uses : (b : BlockTree) (p : ℕ) → instrs_vars (block_code b p) ≡ block_vars b
  block_uses empty p = refl
  block_uses (more a rest) p =
      both (stmt_code a p) (block_code rest (p + stmt_size a)) _ _ (stmt_uses a p) (block_uses rest (p + stmt_size a))

pub uses_vars : (graph : GraphTree) (port : PortTree) → UsesVarsOf graph (port_code graph port) port
uses_vars graph port = no_more (block_code port.body 0) (End ∷ []) (block_vars port.body) (block_uses port.body 0) refl
