-- The lines of variables of which none is left.
use Rattle.std.proofs.Common.{◌≡◌, ℕ, ℤ, ◌⊎◌, List, [], ◌∷◌, ◌++◌, refl, sym, ap, ◌∙◌, ⊎_elim, append-nil}
use Rattle.yt_graph.specs.declared.graph.Var.{Var}
use Rattle.yt_cmd_run.specs.Runs.{var_lines}

no_values : (vars : List Var) → var_lines vars [] ≡ []
no_values [] = refl
no_values (var ∷ vars) = refl

no_lines : (vars : List Var) (values : List ℤ) → (vars ≡ []) ⊎ (values ≡ []) → var_lines vars values ≡ []
no_lines vars values left =
    ⊎_elim
    (λ (e : vars ≡ []). ap (λ (vs : List Var). var_lines vs values) e)
    (λ (e : values ≡ []). ap (λ (ns : List ℤ). var_lines vars ns) e ∙ no_values vars)
    left

-- where no variable or no value is left, all lines are put
pub all_put : (text all : List ℕ) (vars : List Var) (values : List ℤ) → (vars ≡ []) ⊎ (values ≡ []) → text ++ var_lines vars values ≡ all → text ≡ all
all_put text all vars values left so =
    let none : text ++ var_lines vars values ≡ text = ap (λ (end : List ℕ). text ++ end) (no_lines vars values left) ∙ append-nil text in
    sym none ∙ so
