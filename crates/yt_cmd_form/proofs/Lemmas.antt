-- One verdict is due where the canonical text of a graph is asked for, and some is.
use Rattle.std.proofs.Common.{◌≡◌, ℕ, List, refl}
use Rattle.yt_answer.specs.declared.verdict.Verdict.TheVariants.{Done}
use Rattle.yt_admit.proofs.Lemmas.{one_tree, some_tree}
use Rattle.yt_cmd_form.specs.Form.{FormCause, form_verdict}

-- two causes have one verdict
pub one_form : (graph : List ℕ) (a b : FormCause graph) → form_verdict a ≡ form_verdict b
one_form graph a b = one_tree {text = graph} {Asked = λ items. Unit {0}} (λ items why. Done) (λ items p q. refl) a b

-- there is a cause
pub some_form : (graph : List ℕ) → (FormCause graph → ⊥) → ⊥
some_form graph none = some_tree graph (λ items. Unit {0}) (λ items is not. not tt) none
