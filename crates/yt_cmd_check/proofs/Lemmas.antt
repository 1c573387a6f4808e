-- One verdict is due where a graph's tasks are asked for, or whether they fit, and some is.
use Rattle.std.proofs.Common.{◌≡◌, ℕ, List, refl}
use Rattle.yt_rates.specs.Tables.{tasks_of}
use Rattle.yt_answer.specs.declared.verdict.Verdict.TheVariants.{Done}
use Rattle.yt_fitting.specs.Loads.{LoadCause, load_verdict}
use Rattle.yt_fitting.proofs.Lemmas.{one_load, some_load}
use Rattle.yt_admit.proofs.Lemmas.{one_graph, some_graph}
use Rattle.yt_cmd_check.specs.Check.{CheckCause, check_verdict}
use Rattle.yt_cmd_check.specs.Tasks.{TasksCause, tasks_verdict}

-- two causes have one verdict

pub one_tasks : (graph : List ℕ) (a b : TasksCause graph) → tasks_verdict a ≡ tasks_verdict b
one_tasks graph a b = one_graph {text = graph} {Asked = λ items g. Unit {0}} (λ items g why. Done) (λ items g p q. refl) a b

pub one_check : (graph : List ℕ) (a b : CheckCause graph) → check_verdict a ≡ check_verdict b
one_check graph a b =
    one_graph {text = graph} {Asked = λ items g. LoadCause (tasks_of g) (Unit {0})} (λ items g why. load_verdict (λ fit. Done) why)
    (λ items g p q. one_load (tasks_of g) (Unit {0}) (λ fit. Done) (λ x y. refl) p q) a b

-- there is a cause

pub some_tasks : (graph : List ℕ) → (TasksCause graph → ⊥) → ⊥
some_tasks graph none = some_graph graph (λ items g. Unit {0}) (λ items g is not. not tt) none

pub some_check : (graph : List ℕ) → (CheckCause graph → ⊥) → ⊥
some_check graph none =
    some_graph graph (λ items g. LoadCause (tasks_of g) (Unit {0})) (λ items g is not. some_load (tasks_of g) (Unit {0}) (λ no. no tt) not) none
