-- What is due to a graph's text, from what is due to its tree and to its graph; and that one verdict is due, and some.
use Rattle.std.proofs.Common.{◌≡◌, ℕ, ◌≤◌, Bool, true, false, List, length, refl, sym, ap, subst, ◌∙◌}
use Rattle.std.proofs.lemmas.List.{length-map}
use Rattle.std.specs.Prelude.{IfOk, Result, Ok, Err, codes}
use Rattle.yt_graph.specs.AstPicture.{ItemTree}
use Rattle.yt_graph.specs.Labels.{label_of, labels_of}
use Rattle.yt_graph.specs.Picture.{GraphTree, graph_tree}
use Rattle.yt_set.specs.declared.task.Task.{Task}
use Rattle.yt_set.specs.Tasks.{Fits, hyperperiod}
use Rattle.yt_fits.specs.declared.unfit.Unfit.{Unfit}
use Rattle.yt_fits.specs.Loads.{hyperperiod_limit}
use Rattle.yt_fits.specs.Unfits.{IsReason}
use Rattle.yt_rates.specs.Acceptance.{Parts, IsAccepted}
use Rattle.yt_rates.specs.Tables.{task_of, tasks_of}
use Rattle.yt_answer.specs.declared.answer.Answer.{Answer}
use Rattle.yt_answer.specs.declared.verdict.Verdict.{Verdict}
use Rattle.yt_answer.specs.Due.{IsDue}
use Rattle.yt_fitting.specs.Loads.{LoadCause, unfit, fits, load_verdict, IsLoadText, unfit_verdict, IsUnfitText}
use Rattle.yt_admit.specs.Calls.{has_call}
use Rattle.yt_admit.specs.Trees.{IsTreeOf, TreeCause, not_lexed, not_spelled, calls_operator, tree, tree_verdict, IsTreeText, Unread, unread_verdict, IsUnreadText}
use Rattle.yt_admit.specs.Stages as stage
use Rattle.yt_admit.specs.Stages.{Stage, stage_of}
use Rattle.yt_admit.specs.Causes.{StageCause, misnamed, costly, misrated, rated, stage_verdict, IsStageText, GraphCause, graph_verdict, IsGraphText, IsRated, Refusal, refusal_verdict, IsRefusalText}
pub use Rattle.yt_admit.proofs.ResolvedCalls.{resolved_lacks_calls}
use Rattle.yt_admit.proofs.Texts.{not_both_ends, same_tree, not_stuck, some_end}

-- what holds of an answer makes this hold of it
pub if_ok_from : {A E : Type 0} (P Q : A → Type 0) (r : Result A E) → ((a : A) → P a → Q a) → IfOk r P → IfOk r Q
if_ok_from P Q (Ok a) f h = f a h
if_ok_from P Q (Err e) f h = tt

-- what is due to a text's tree is due to the text
pub tree_due : {text : List ℕ} {Asked : List ItemTree → Type 0} (verdict_of : (items : List ItemTree) → Asked items → Verdict) (IsText : (items : List ItemTree) → Asked items → List ℕ → Type 0)
    (items : List ItemTree) (v : Verdict) (told : List ℕ) → IsTreeOf text items → has_call items ≡ false → IsDue (verdict_of items) (IsText items) v told →
    IsDue (tree_verdict {text = text} verdict_of) (IsTreeText {text = text} IsText) v told
tree_due verdict_of IsText items v told is no_call due = record { cause = tree items is no_call due.cause; verdict = due.verdict; told = due.told }

-- what is due to a text without a tree is due, whatever is asked about trees
pub tree_refused : (text : List ℕ) {Asked : List ItemTree → Type 0} (verdict_of : (items : List ItemTree) → Asked items → Verdict) (IsText : (items : List ItemTree) → Asked items → List ℕ → Type 0)
    (v : Verdict) (told : List ℕ) → IsDue (unread_verdict {text = text}) (IsUnreadText {text = text}) v told → IsDue (tree_verdict {text = text} verdict_of) (IsTreeText {text = text} IsText) v told
tree_refused text verdict_of IsText v told due = by due.cause due.verdict due.told
  where
    by : (cause : Unread text) → v ≡ unread_verdict cause → IsUnreadText cause told → IsDue (tree_verdict {text = text} verdict_of) (IsTreeText {text = text} IsText) v told
    by (not_lexed front fault is) e line = record { cause = not_lexed front fault is; verdict = e; told = line }
    by (not_spelled tokens place lexed is) e line = record { cause = not_spelled tokens place lexed is; verdict = e; told = line }
    by (calls_operator items is call) e line = record { cause = calls_operator items is call; verdict = e; told = line }
    by (tree items is no_call why) e line = absurd why

-- what is due to a tree's graph is due to the tree
pub stage_due : {Asked : GraphTree → Type 0} (verdict_of : (graph : GraphTree) → Asked graph → Verdict) (IsText : (graph : GraphTree) → Asked graph → List ℕ → Type 0)
    (items : List ItemTree) (graph : GraphTree) (v : Verdict) (told : List ℕ) → stage_of items ≡ stage.rated graph → IsDue (verdict_of graph) (IsText graph) v told →
    IsDue (stage_verdict {items = items} verdict_of) (IsStageText {items = items} IsText) v told
stage_due verdict_of IsText items graph v told is due = record { cause = rated graph is due.cause; verdict = due.verdict; told = due.told }

-- what is due to a tree without a graph that is in order is due, whatever is asked about graphs
pub stage_refused : {Asked : GraphTree → Type 0} (verdict_of : (graph : GraphTree) → Asked graph → Verdict) (IsText : (graph : GraphTree) → Asked graph → List ℕ → Type 0)
    (items : List ItemTree) (v : Verdict) (told : List ℕ) →
    IsDue (stage_verdict {items = items} {Asked = λ graph. ⊥} (λ graph why. absurd why)) (IsStageText {items = items} {Asked = λ graph. ⊥} (λ graph why line. ⊥)) v told →
    IsDue (stage_verdict {items = items} verdict_of) (IsStageText {items = items} IsText) v told
stage_refused verdict_of IsText items v told due = by due.cause due.verdict due.told
  where
    by : (cause : StageCause items (λ graph. ⊥)) → v ≡ stage_verdict {items = items} {Asked = λ graph. ⊥} (λ graph why. absurd why) cause →
        IsStageText {items = items} {Asked = λ graph. ⊥} (λ graph why line. ⊥) cause told → IsDue (stage_verdict {items = items} verdict_of) (IsStageText {items = items} IsText) v told
    by (misnamed fault is) e line = record { cause = misnamed fault is; verdict = e; told = line }
    by (costly graph fault is) e line = record { cause = costly graph fault is; verdict = e; told = line }
    by (misrated graph fault is) e line = record { cause = misrated graph fault is; verdict = e; told = line }
    by (rated graph is why) e line = absurd why

-- what is due to a text's tree and its graph is due to the text
pub graph_due : {text : List ℕ} {Asked : List ItemTree → GraphTree → Type 0} (verdict_of : (items : List ItemTree) (graph : GraphTree) → Asked items graph → Verdict)
    (IsText : (items : List ItemTree) (graph : GraphTree) → Asked items graph → List ℕ → Type 0) (items : List ItemTree) (graph : GraphTree) (v : Verdict) (told : List ℕ) → IsRated text items graph →
    IsDue (verdict_of items graph) (IsText items graph) v told → IsDue (graph_verdict {text = text} verdict_of) (IsGraphText {text = text} IsText) v told
graph_due {text} {Asked} verdict_of IsText items graph v told is due =
    tree_due {text = text} {Asked = λ items. StageCause items (Asked items)} (λ items why. stage_verdict (verdict_of items) why) (λ items why line. IsStageText (IsText items) why line) items v told
    is.is_tree is.no_call (stage_due (verdict_of items) (IsText items) items graph v told is.stage due)

-- what is due to a text without a graph that is in order is due, whatever is asked about graphs
pub graph_refused : (text : List ℕ) {Asked : List ItemTree → GraphTree → Type 0} (verdict_of : (items : List ItemTree) (graph : GraphTree) → Asked items graph → Verdict)
    (IsText : (items : List ItemTree) (graph : GraphTree) → Asked items graph → List ℕ → Type 0) (v : Verdict) (told : List ℕ) →
    IsDue (refusal_verdict {text = text}) (IsRefusalText {text = text}) v told → IsDue (graph_verdict {text = text} verdict_of) (IsGraphText {text = text} IsText) v told
graph_refused text verdict_of IsText v told due = by due.cause due.verdict due.told
  where
    by : (cause : Refusal text) → v ≡ refusal_verdict cause → IsRefusalText cause told → IsDue (graph_verdict {text = text} verdict_of) (IsGraphText {text = text} IsText) v told
    by (not_lexed front fault is) e line = record { cause = not_lexed front fault is; verdict = e; told = line }
    by (not_spelled tokens place lexed is) e line = record { cause = not_spelled tokens place lexed is; verdict = e; told = line }
    by (calls_operator items is call) e line = record { cause = calls_operator items is call; verdict = e; told = line }
    by (tree items is no_call (misnamed fault at)) e line = record { cause = tree items is no_call (misnamed fault at); verdict = e; told = line }
    by (tree items is no_call (costly graph fault at)) e line = record { cause = tree items is no_call (costly graph fault at); verdict = e; told = line }
    by (tree items is no_call (misrated graph fault at)) e line = record { cause = tree items is no_call (misrated graph fault at); verdict = e; told = line }
    by (tree items is no_call (rated graph at why)) e line = absurd why

-- two causes of one text have one verdict

-- where two causes of one thing have one verdict, two of like things have
like_things : {X : Type 0} (Asked : X → Type 0) (of : (x : X) → Asked x → Verdict) (a b : X) → a ≡ b → ((x : X) (p q : Asked x) → of x p ≡ of x q) → (p : Asked a) (q : Asked b) → of a p ≡ of b q
like_things Asked of a b same one p q = subst (λ x. (p : Asked x) → of x p ≡ of b q) (sym same) (λ p. one b p q) p

-- a graph calls an operator or none
not_mixed : (text : List ℕ) (a b : List ItemTree) → IsTreeOf text a → IsTreeOf text b → has_call a ≡ true → has_call b ≡ false → ⊥
not_mixed text a b h k call none =
    let clash : ◌≡◌ {A = Bool} true false = sym call ∙ ap has_call (same_tree text a b h k) ∙ none in
    cc

pub one_tree : {text : List ℕ} {Asked : List ItemTree → Type 0} (of : (items : List ItemTree) → Asked items → Verdict) → ((items : List ItemTree) (p q : Asked items) → of items p ≡ of items q) →
    (a b : TreeCause text Asked) → tree_verdict of a ≡ tree_verdict of b
one_tree of one (not_lexed front fault is) (not_lexed more other too) = refl
one_tree of one (not_lexed front fault is) (not_spelled tokens place lexed too) = refl
one_tree {text} of one (not_lexed front fault is) (calls_operator items too call) = absurd (not_both_ends text front too.tokens fault is too.lexed)
one_tree {text} of one (not_lexed front fault is) (tree items too no_call why) = absurd (not_both_ends text front too.tokens fault is too.lexed)
one_tree of one (not_spelled tokens place lexed is) (not_lexed more other too) = refl
one_tree of one (not_spelled tokens place lexed is) (not_spelled more other again too) = refl
one_tree {text} of one (not_spelled tokens place lexed is) (calls_operator items too call) = absurd (not_stuck text tokens place lexed is items too)
one_tree {text} of one (not_spelled tokens place lexed is) (tree items too no_call why) = absurd (not_stuck text tokens place lexed is items too)
one_tree {text} of one (calls_operator items is call) (not_lexed more other too) = absurd (not_both_ends text more is.tokens other too is.lexed)
one_tree {text} of one (calls_operator items is call) (not_spelled tokens place lexed too) = absurd (not_stuck text tokens place lexed too items is)
one_tree of one (calls_operator items is call) (calls_operator others too again) = refl
one_tree {text} of one (calls_operator items is call) (tree others too no_call why) = absurd (not_mixed text items others is too call no_call)
one_tree {text} of one (tree items is no_call why) (not_lexed more other too) = absurd (not_both_ends text more is.tokens other too is.lexed)
one_tree {text} of one (tree items is no_call why) (not_spelled tokens place lexed too) = absurd (not_stuck text tokens place lexed too items is)
one_tree {text} of one (tree items is no_call why) (calls_operator others too call) = absurd (not_mixed text others items too is call no_call)
one_tree {text} {Asked} of one (tree items is no_call why) (tree others too again reason) = like_things Asked of items others (same_tree text items others is too) one why reason

-- what decides is one thing

abbrev IsRatedStage : Stage → Type 0
IsRatedStage (stage.misnamed fault) = ⊥
IsRatedStage (stage.costly graph fault) = ⊥
IsRatedStage (stage.misrated graph fault) = ⊥
IsRatedStage (stage.rated graph) = Unit {0}

not_refused : (items : List ItemTree) (graph : GraphTree) (other : Stage) → stage_of items ≡ stage.rated graph → stage_of items ≡ other → (IsRatedStage other → ⊥) → ⊥
not_refused items graph other is too not = not (subst IsRatedStage (sym is ∙ too) tt)

same_graph : (items : List ItemTree) (g h : GraphTree) → stage_of items ≡ stage.rated g → stage_of items ≡ stage.rated h → g ≡ h
same_graph items g h is too = let here : ◌≡◌ {A = Stage} (stage.rated g) (stage.rated h) = sym is ∙ too in cc

pub one_stage : {items : List ItemTree} {Asked : GraphTree → Type 0} (of : (graph : GraphTree) → Asked graph → Verdict) → ((graph : GraphTree) (p q : Asked graph) → of graph p ≡ of graph q) →
    (a b : StageCause items Asked) → stage_verdict of a ≡ stage_verdict of b
one_stage of one (misnamed fault is) (misnamed other too) = refl
one_stage of one (misnamed fault is) (costly graph other too) = refl
one_stage of one (misnamed fault is) (misrated graph other too) = refl
one_stage {items} of one (misnamed fault is) (rated graph too why) = absurd (not_refused items graph (stage.misnamed fault) too is (λ no. no))
one_stage of one (costly g fault is) (misnamed other too) = refl
one_stage of one (costly g fault is) (costly graph other too) = refl
one_stage of one (costly g fault is) (misrated graph other too) = refl
one_stage {items} of one (costly g fault is) (rated graph too why) = absurd (not_refused items graph (stage.costly g fault) too is (λ no. no))
one_stage of one (misrated g fault is) (misnamed other too) = refl
one_stage of one (misrated g fault is) (costly graph other too) = refl
one_stage of one (misrated g fault is) (misrated graph other too) = refl
one_stage {items} of one (misrated g fault is) (rated graph too why) = absurd (not_refused items graph (stage.misrated g fault) too is (λ no. no))
one_stage {items} of one (rated g is why) (misnamed other too) = absurd (not_refused items g (stage.misnamed other) is too (λ no. no))
one_stage {items} of one (rated g is why) (costly graph other too) = absurd (not_refused items g (stage.costly graph other) is too (λ no. no))
one_stage {items} of one (rated g is why) (misrated graph other too) = absurd (not_refused items g (stage.misrated graph other) is too (λ no. no))
one_stage {items} {Asked} of one (rated g is why) (rated graph too reason) = like_things Asked of g graph (same_graph items g graph is too) one why reason

pub one_graph : {text : List ℕ} {Asked : List ItemTree → GraphTree → Type 0} (of : (items : List ItemTree) (graph : GraphTree) → Asked items graph → Verdict) →
    ((items : List ItemTree) (graph : GraphTree) (p q : Asked items graph) → of items graph p ≡ of items graph q) → (a b : GraphCause text Asked) → graph_verdict of a ≡ graph_verdict of b
one_graph {text} {Asked} of one a b = one_tree {text = text} {Asked = λ items. StageCause items (Asked items)} (λ items why. stage_verdict (of items) why) (λ items p q. one_stage (of items) (one items) p q) a b

-- a text has some cause, where each tree and each graph has one

pub some_tree : (text : List ℕ) (Asked : List ItemTree → Type 0) → ((items : List ItemTree) → IsTreeOf text items → (Asked items → ⊥) → ⊥) → (TreeCause text Asked → ⊥) → ⊥
some_tree text Asked some none =
    some_end text (λ front fault is. none (not_lexed front fault is)) (λ tokens place lexed is. none (not_spelled tokens place lexed is))
    (λ items is. by items is (has_call items) refl)
  where
    by : (items : List ItemTree) → IsTreeOf text items → (call : Bool) → has_call items ≡ call → ⊥
    by items is true call = none (calls_operator items is call)
    by items is false no_call = some items is (λ why. none (tree items is no_call why))

pub some_stage : (items : List ItemTree) (Asked : GraphTree → Type 0) → ((graph : GraphTree) → stage_of items ≡ stage.rated graph → (Asked graph → ⊥) → ⊥) → (StageCause items Asked → ⊥) → ⊥
some_stage items Asked some none = by (stage_of items) refl
  where
    by : (found : Stage) → stage_of items ≡ found → ⊥
    by (stage.misnamed fault) is = none (misnamed fault is)
    by (stage.costly graph fault) is = none (costly graph fault is)
    by (stage.misrated graph fault) is = none (misrated graph fault is)
    by (stage.rated graph) is = some graph is (λ why. none (rated graph is why))

pub some_graph : (text : List ℕ) (Asked : List ItemTree → GraphTree → Type 0) →
    ((items : List ItemTree) (graph : GraphTree) → stage_of items ≡ stage.rated graph → (Asked items graph → ⊥) → ⊥) → (GraphCause text Asked → ⊥) → ⊥
some_graph text Asked some none = some_tree text (λ items. StageCause items (Asked items)) (λ items is not. some_stage items (Asked items) (some items) not) none

-- there are as many names as tasks
pub same_count : (g : GraphTree) → length (labels_of g) ≡ length (tasks_of g)
same_count g = length-map g.ports label_of ∙ sym (length-map g.ports (task_of g))

-- what is due to a graph whose tasks don't fit, or do, is due where more is asked of tasks that fit

pub graph_unfit : {E : Type 0} {text : List ℕ} {Asked : List ItemTree → GraphTree → Type 0} (verdict_of : (items : List ItemTree) (graph : GraphTree) → Asked items graph → Verdict)
    (IsText : (items : List ItemTree) (graph : GraphTree) → Asked items graph → List ℕ → Type 0) (items : List ItemTree) (graph : GraphTree) (why : Unfit) (r : Result Answer E) → IsRated text items graph →
    IsReason (tasks_of graph) why → IfOk r (λ a. a.verdict ≡ unfit_verdict why) → IfOk r (λ a. IsUnfitText (codes "graph") (labels_of graph) (tasks_of graph) why a.text) →
    IfOk r (λ a. IsDue (graph_verdict {text = text} {Asked = λ items g. LoadCause (tasks_of g) (Asked items g)} (λ items g why. load_verdict (verdict_of items g) why))
    (IsGraphText {text = text} {Asked = λ items g. LoadCause (tasks_of g) (Asked items g)} (λ items g why told. IsLoadText (codes "graph") (labels_of g) (IsText items g) why told)) a.verdict a.text)
graph_unfit verdict_of IsText items graph why (Err e) is reason verdict told = tt
graph_unfit {E} {text} {Asked} verdict_of IsText items graph why (Ok a) is reason verdict told =
    graph_due {text = text} {Asked = λ items g. LoadCause (tasks_of g) (Asked items g)} (λ items g why. load_verdict (verdict_of items g) why)
    (λ items g why told. IsLoadText (codes "graph") (labels_of g) (IsText items g) why told) items graph a.verdict a.text is (record { cause = unfit why reason; verdict = verdict; told = told })

pub graph_fits : {text : List ℕ} {Asked : List ItemTree → GraphTree → Type 0} (verdict_of : (items : List ItemTree) (graph : GraphTree) → Asked items graph → Verdict)
    (IsText : (items : List ItemTree) (graph : GraphTree) → Asked items graph → List ℕ → Type 0) (items : List ItemTree) (graph : GraphTree) (v : Verdict) (told : List ℕ) → IsRated text items graph →
    hyperperiod (tasks_of graph) ≤ hyperperiod_limit (tasks_of graph) → Fits (tasks_of graph) → IsDue (verdict_of items graph) (IsText items graph) v told →
    IsDue (graph_verdict {text = text} {Asked = λ items g. LoadCause (tasks_of g) (Asked items g)} (λ items g why. load_verdict (verdict_of items g) why))
    (IsGraphText {text = text} {Asked = λ items g. LoadCause (tasks_of g) (Asked items g)} (λ items g why told. IsLoadText (codes "graph") (labels_of g) (IsText items g) why told)) v told
graph_fits {text} {Asked} verdict_of IsText items graph v told is narrow room due =
    graph_due {text = text} {Asked = λ items g. LoadCause (tasks_of g) (Asked items g)} (λ items g why. load_verdict (verdict_of items g) why)
    (λ items g why told. IsLoadText (codes "graph") (labels_of g) (IsText items g) why told) items graph v told is (record { cause = fits narrow room due.cause; verdict = due.verdict; told = due.told })

-- the tasks of an accepted graph fit, with a hyperperiod in its limit
pub accepted_fits : (parts : Parts) → IsAccepted parts → (hyperperiod (tasks_of (graph_tree parts.graph)) ≤ hyperperiod_limit (tasks_of (graph_tree parts.graph))) × Fits (tasks_of (graph_tree parts.graph))
accepted_fits parts is =
    let fitting = is.fitting in
    (subst (λ (ts : List Task). hyperperiod ts ≤ hyperperiod_limit ts) fitting.set fitting.narrow, subst (λ (ts : List Task). Fits ts) fitting.set fitting.fits)
