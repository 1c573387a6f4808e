-- What is due by the causes of loads and sets; two causes have one verdict, and there always is one.
use Rattle.std.proofs.Common.{◌≡◌, ℕ, ◌<◌, ◌≤◌, List, refl, sym, subst, ◌∙◌, arith}
use Rattle.std.specs.Prelude.{IfOk, Result, Ok, Err}
use Rattle.yt_answer.specs.declared.answer.Answer.{Answer}
use Rattle.yt_answer.specs.declared.verdict.Verdict.{Verdict}
use Rattle.yt_answer.specs.declared.verdict.Verdict.TheVariants.{Graph}
use Rattle.yt_answer.specs.Due.{IsDue}
use Rattle.yt_answer.proofs.Lemmas.{due_answer, due_parts}
use Rattle.yt_fits.specs.declared.unfit.Unfit.{Unfit}
use Rattle.yt_fits.specs.declared.unfit.Unfit.TheVariants.{Hyperperiod, Overload, Interval}
use Rattle.yt_fits.specs.Loads.{hyperperiod_limit}
use Rattle.yt_fits.specs.Unfits.{IsReason}
use Rattle.yt_fits.proofs.Lemmas.{breach_unfits}
use Rattle.yt_set.specs.declared.read.LineFault.{LineFault}
use Rattle.yt_set.specs.declared.task.Task.{Task}
use Rattle.yt_set.specs.NamedTasks.{NamedTasks}
use Rattle.yt_set.specs.SetText.{set_of}
use Rattle.yt_set.specs.Tasks.{Fits, hyperperiod}
use Rattle.yt_fitting.specs.declared.set_reading.SetReading.TheVariants.{Refused}
use Rattle.yt_fitting.specs.FaultLines.{set_line}
use Rattle.yt_fitting.specs.Loads.{LoadCause, unfit, fits, load_verdict, unfit_verdict, IsLoadText, IsUnfitText}
use Rattle.yt_fitting.specs.Sets.{SetCause, at_fault, read, set_verdict, IsSetText, IsSetReadingOf}
use Rattle.yt_fitting.proofs.Reasons.{fit_or_reason}

-- what is due to tasks that don't fit
pub due_unfit : {E : Type 0} (kind : List ℕ) (labels : List (List ℕ)) (tasks : List Task) (Asked : Type 0) (of : Asked → Verdict) (IsOf : Asked → List ℕ → Type 0) (why : Unfit) (result : Result Answer E) →
    IsReason tasks why → IfOk result (λ a. a.verdict ≡ unfit_verdict why) → IfOk result (λ a. IsUnfitText kind labels tasks why a.text) →
    IfOk result (λ a. IsDue (load_verdict {tasks = tasks} of) (IsLoadText kind labels {tasks = tasks} IsOf) a.verdict a.text)
due_unfit kind labels tasks Asked of IsOf why result reason verdict text = due_parts (load_verdict {tasks = tasks} of) (IsLoadText kind labels {tasks = tasks} IsOf) (unfit why reason) result verdict text

-- what is due to tasks that fit is what is asked of them
pub due_fits : {E : Type 0} (kind : List ℕ) (labels : List (List ℕ)) (tasks : List Task) (Asked : Type 0) (of : Asked → Verdict) (IsOf : Asked → List ℕ → Type 0) (result : Result Answer E) →
    hyperperiod tasks ≤ hyperperiod_limit tasks → Fits tasks → IfOk result (λ a. IsDue of IsOf a.verdict a.text) →
    IfOk result (λ a. IsDue (load_verdict {tasks = tasks} of) (IsLoadText kind labels {tasks = tasks} IsOf) a.verdict a.text)
due_fits kind labels tasks Asked of IsOf (Ok a) narrow room due = record { cause = fits narrow room due.cause; verdict = due.verdict; told = due.told }
due_fits kind labels tasks Asked of IsOf (Err e) narrow room due = tt

-- what is due to a text that says a set is what is asked of the set
pub due_set : {E : Type 0} (text : List ℕ) (Asked : NamedTasks → Type 0) (of : (set : NamedTasks) → Asked set → Verdict) (IsOf : (set : NamedTasks) → Asked set → List ℕ → Type 0) (set : NamedTasks) (result : Result Answer E) →
    set_of text ≡ Ok set → IfOk result (λ a. IsDue (of set) (IsOf set) a.verdict a.text) → IfOk result (λ a. IsDue (set_verdict {text = text} of) (IsSetText {text = text} IsOf) a.verdict a.text)
due_set text Asked of IsOf set (Ok a) is due = record { cause = read set is due.cause; verdict = due.verdict; told = due.told }
due_set text Asked of IsOf set (Err e) is due = tt

-- what is due to a text with a line at fault
pub due_refused : (text : List ℕ) (Asked : NamedTasks → Type 0) (of : (set : NamedTasks) → Asked set → Verdict) (IsOf : (set : NamedTasks) → Asked set → List ℕ → Type 0) (answer : Answer) →
    IsSetReadingOf text (Refused answer) → IsDue (set_verdict {text = text} of) (IsSetText {text = text} IsOf) answer.verdict answer.text
due_refused text Asked of IsOf answer reading =
    due_answer (set_verdict {text = text} of) (IsSetText {text = text} IsOf) (at_fault reading.0 reading.1 reading.2) answer Graph (set_line reading.0 reading.1) reading.3 refl refl

-- two causes have one verdict

not_both : (m h : ℕ) → m < h → h ≤ m → ⊥
not_both m h more less = omega arith

one_reason : (tasks : List Task) (a b : Unfit) → IsReason tasks a → IsReason tasks b → unfit_verdict a ≡ unfit_verdict b
one_reason tasks (Hyperperiod n) (Hyperperiod k) p q = refl
one_reason tasks (Hyperperiod n) (Overload sum) p q = absurd (not_both (hyperperiod_limit tasks) (hyperperiod tasks) p.1 q.1)
one_reason tasks (Hyperperiod n) (Interval breach) p q = absurd (not_both (hyperperiod_limit tasks) (hyperperiod tasks) p.1 q.1)
one_reason tasks (Overload sum) (Hyperperiod n) p q = absurd (not_both (hyperperiod_limit tasks) (hyperperiod tasks) q.1 p.1)
one_reason tasks (Overload sum) (Overload more) p q = refl
one_reason tasks (Overload sum) (Interval breach) p q = absurd (p.2 q.2)
one_reason tasks (Interval breach) (Hyperperiod n) p q = absurd (not_both (hyperperiod_limit tasks) (hyperperiod tasks) q.1 p.1)
one_reason tasks (Interval breach) (Overload sum) p q = absurd (q.2 p.2)
one_reason tasks (Interval breach) (Interval more) p q = refl

-- tasks that fit have no reason not to
pub no_reason : (tasks : List Task) (why : Unfit) → IsReason tasks why → hyperperiod tasks ≤ hyperperiod_limit tasks → Fits tasks → ⊥
no_reason tasks (Hyperperiod n) p narrow room = not_both (hyperperiod_limit tasks) (hyperperiod tasks) p.1 narrow
no_reason tasks (Overload sum) p narrow room = p.2 room.loads
no_reason tasks (Interval breach) p narrow room = breach_unfits tasks breach p.0.lowest room.intervals

-- two causes of one set's load have one verdict, where that holds of what is asked of tasks that fit
pub one_load : (tasks : List Task) (Asked : Type 0) (of : Asked → Verdict) → ((x y : Asked) → of x ≡ of y) → (a b : LoadCause tasks Asked) → load_verdict of a ≡ load_verdict of b
one_load tasks Asked of one (unfit a p) (unfit b q) = one_reason tasks a b p q
one_load tasks Asked of one (unfit a p) (fits narrow room h) = absurd (no_reason tasks a p narrow room)
one_load tasks Asked of one (fits narrow room h) (unfit b q) = absurd (no_reason tasks b q narrow room)
one_load tasks Asked of one (fits narrow room h) (fits short more k) = one h k

-- a text is that of a set, or it has a fault
set_or_fault : (text : List ℕ) (set : NamedTasks) (number : ℕ) (fault : LineFault) → set_of text ≡ Ok set → set_of text ≡ Err (number, fault) → ⊥
set_or_fault text set number fault is e =
    let clash : ◌≡◌ {A = Result NamedTasks (ℕ × LineFault)} (Ok set) (Err (number, fault)) = sym is ∙ e in
    cc

same_set : (text : List ℕ) (a b : NamedTasks) → set_of text ≡ Ok a → set_of text ≡ Ok b → a ≡ b
same_set text a b p q =
    let here : ◌≡◌ {A = Result NamedTasks (ℕ × LineFault)} (Ok a) (Ok b) = sym p ∙ q in
    cc

-- two causes of one text have one verdict, where that holds of what is asked of its set
pub one_set : (text : List ℕ) (Asked : NamedTasks → Type 0) (of : (set : NamedTasks) → Asked set → Verdict) →
    ((set : NamedTasks) (x y : Asked set) → of set x ≡ of set y) → (a b : SetCause text Asked) → set_verdict of a ≡ set_verdict of b
one_set text Asked of one (at_fault n f is) (at_fault m g too) = refl
one_set text Asked of one (at_fault n f is) (read set too k) = absurd (set_or_fault text set n f too is)
one_set text Asked of one (read set is h) (at_fault m g too) = absurd (set_or_fault text set m g is too)
one_set text Asked of one (read a is h) (read b too k) =
    subst (λ (set : NamedTasks). (y : Asked set) → of a h ≡ of set y) (same_set text a b is too) (λ y. one a h y) k

-- there always is a cause, where there is one of what is asked of tasks that fit
pub some_load : (tasks : List Task) (Asked : Type 0) → ((Asked → ⊥) → ⊥) → (LoadCause tasks Asked → ⊥) → ⊥
some_load tasks Asked some none = fit_or_reason tasks (λ why is. none (unfit why is)) (λ narrow room. some (λ asked. none (fits narrow room asked)))

-- there always is a cause, where there is one of what is asked of each set
pub some_set : (text : List ℕ) (Asked : NamedTasks → Type 0) → ((set : NamedTasks) → (Asked set → ⊥) → ⊥) → (SetCause text Asked → ⊥) → ⊥
some_set text Asked some none = by (set_of text) refl
  where
    by : (r : Result NamedTasks (ℕ × LineFault)) → set_of text ≡ r → ⊥
    by (Ok set) is = some set (λ asked. none (read set is asked))
    by (Err fault) is = none (at_fault fault.0 fault.1 is)
