-- The lines of tasks, one after the other.
use Rattle.std.proofs.Common.{◌≡◌, ℕ, ◌+◌, List, [], ◌∷◌, ◌++◌, drop, slice_get, Some, sym, ap, ◌∙◌, append_assoc}
use Rattle.yt_set.specs.declared.task.Task.{Task}
use Rattle.yt_set.specs.NamedTasks.{NamedTasks}
use Rattle.yt_set.specs.Printed.{task_line}
use Rattle.yt_list.specs.Numbered.{numbered, numbered_or}
use Rattle.yt_list.proofs.Lemmas.{drop_at, numbered_next}
use Rattle.yt_cmd_check.specs.TaskLines.{task_lines}

-- what has a number has the place before it
pub placed : {X : Type 0} (xs : List X) (n : ℕ) (x : X) → numbered xs (n + 1) ≡ Some x → slice_get xs n ≡ Some x
placed xs n x at = sym (numbered_next xs n) ∙ at

-- one more line of tasks
pub task_more : (set : NamedTasks) (n : ℕ) (tasks : List Task) (t : Task) (line text more : List ℕ) → slice_get tasks n ≡ Some t →
    line ≡ task_line (numbered_or set.labels (n + 1) []) t (numbered_or set.groups t.resource []) → more ≡ (text ++ line) ++ 10 ∷ [] →
    more ++ task_lines set (n + 1 + 1) (drop (n + 1) tasks) ≡ text ++ task_lines set (n + 1) (drop n tasks)
task_more set n tasks t line text more at is put =
    let rest = task_lines set (n + 1 + 1) (drop (n + 1) tasks) in
    ap (λ x. x ++ rest) put ∙ append_assoc (text ++ line) (10 ∷ []) rest ∙ append_assoc text line (10 ∷ rest)
    ∙ ap (λ x. text ++ (x ++ (10 ∷ rest))) is
    ∙ ap (λ ts. text ++ task_lines set (n + 1) ts) (sym (drop_at tasks n t at))
