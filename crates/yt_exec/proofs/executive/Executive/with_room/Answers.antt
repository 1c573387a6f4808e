use Rattle.std.proofs.Common.{◌≡◌, ℕ, List, [], length, map, replicate, Option, refl, sym, ap, ap₂, subst, ◌∙◌, rules}
use Rattle.yt_set.specs.declared.task.Task.{Task}
use Rattle.yt_set.specs.Tasks.{IsTaskSet, floor_of}
use Rattle.yt_ready.specs.declared.entry.Entry.{Entry}
use Rattle.yt_ready.specs.Waiting.{Waiting}
use Rattle.yt_log.specs.declared.last_jobs.LastJob.{LastJob}
use Rattle.yt_exec.specs.Moments.{no_release, release_of, IsSound}
use Rattle.yt_exec.proofs.Readings.{stands_empty}
use Rattle.yt_exec.proofs.Sounds.{sound_start, none_released}
use Rattle.yt_exec.proofs.executive.Executive.with_room.Goals as goal

pub invariant_of-result : goal.invariant_of-result
invariant_of-result c =
    let tasks = c.in_ok-tasks.tasks.items in
    let same : tasks ≡ c.args.set.now = c.in_ok-tasks.ensures.tasks in
    let set : IsTaskSet tasks = subst IsTaskSet (sym same) c.in_ok-tasks.ensures.set in
    let none : c.in_ok-ready.ready.entries ≡ [] = ap (λ (w : Waiting). w.entries) c.in_ok-ready.ensures in
    let count : c.len.result ≡ length tasks = c.len.ensures ∙ c.in_ok-tasks.tasks.ok.0 in
    let releases : c.in_ok-releases.releases.items ≡ replicate (length tasks) no_release =
    c.in_ok-releases.ensures.items_if_clones_equal (λ y h. first_of (search rules, cc)) ∙ ap (λ (n : ℕ). replicate n no_release) count in
    let sound = sound_start tasks set in
    let fresh = subst (λ (rs : List LastJob). IsSound tasks [] 0 rs) (sym releases) sound in
    let made : List Task → List Task → List (Option ℕ) = λ s ts. map (λ task. floor_of s task.resource) ts in
    let floors : c.in_ok-floors.floors.items ≡ made tasks tasks = c.in_ok-floors.ensures ∙ ap₂ made (sym same) c.deref.ensures.value in
    (subst (λ (es : List Entry). IsSound tasks es 0 c.in_ok-releases.releases.items) (sym none) fresh, floors)

pub returns-clause-stands : goal.returns-clause-stands
returns-clause-stands c =
    let tasks = c.in_ok-tasks.tasks.items in
    let none : c.in_ok-ready.ready.entries ≡ [] = ap (λ (w : Waiting). w.entries) c.in_ok-ready.ensures in
    let count : c.len.result ≡ length tasks = c.len.ensures ∙ c.in_ok-tasks.tasks.ok.0 in
    let releases : c.in_ok-releases.releases.items ≡ replicate (length tasks) no_release =
    c.in_ok-releases.ensures.items_if_clones_equal (λ y h. first_of (search rules, cc)) ∙ ap (λ (n : ℕ). replicate n no_release) count in
    λ left. stands_empty _ left none refl (λ task. ap (λ (rs : List LastJob). release_of rs task) releases ∙ none_released (length tasks) task)
