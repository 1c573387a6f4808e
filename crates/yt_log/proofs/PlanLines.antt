-- A plan's lines are read with the set of its tasks at hand.
use Rattle.std.proofs.Common.{◌≡◌, ℕ, ◌+◌, Bool, true, false, List, [], ◌∷◌, refl, sym, ap, subst, ◌∙◌}
use Rattle.std.specs.Prelude.{Result, Ok, Err, IfErr, if◌then◌else◌}
use Rattle.std.specs.Result.{IsErrAnd}
use Rattle.yt_base.specs.Lines.{fields_of, lines_of}
use Rattle.yt_base.specs.Files.{is_skipped, after_line, read_from, read_lines, IsFileError}
use Rattle.yt_base.specs.declared.file_error.FileError.{FileError}
use Rattle.yt_base.specs.declared.file_error.FileError.TheVariants as file
use Rattle.yt_set.specs.NamedTasks.{NamedTasks}
use Rattle.yt_log.specs.declared.item_fault.ItemFault.{ItemFault}
use Rattle.yt_log.specs.declared.plan.PlanItem.{PlanItem}
use Rattle.yt_log.specs.PlanText.{judged, plan_of}
use Rattle.yt_log.specs.PlanFaults.{IsFaultOf}
use Rattle.yt_log.specs.Inside.PlanReading.{PlanSoFar, with_set, judged_so_far, fault_of}
use Rattle.yt_log.proofs.PlanFaults.{fault_in}

after_set : (read : PlanSoFar) (line : List ℕ) → after_line judged_so_far read line ≡ with_set read.set (after_line (judged read.set) read.plan line)
after_set read line = by_skipped (is_skipped (fields_of line))
  where
    by_skipped : (b : Bool) → (if b then Ok read else judged_so_far read (fields_of line)) ≡ with_set read.set (if b then Ok read.plan else judged read.set read.plan (fields_of line))
    by_skipped true = refl
    by_skipped false = refl

lines_set : (lines : List (List ℕ)) (number : ℕ) (read : PlanSoFar) → read_from judged_so_far number read lines ≡ with_set read.set (read_from (judged read.set) number read.plan lines)
lines_set [] number read = refl
lines_set (line ∷ lines) number read = by_line (λ plan. lines_set lines (number + 1) (record { set = read.set; plan = plan })) (after_line (judged read.set) read.plan line) refl
  where
    so_far : Result PlanSoFar ItemFault → Result PlanSoFar (ℕ × ItemFault)
    so_far r = elim r [ Ok more ↦ read_from judged_so_far (number + 1) more lines | Err fault ↦ Err (number, fault) ]

    items : Result (List PlanItem) ItemFault → Result (List PlanItem) (ℕ × ItemFault)
    items r = elim r [ Ok more ↦ read_from (judged read.set) (number + 1) more lines | Err fault ↦ Err (number, fault) ]

    by_line : ((plan : List PlanItem) → so_far (Ok (record { set = read.set; plan = plan })) ≡ with_set read.set (items (Ok plan))) → (r : Result (List PlanItem) ItemFault) → after_line (judged read.set) read.plan line ≡ r → so_far (after_line judged_so_far read line) ≡ with_set read.set (items (after_line (judged read.set) read.plan line))
    by_line others (Ok plan) is =
        ap so_far (after_set read line ∙ ap (with_set read.set) is)
        ∙ others plan
        ∙ ap (λ (r : Result (List PlanItem) ItemFault). with_set read.set (items r)) (sym is)
    by_line others (Err fault) is =
        ap so_far (after_set read line ∙ ap (with_set read.set) is)
        ∙ ap (λ (r : Result (List PlanItem) ItemFault). with_set read.set (items r)) (sym is)

-- what all lines say of a set
all_lines : (set : NamedTasks) (text : List ℕ) (start : PlanSoFar) → start ≡ record { set = set; plan = [] } → read_lines judged_so_far start text ≡ with_set set (plan_of set text)
all_lines set text start is =
    ap (λ (read : PlanSoFar). read_lines judged_so_far read text) is
    ∙ lines_set (lines_of text) 1 (record { set = set; plan = [] })

ok_set : {F : Type 0} (set : NamedTasks) (r : Result (List PlanItem) F) (read : PlanSoFar) → with_set set r ≡ Ok read → (r ≡ Ok read.plan) × (read.set ≡ set)
ok_set {F} set (Ok plan) read e =
    let same : (let x : PlanSoFar = record { set = set; plan = plan } in x) ≡ read = cc in
    (ap (λ (x : PlanSoFar). let r : Result (List PlanItem) F = Ok x.plan in r) same, sym (ap (λ (x : PlanSoFar). x.set) same))
ok_set set (Err fault) read e = cc

err_set : {F : Type 0} (set : NamedTasks) (r : Result (List PlanItem) F) (fault : F) → with_set set r ≡ Err fault → r ≡ Err fault
err_set set (Ok plan) fault e = cc
err_set set (Err first) fault e = cc

-- the plan that they say
pub plan_told : (set : NamedTasks) (text : List ℕ) (start read : PlanSoFar) → start ≡ record { set = set; plan = [] } → read_lines judged_so_far start text ≡ Ok read → (plan_of set text ≡ Ok read.plan) × (read.set ≡ set)
plan_told set text start read is e = ok_set set (plan_of set text) read (sym (all_lines set text start is) ∙ e)

-- and their first fault
pub fault_told : (set : NamedTasks) (text : List ℕ) (start : PlanSoFar) (error : FileError ItemFault) → start ≡ record { set = set; plan = [] } → IsFileError (read_lines judged_so_far start text) error → IsFaultOf set text (fault_of error)
fault_told set text start (file.Line line first) is e = fault_in set text line first (err_set set (plan_of set text) (line, first) (sym (all_lines set text start is) ∙ e))
fault_told set text start file.Memory is e = tt

-- what holds of an error holds of a result that has it
pub if_err : {A E : Type 0} (P : E → Type 0) (error : E) (r : Result A E) → IsErrAnd r (λ e. e ≡ error) → P error → IfErr r P
if_err P error (Ok a) is p = tt
if_err P error (Err e) is p = subst P (sym is) p
