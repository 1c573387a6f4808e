-- The line of a fault of a plan's text.
use Rattle.std.specs.Prelude.{◌≡◌, ℕ, List, [], ◌∷◌, ◌++◌, codes}
use Rattle.std.specs.Fmt.{decimal}
use Rattle.yt_fitting.specs.declared.kind.FileKind.TheVariants.{Plan}
use Rattle.yt_fitting.specs.FaultLines.{fault_line}
use Rattle.yt_log.specs.declared.read.PlanFault.{PlanFault}
use Rattle.yt_log.specs.declared.read.PlanFault.TheVariants.{Form, Unknown, Cost, Late, Order, Soon, Many, Memory}

-- `plan LINE ..`, with what is wrong with the line
abbrev pub plan_line : ℕ → List ℕ → List ℕ
plan_line number end = fault_line Plan number end

-- the text is the line of a fault of a plan; want of memory has none
abbrev pub IsPlanLine : List ℕ → PlanFault → Type 0
IsPlanLine text (Form line) = text ≡ plan_line line (codes " form\n")
IsPlanLine text (Unknown line) = text ≡ plan_line line (codes " unknown\n")
IsPlanLine text (Cost line) = text ≡ plan_line line (codes " cost\n")
IsPlanLine text (Late line) = text ≡ plan_line line (codes " late\n")
IsPlanLine text (Order line) = text ≡ plan_line line (codes " order\n")
IsPlanLine text (Soon line least) = text ≡ plan_line line (codes " soon " ++ (decimal least ++ 10 ∷ []))
IsPlanLine text (Many line) = text ≡ plan_line line (codes " many\n")
IsPlanLine text Memory = ⊥
