-- A plan's text says a plan, or it has a fault.
use Rattle.std.proofs.Common.{◌≡◌, ℕ, List, refl, sym, ◌∙◌, inl, inr, ◌⊎◌}
use Rattle.std.specs.Prelude.{Result, Ok, Err}
use Rattle.yt_set.specs.NamedTasks.{NamedTasks}
use Rattle.yt_log.specs.declared.item_fault.ItemFault.{ItemFault}
use Rattle.yt_log.specs.declared.item_fault.ItemFault.TheVariants as item
use Rattle.yt_log.specs.declared.plan.PlanItem.{PlanItem}
use Rattle.yt_log.specs.declared.read.PlanFault.{PlanFault}
use Rattle.yt_log.specs.declared.read.PlanFault.TheVariants.{Form, Unknown, Cost, Late, Order, Soon, Many, Memory}
use Rattle.yt_log.specs.PlanFaults.{in_line, IsFaultOf}
use Rattle.yt_log.specs.PlanText.{plan_of}

-- a text that says a plan has no fault but want of memory
pub no_plan_and_fault : (set : NamedTasks) (text : List ℕ) (items : List PlanItem) (fault : PlanFault) → plan_of set text ≡ Ok items → IsFaultOf set text fault → (fault ≡ Memory → ⊥) → ⊥
no_plan_and_fault set text items (Form line) is h told = let clash = sym is ∙ h.3 in cc
no_plan_and_fault set text items (Unknown line) is h told = let clash = sym is ∙ h.3 in cc
no_plan_and_fault set text items (Cost line) is h told = let clash = sym is ∙ h.3 in cc
no_plan_and_fault set text items (Late line) is h told = let clash = sym is ∙ h.3 in cc
no_plan_and_fault set text items (Order line) is h told = let clash = sym is ∙ h.3 in cc
no_plan_and_fault set text items (Soon line least) is h told = let clash = sym is ∙ h.3 in cc
no_plan_and_fault set text items (Many line) is h told = let clash = sym is ∙ h.3 in cc
no_plan_and_fault set text items Memory is h told = told refl

-- a text's first fault that isn't want of memory
abbrev pub HasFault : NamedTasks → List ℕ → Type 0
HasFault set text = (fault : PlanFault) × IsFaultOf set text fault × (fault ≡ Memory → ⊥)

-- the fault of a line at fault
pub fault_in : (set : NamedTasks) (text : List ℕ) (line : ℕ) (first : ItemFault) → plan_of set text ≡ Err (line, first) → IsFaultOf set text (in_line line first)
fault_in set text line item.Form is = (line, item.Form, refl, is)
fault_in set text line item.Unknown is = (line, item.Unknown, refl, is)
fault_in set text line item.Cost is = (line, item.Cost, refl, is)
fault_in set text line item.Late is = (line, item.Late, refl, is)
fault_in set text line item.Order is = (line, item.Order, refl, is)
fault_in set text line (item.Soon least) is = (line, item.Soon least, refl, is)
fault_in set text line item.Many is = (line, item.Many, refl, is)

told_of_line : (line : ℕ) (first : ItemFault) → in_line line first ≡ Memory → ⊥
told_of_line line item.Form e = cc
told_of_line line item.Unknown e = cc
told_of_line line item.Cost e = cc
told_of_line line item.Late e = cc
told_of_line line item.Order e = cc
told_of_line line (item.Soon least) e = cc
told_of_line line item.Many e = cc

fault_of_line : (set : NamedTasks) (text : List ℕ) (line : ℕ) (first : ItemFault) → plan_of set text ≡ Err (line, first) → HasFault set text
fault_of_line set text line first is = (in_line line first, fault_in set text line first is, told_of_line line first)

-- each text says a plan, or it has such a fault
pub plan_or_fault : (set : NamedTasks) (text : List ℕ) → ((items : List PlanItem) × (plan_of set text ≡ Ok items)) ⊎ HasFault set text
plan_or_fault set text = by_reading (plan_of set text) refl
  where
    by_reading : (read : Result (List PlanItem) (ℕ × ItemFault)) → plan_of set text ≡ read → ((items : List PlanItem) × (plan_of set text ≡ Ok items)) ⊎ HasFault set text
    by_reading (Ok items) is = inl (items, is)
    by_reading (Err fault) is = inr (fault_of_line set text fault.0 fault.1 is)
