-- Why a text is no plan.
use Rattle.std.specs.Prelude.{◌≡◌, ℕ, List, Err}
use Rattle.yt_set.specs.NamedTasks.{NamedTasks}
use Rattle.yt_log.specs.declared.item_fault.ItemFault.{ItemFault}
use Rattle.yt_log.specs.declared.item_fault.ItemFault.TheVariants as item
use Rattle.yt_log.specs.declared.read.PlanFault.{PlanFault}
use Rattle.yt_log.specs.declared.read.PlanFault.TheVariants.{Form, Unknown, Cost, Late, Order, Soon, Many, Memory}
use Rattle.yt_log.specs.PlanText.{plan_of}

-- the fault of an item in the line of a number
abbrev pub in_line : ℕ → ItemFault → PlanFault
in_line line item.Form = Form line
in_line line item.Unknown = Unknown line
in_line line item.Cost = Cost line
in_line line item.Late = Late line
in_line line item.Order = Order line
in_line line (item.Soon least) = Soon line least
in_line line item.Many = Many line

-- the fault is that of the text's first line at fault; memory may run out at any
abbrev pub IsFaultOf : NamedTasks → List ℕ → PlanFault → Type 0
IsFaultOf set text Memory = Unit {0}
IsFaultOf set text fault = (line : ℕ) × (first : ItemFault) × (fault ≡ in_line line first) × (plan_of set text ≡ Err (line, first))
