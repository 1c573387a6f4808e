-- The text of a task set.
use Rattle.std.specs.Prelude.{◌≡◌, ℕ, ◌+◌, ◌==◌, ◌&&◌, ◌||◌, not, nat_lt, nat_le, Bool, List, [], ◌∷◌, ◌++◌, length, bytes_eq, codes, if◌then◌else◌, Option, None, Some, Result, Ok, Err}
use Rattle.std.specs.List.{list_all, position_or_len}
use Rattle.yt_base.specs.Digits.{is_digits, value_of}
use Rattle.yt_table.specs.Tables.{is_among}
use Rattle.yt_set.specs.Limits.{most_name_bytes, most_tasks, most_ticks}
use Rattle.yt_set.specs.declared.read.LineFault.{LineFault}
use Rattle.yt_set.specs.declared.read.LineFault.TheVariants.{Form, Name, Twice, Cost, Period, Many}
use Rattle.yt_set.specs.declared.read.SetFault.{SetFault}
use Rattle.yt_set.specs.declared.read.SetFault.TheVariants.{Line, Memory}
use Rattle.yt_base.specs.Files.{read_lines}
use Rattle.yt_set.specs.NamedTasks.{NamedTasks}

-- the fields of a task's line behind its first; `group` names its resource, and is empty where it has none
pub record TaskTexts : Type 0 where
  pub name : List ℕ
  pub cost : List ℕ
  pub period : List ℕ
  pub group : List ℕ

-- the fields where the first is the word of a task
abbrev pub if_task : List ℕ → TaskTexts → Option TaskTexts
if_task word texts = if bytes_eq word (codes "task") then Some texts else None

-- `task NAME COST PERIOD` or `task NAME COST PERIOD RESOURCE`
abbrev pub task_texts : List (List ℕ) → Option TaskTexts
task_texts (word ∷ name ∷ cost ∷ period ∷ []) = if_task word (record { name = name; cost = cost; period = period; group = [] })
task_texts (word ∷ name ∷ cost ∷ period ∷ group ∷ []) = if_task word (record { name = name; cost = cost; period = period; group = group })
task_texts _ = None

-- an ASCII letter, a digit, `_` or `.`
abbrev pub is_name_byte : ℕ → Bool
is_name_byte c = (nat_le 65 c && nat_le c 90) || ((nat_le 97 c && nat_le c 122) || ((nat_le 48 c && nat_le c 57) || ((c == 95) || (c == 46))))

-- a name of a task or a resource: such bytes, one at least
abbrev pub is_name : List ℕ → Bool
is_name text = nat_lt 0 (length text) && (nat_le (length text) most_name_bytes && list_all is_name_byte text)

-- a name, or none
abbrev pub is_group : List ℕ → Bool
is_group text = (length text == 0) || is_name text

-- a cost or a period within the limits
abbrev pub in_range : ℕ → Bool
in_range ticks = nat_le 1 ticks && nat_le ticks most_ticks

-- the names of resources with one more; it goes last where it is new, and an empty one is none
abbrev pub with_group : List (List ℕ) → List ℕ → List (List ℕ)
with_group groups group = if (length group == 0) || is_among group groups then groups else groups ++ group ∷ []

-- the number of a resource by its name, in order of first use from 1; 0 of the empty name
abbrev pub number_of : List (List ℕ) → List ℕ → ℕ
number_of groups group = if length group == 0 then 0 else position_or_len (bytes_eq group) groups + 1

-- what was read, with one more task
abbrev pub with_task : NamedTasks → List ℕ → ℕ → ℕ → List ℕ → NamedTasks
with_task read name cost period group = record {
  tasks = read.tasks ++ record { cost = cost; period = period; resource = number_of read.groups group } ∷ [];
  labels = read.labels ++ name ∷ [];
  groups = with_group read.groups group;
}

-- what was read with this line, or its first fault
abbrev pub judged_texts : NamedTasks → Option TaskTexts → Result NamedTasks LineFault
judged_texts read None = Err Form
judged_texts read (Some texts) =
    if not (is_digits texts.cost && is_digits texts.period) then Err Form
    else (if not (is_name texts.name && is_group texts.group) then Err Name
    else (if is_among texts.name read.labels then Err Twice
    else (if not (in_range (value_of texts.cost)) then Err Cost
    else (if not (in_range (value_of texts.period)) then Err Period
    else (if length read.tasks == most_tasks then Err Many
    else Ok (with_task read texts.name (value_of texts.cost) (value_of texts.period) texts.group))))))

abbrev pub judged : NamedTasks → List (List ℕ) → Result NamedTasks LineFault
judged read fields = judged_texts read (task_texts fields)

-- no tasks
abbrev pub no_tasks : NamedTasks
no_tasks = record { tasks = []; labels = []; groups = [] }

-- the set that a text says, or its first line at fault and that line's first fault
abbrev pub set_of : List ℕ → Result NamedTasks (ℕ × LineFault)
set_of text = read_lines judged no_tasks text

-- the fault is that of the text; memory may run out at any
abbrev pub IsFaultOf : List ℕ → SetFault → Type 0
IsFaultOf text (Line number fault) = set_of text ≡ Err (number, fault)
IsFaultOf text Memory = Unit {0}
