-- What is printed of a task set: its load, why it doesn't fit, and the arrivals that show it.
use Rattle.std.specs.Prelude.{ℕ, ◌+◌, ◌==◌, List, [], ◌∷◌, ◌++◌, length, codes, if◌then◌else◌}
use Rattle.std.specs.Fmt.{decimal}
use Rattle.yt_list.specs.Numbered.{numbered_or}
use Rattle.yt_fits.specs.declared.interval.Breach.{Breach}
use Rattle.yt_fits.specs.declared.sums.LoadSum.{LoadSum}
use Rattle.yt_log.specs.Patterns.{Arrivals}
use Rattle.yt_set.specs.declared.task.Task.{Task}
use Rattle.yt_set.specs.Tasks.{hyperperiod, load}
use Rattle.yt_fitting.specs.declared.kind.Kind.{Kind}
use Rattle.yt_fitting.specs.declared.kind.Kind.TheVariants.{Graph, Set}
use Rattle.yt_witness.specs.declared.pattern.Pattern.{Pattern}
use Rattle.yt_witness.specs.Witnesses.{arrivals_of, horizon}

-- the load over the hyperperiod, and the hyperperiod
abbrev pub load_text : List Task → List ℕ
load_text tasks = decimal (load tasks (hyperperiod tasks)) ++ (47 ∷ decimal (hyperperiod tasks))

-- `accepted COUNT PART/WHOLE`
abbrev pub accepted_text : List Task → List ℕ
accepted_text tasks = codes "accepted " ++ (decimal (length tasks) ++ (32 ∷ load_text tasks ++ 10 ∷ []))

-- `arrive NAME FIRST STEP COUNT COST`
abbrev pub arrive_line : List ℕ → Arrivals → List ℕ
arrive_line label a =
    codes "arrive " ++ (label ++ (32 ∷ decimal a.first ++ (32 ∷ decimal a.step ++ (32 ∷ decimal a.count ++ (32 ∷ decimal a.cost ++ 10 ∷ [])))))

-- the line of a task that arrives, and nothing of one that doesn't
abbrev pub arrivals_text : List ℕ → Arrivals → List ℕ
arrivals_text label a = if a.count == 0 then [] else arrive_line label a

-- the arrivals of each of these tasks, which are numbered from this number on
abbrev pub arrive_lines : List (List ℕ) → ℕ → List Arrivals → List ℕ
arrive_lines labels number [] = []
arrive_lines labels number (a ∷ arrivals) = arrivals_text (numbered_or labels number []) a ++ arrive_lines labels (number + 1) arrivals

-- the arrivals of a pattern, and the tick by which a deadline is missed
abbrev pub pattern_text : List (List ℕ) → List Task → Pattern → List ℕ
pattern_text labels tasks pattern = arrive_lines labels 1 (arrivals_of tasks pattern) ++ (codes "horizon " ++ (decimal (horizon pattern) ++ 10 ∷ []))

-- `overload load PART/WHOLE`
abbrev pub load_line : LoadSum → List ℕ
load_line sum = codes "overload load " ++ (decimal sum.part ++ (47 ∷ decimal sum.whole ++ 10 ∷ []))

-- `overload interval TASK LEN NEED`
abbrev pub interval_line : List ℕ → Breach → List ℕ
interval_line label breach = codes "overload interval " ++ (label ++ (32 ∷ decimal breach.len ++ (32 ∷ decimal breach.need ++ 10 ∷ [])))

-- the word with which the line of a graph or a set that is refused begins
abbrev pub kind_word : Kind → List ℕ
kind_word Graph = codes "graph"
kind_word Set = codes "set"

-- `graph hyperperiod PORT` or `set hyperperiod NAME`
abbrev pub hyperperiod_line : List ℕ → List ℕ → List ℕ
hyperperiod_line kind label = kind ++ (codes " hyperperiod " ++ (label ++ 10 ∷ []))
