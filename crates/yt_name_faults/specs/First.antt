-- Which of several faults decides: the least place, and at one place the least kind.
use Rattle.std.specs.Prelude.{ℕ, ◌+◌, ◌==◌, ◌&&◌, ◌||◌, nat_lt, Bool, List, [], ◌∷◌, Option, None, Some, if◌then◌else◌}
use Rattle.yt_graph.specs.declared.place.Place.{Place}
use Rattle.yt_name_faults.specs.declared.fault.NameFault.{NameFault}
use Rattle.yt_name_faults.specs.declared.fault.NameFault.TheVariants.{Unknown, Kind, Twice, Width, Limit, Cycle, Memory}
use Rattle.yt_name_faults.specs.declared.fault.LimitKind as declared
use Rattle.yt_name_faults.specs.declared.fault.LimitKind.{LimitKind}

-- limits in the order in which they're judged
abbrev pub limit_rank : LimitKind → ℕ
limit_rank declared.TheVariants.Inputs = 0
limit_rank declared.TheVariants.Outputs = 1
limit_rank declared.TheVariants.Resources = 2
limit_rank declared.TheVariants.Processes = 3
limit_rank declared.TheVariants.Ports = 4
limit_rank declared.TheVariants.Variables = 5
limit_rank declared.TheVariants.Outs = 6
limit_rank declared.TheVariants.Locals = 7
limit_rank declared.TheVariants.Width = 8
limit_rank declared.TheVariants.Period = 9
limit_rank declared.TheVariants.Every = 10
limit_rank declared.TheVariants.Turns = 11

-- kinds of faults in the order in which they're judged, a hundred apart: limits are ranked among themselves in between
abbrev pub fault_rank : NameFault → ℕ
fault_rank (Unknown p) = 0
fault_rank (Kind p) = 100
fault_rank (Twice p) = 200
fault_rank (Width p) = 300
fault_rank (Limit p kind) = 400 + limit_rank kind
fault_rank (Cycle p) = 500
fault_rank Memory = 600

-- where a fault is; want of memory is nowhere
abbrev pub fault_place : NameFault → Place
fault_place (Unknown p) = p
fault_place (Kind p) = p
fault_place (Twice p) = p
fault_place (Width p) = p
fault_place (Limit p kind) = p
fault_place (Cycle p) = p
fault_place Memory = record { line = 0; col = 0 }

-- a place that stands before another
abbrev pub is_before : Place → Place → Bool
is_before p q = nat_lt p.line q.line || ((p.line == q.line) && nat_lt p.col q.col)

abbrev pub is_same_place : Place → Place → Bool
is_same_place p q = (p.line == q.line) && (p.col == q.col)

-- the first of both is the one that decides
unfoldable pub decides : NameFault → NameFault → Bool
decides f g = is_before (fault_place f) (fault_place g) || (is_same_place (fault_place f) (fault_place g) && nat_lt (fault_rank f) (fault_rank g))

-- which one decides, where one may be there already
unfoldable pub lesser : NameFault → Option NameFault → NameFault
lesser f None = f
lesser f (Some g) = if decides f g then f else g

-- which one decides of faults in a list and one that may be there already
unfoldable pub least_with : List NameFault → Option NameFault → Option NameFault
least_with [] before = before
least_with (f ∷ fs) before = least_with fs (Some (lesser f before))

-- the fault of a list that decides
abbrev pub first_fault : List NameFault → Option NameFault
first_fault faults = least_with faults None

-- a fault where there's cause for it
abbrev pub fault_if : Bool → NameFault → List NameFault
fault_if cause fault = if cause then fault ∷ [] else []
