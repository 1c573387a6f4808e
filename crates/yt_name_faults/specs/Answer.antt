-- What is answered for a tree.
use Rattle.std.specs.Prelude.{◌≡◌, List, Some}
use Rattle.yt_name_faults.specs.declared.fault.NameFault.{NameFault}
use Rattle.yt_name_faults.specs.declared.fault.NameFault.TheVariants.{Unknown, Kind, Twice, Width, Limit, Cycle, Memory}
use Rattle.yt_name_faults.specs.First.{first_fault}

-- want of memory, or the fault of these that decides
abbrev pub IsFirstFault : List NameFault → NameFault → Type 0
IsFirstFault faults Memory = Unit {0}
IsFirstFault faults (Unknown p) = first_fault faults ≡ Some (Unknown p)
IsFirstFault faults (Kind p) = first_fault faults ≡ Some (Kind p)
IsFirstFault faults (Twice p) = first_fault faults ≡ Some (Twice p)
IsFirstFault faults (Width p) = first_fault faults ≡ Some (Width p)
IsFirstFault faults (Limit p kind) = first_fault faults ≡ Some (Limit p kind)
IsFirstFault faults (Cycle p) = first_fault faults ≡ Some (Cycle p)
