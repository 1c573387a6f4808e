-- The fault that decides of several.
use Rattle.std.specs.Prelude.{◌≡◌, ◌↔◌, List, [], None, Some, false, Contains}
use Rattle.std.specs.List.{All}
use Rattle.yt_name_faults.specs.declared.fault.NameFault.{NameFault}
use Rattle.yt_name_faults.specs.First.{decides, first_fault}

-- the fault that decides is one of the faults, and none of them comes before it, by place and at one place by kind; and none decides
-- exactly where there is none
pub record FirstFaultIsFirst : Type 0 where
  pub member : (faults : List NameFault) (first : NameFault) → first_fault faults ≡ Some first → Contains faults first
  pub first : (faults : List NameFault) (first : NameFault) → first_fault faults ≡ Some first → All (λ fault. decides fault first ≡ false) faults
  pub none : (faults : List NameFault) → (first_fault faults ≡ None) ↔ (faults ≡ [])
