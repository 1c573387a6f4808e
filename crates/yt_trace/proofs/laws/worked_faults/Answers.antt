use Rattle.std.proofs.Common.{refl}
use Rattle.yt_trace.proofs.laws.worked_faults.Goals as goal

pub returns : goal.returns
returns c = record {
  form = refl;
  short = refl;
  no_number = refl;
  unknown = refl;
  width = refl;
  wide = refl;
  late = refl;
  order = refl;
  other = refl;
  soon = refl;
  its_own = refl;
}
