use Rattle.std.proofs.Common.{refl}
use Rattle.gm_combine.proofs.laws.totals_are_worked.Goals as goal

pub returns : goal.returns
returns c = record {
  sum = refl;
  none = refl;
  another_kind = refl;
  added = refl;
  least = refl;
}
