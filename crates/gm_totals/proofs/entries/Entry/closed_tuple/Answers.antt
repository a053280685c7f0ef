-- An entry's tuple closes to as many values as are held.
use Rattle.std.proofs.Common.{◌≡◌, length, map, Option, Some, None}
use Rattle.std.specs.Prelude.{option_map, IfSome}
use Rattle.std.specs.declared.alloc.Global.{Global}
use Rattle.std.specs.declared.vec.Vec.{Vec}
use Rattle.gm_value.specs.declared.values.Value.{Value}
use Rattle.gm_value.specs.Numbers.{number_of}
use Rattle.gm_value.specs.Tuples.{values_at, kept}
use Rattle.gm_totals.specs.Pots.{items_in}
use Rattle.gm_totals.proofs.Joining.{after-length}
use Rattle.gm_totals.proofs.entries.Entry.closed_tuple.Goals as goal

pub returns-in_ok-values-in-Several-clause-length : goal.returns-in_ok-values-in-Several-clause-length
returns-in_ok-values-in-Several-clause-length c = by c.in_ok-values-in-Several.values c.in_ok-values-in-Several.ensures
  where
    by : (o : Option (Vec Value Global)) → option_map items_in o ≡ values_at c.args.held.now (kept c.args.reduce (map number_of c.args.held.now) (map number_of c.as_slice.result.now)) → IfSome o (λ after. length after.items ≡ length c.args.held.now)
    by None e = tt
    by (Some after) e = after-length c.args.held.now _ after.items e
