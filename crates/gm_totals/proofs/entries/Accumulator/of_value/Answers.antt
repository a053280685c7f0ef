-- The total of one value.
use Rattle.std.proofs.Common.{subst}
use Rattle.gm_value.specs.Reductions.{unit_of}
use Rattle.gm_value.specs.Totals.{Shows}
use Rattle.gm_totals.proofs.Joining.{one-first}
use Rattle.gm_totals.proofs.entries.Accumulator.of_value.Goals as goal

pub returns : goal.returns
returns c = λ values first.
    let unit = c.total_unit-unit.result in
    one-first c.args.reduce values c.args.value first c.in_ok-total.total unit (c.reductions_are_monoids.ensures.unit c.args.reduce) c.number-number.ensures.in_range
    (subst (λ t. Shows c.args.reduce unit (unit_of c.args.reduce t)) c.type_of.ensures c.total_unit-unit.ensures.total.1) c.in_ok-total.ensures
