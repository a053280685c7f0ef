-- The first value is of its column's type, so the reduced value is the total of all.
use Rattle.gm_put_totals.proofs.PutLemmas.{reduced-settles, begins-got}
use Rattle.gm_put_totals.proofs.puts.put_values.Goals as goal

pub returns-in_err-add_one-in-Some-clause-settle : goal.returns-in_err-add_one-in-Some-clause-settle
returns-in_err-add_one-in-Some-clause-settle c =
    let held = begins-got c.args.column.now.vtype c.args.column.now.values c.get.result c.get.ensures.value c.get.ensures.held c.number-first.ensures.in_range in
    reduced-settles c.reductions_are_monoids.ensures.unit c.args.place c.args.reduce c.args.slot c.args.column.now.vtype c.args.column.now.values held

pub returns-in_ok-add_one-in-Some-clause-settle : goal.returns-in_ok-add_one-in-Some-clause-settle
returns-in_ok-add_one-in-Some-clause-settle c =
    let held = begins-got c.args.column.now.vtype c.args.column.now.values c.get.result c.get.ensures.value c.get.ensures.held c.number-first.ensures.in_range in
    reduced-settles c.reductions_are_monoids.ensures.unit c.args.place c.args.reduce c.args.slot c.args.column.now.vtype c.args.column.now.values held
