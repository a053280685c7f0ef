use Rattle.std.proofs.Common.{◌≤◌, arith, refl}
use Rattle.gm_graph.proofs.Numbering.{bounds-occur}
use Rattle.gm_graph.proofs.bounds.Bounds.of.Goals as goal

pub returns-clause-least : goal.returns-clause-least
returns-clause-least c = λ ordered.
    let fits : c.widened-3.result.greatest ≤ 18446744073709551615 = omega arith in
    (bounds-occur _ c.widened.result c.widened-2.result c.widened-3.result c.args.from.now c.args.to.now c.args.extra.now refl refl fits c.widened.ensures c.widened-2.ensures c.widened-3.ensures ordered).0

pub returns-clause-greatest : goal.returns-clause-greatest
returns-clause-greatest c = λ ordered.
    let fits : c.widened-3.result.greatest ≤ 18446744073709551615 = omega arith in
    (bounds-occur _ c.widened.result c.widened-2.result c.widened-3.result c.args.from.now c.args.to.now c.args.extra.now refl refl fits c.widened.ensures c.widened-2.ensures c.widened-3.ensures ordered).1
