use Rattle.std.proofs.Common.{arith}
use Rattle.gm_prepare.proofs.Placing.{placed-next, placed-done}
use Rattle.gm_prepare.proofs.iterators.place_inners.Goals as goal

pub placing-preserved : goal.placing-preserved
placing-preserved c =
    let at = c.placing in
    placed-next c.in-Some.variable _ at.inners.items at.declarations.items _ _ c.in-Some.ensures.items c.place_inner.ensures at.invariant

pub returns : goal.returns
returns c =
    let at = c.placing in
    placed-done at.inners.items at.declarations.items _ (omega (arith, c.in_default.ensures.cases)) at.invariant
