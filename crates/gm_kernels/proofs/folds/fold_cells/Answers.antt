use Rattle.std.proofs.Common.{arith, refl}
use Rattle.gm_kernels.proofs.FoldSteps.{at-more}
use Rattle.gm_kernels.proofs.folds.fold_cells.Goals as goal

pub loop-row-preserved : goal.loop-row-preserved
loop-row-preserved g c =
    at-more g.O.Folding.op g.O.Folding.to g.O.Folding.from c.args.cells.now c.loop-row.cells c.args.places.now c.args.values.now c.loop-row.row _
    c.index-cells-place.result c.fold-cell.result.0 c.index-values-row.result c.loop-row.faults c.fold-cell.result.1
    c.loop-row-test.true c.requires.values (omega (arith, c.requires.within c.loop-row.row 0 c.loop-row-test.true, c.loop-row.auto.cells))
    refl c.index-values-row.is c.index-cells-place.is c.loop-row.invariant c.fold-cell.ensures
