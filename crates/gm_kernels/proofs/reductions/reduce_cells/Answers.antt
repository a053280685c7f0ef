use Rattle.gm_kernels.proofs.FoldSteps.{all-more}
use Rattle.gm_kernels.proofs.reductions.reduce_cells.Goals as goal

pub loop-row-preserved : goal.loop-row-preserved
loop-row-preserved g c =
    all-more g.O.Folding.op g.O.Folding.to g.O.Folding.from c.args.held c.loop-row.total c.fold-next.result.0 c.args.cells.now c.loop-row.row
    c.index-cells-row.result c.loop-row.faults c.fold-next.result.1
    c.loop-row-test.true c.index-cells-row.is c.loop-row.invariant c.fold-next.ensures
