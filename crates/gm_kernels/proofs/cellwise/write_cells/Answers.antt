use Rattle.std.proofs.Common.{arith}
use Rattle.gm_kernels.proofs.Pairs.{cell-more}
use Rattle.gm_kernels.proofs.cellwise.write_cells.Goals as goal

pub loop-row-preserved : goal.loop-row-preserved
loop-row-preserved g c =
    cell-more g.O.Cellwise.op g.O.Cellwise.from g.O.Cellwise.to c.args.cells.now c.loop-row.out c.loop-row.row
    c.index-cells-row.result c.at-cell.result.0 c.loop-row.faults c.at-cell.result.1
    (omega (arith, c.loop-row-test.true, c.requires)) (omega (arith, c.loop-row-test.true, c.loop-row.auto.out))
    c.index-cells-row.is c.loop-row.invariant c.at-cell.ensures
