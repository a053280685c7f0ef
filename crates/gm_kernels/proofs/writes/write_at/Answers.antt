use Rattle.std.proofs.Common.{arith, refl}
use Rattle.gm_kernels.proofs.Writing.{written-more}
use Rattle.gm_kernels.proofs.writes.write_at.Goals as goal

pub loop-row-preserved : goal.loop-row-preserved
loop-row-preserved g c =
    written-more c.args.cells.now c.loop-row.cells c.args.places.now c.args.values.now c.loop-row.row _ c.index-values-row.result
    c.loop-row-test.true c.requires.values refl c.index-values-row.is c.loop-row.invariant
