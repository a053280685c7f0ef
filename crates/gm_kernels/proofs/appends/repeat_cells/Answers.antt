use Rattle.std.proofs.Common.{arith, refl}
use Rattle.gm_kernels.proofs.Repeating.{repeated-more}
use Rattle.gm_kernels.proofs.appends.repeat_cells.Goals as goal

pub loop-row-preserved : goal.loop-row-preserved
loop-row-preserved g c =
    repeated-more c.args.counts.now c.args.cells.now c.loop-row.out.items _ c.loop-row.row _ c.index-cells-row.result
    c.loop-row-test.true c.requires refl c.index-cells-row.is c.loop-row.invariant c.in_ok-push_copies.ensures
