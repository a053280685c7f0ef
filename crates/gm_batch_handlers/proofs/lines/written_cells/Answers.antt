use Rattle.std.proofs.Common.{ap, arith, length, refl, take}
use Rattle.gm_kernels.proofs.Writing.{written-more, written_long}
use Rattle.gm_batch_handlers.proofs.lines.written_cells.Goals as goal

pub index_mut-requires : goal.index_mut-requires
index_mut-requires g c =
    let i = c.loop-i.i in
    omega (
      arith,
      c.requires.within i 0 c.loop-i-test.true,
      ap length c.loop-i.invariant,
      c.loop-i.cells.ok,
      written_long c.args.held.now (take i c.args.rows.now) (take i c.args.values.now),
    )

pub loop-i-preserved : goal.loop-i-preserved
loop-i-preserved g c =
    written-more c.args.held.now c.loop-i.cells.items c.args.rows.now c.args.values.now c.loop-i.i _ c.index-values-i.result
    c.loop-i-test.true c.requires.rows refl c.index-values-i.is c.loop-i.invariant
