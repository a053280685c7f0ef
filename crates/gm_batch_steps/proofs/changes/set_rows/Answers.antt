use Rattle.std.proofs.Common.{◌∙◌, ap, arith, length, refl, sym, take}
use Rattle.std.proofs.lemmas.Option.{get_or_from_slice_get}
use Rattle.gm_columns.specs.Cells.{values_of}
use Rattle.gm_kernels.proofs.Writing.{written-more, written_long}
use Rattle.gm_batch_steps.proofs.changes.set_rows.Goals as goal

pub set-requires : goal.set-requires
set-requires c =
    let i = c.loop-i.i in
    omega (
      arith,
      c.requires.within i 0 c.loop-i-test.true,
      ap length c.loop-i.invariant,
      written_long (values_of c.args.cells.now) (take i c.args.rows.now) (take i c.args.column.now.values),
    )

pub loop-i-preserved : goal.loop-i-preserved
loop-i-preserved c =
    let i = c.loop-i.i in
    c.in_ok-set.ensures
    ∙ written-more (values_of c.args.cells.now) (values_of c.loop-i.cells) c.args.rows.now c.args.column.now.values i _ c.get.result
    c.loop-i-test.true c.requires.rows refl (sym (get_or_from_slice_get c.args.column.now.values i c.get.result c.get.result c.get.ensures.value)) c.loop-i.invariant
