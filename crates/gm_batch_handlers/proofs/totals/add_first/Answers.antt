use Rattle.gm_columns.specs.Cells.{values_of}
use Rattle.gm_batch_handlers.proofs.AddLaws.{adds-first}
use Rattle.gm_batch_handlers.proofs.totals.add_first.Goals as goal

pub returns : goal.returns
returns c =
    adds-first c.args.reduce c.args.place (values_of c.args.held.now) c.in-Some.cells c.fold_at.new.cells c.args.at.now c.args.column.now.values c.in_ok-cells.field-0 c.fold_at.result
    c.in-Some.is c.in_ok-cells.ensures c.fold_at.ensures.values c.if-fold_at.false
