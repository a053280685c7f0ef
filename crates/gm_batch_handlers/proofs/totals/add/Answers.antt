use Rattle.std.proofs.Common.{Some, subst, sym}
use Rattle.gm_columns.specs.Cells.{values_of}
use Rattle.gm_columns.specs.TypedRows.{typed_row}
use Rattle.gm_batch_handlers.specs.Gifts.{Adds}
use Rattle.gm_batch_handlers.proofs.AddLaws.{adds-other}
use Rattle.gm_batch_handlers.proofs.totals.add.Goals as goal

pub returns-in-Some : goal.returns-in-Some
returns-in-Some c done =
    subst (λ o. Adds c.args.reduce c.args.place (values_of c.args.held.now) o c.args.at.now c.args.column.now.values (Some c.add_more.new.total)) (sym c.in-Some.is)
    (adds-other c.args.reduce c.args.place (typed_row c.in-Some.total.cells).values (values_of c.args.held.now) c.in-Some.total c.args.at.now c.args.column.now.values (Some c.add_more.new.total)
    (c.add_more.ensures done))
