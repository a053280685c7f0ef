use Rattle.gm_batch_handlers.proofs.AddLaws.{adds-more}
use Rattle.std.proofs.Common.{rules}
use Rattle.gm_batch_handlers.proofs.totals.add_more.Goals as goal

pub returns : goal.returns
returns c done =
    adds-more c.args.reduce c.args.place c.args.total.now c.args.at.now c.args.column.now.values c.fold_at.new.cells c.fold_at.result
    (c.is_by.ensures (search rules)) c.fold_at.ensures.values done
