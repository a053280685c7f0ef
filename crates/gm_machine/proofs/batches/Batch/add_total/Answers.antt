-- One message with the value has the total.
use Rattle.gm_machine.proofs.HandedTotals.{small-total}
use Rattle.gm_machine.proofs.batches.Batch.add_total.Goals as goal

pub returns-in_ok-add-in-Small-clause-added : goal.returns-in_ok-add-in-Small-clause-added
returns-in_ok-add-in-Small-clause-added c =
    λ exact shows. small-total c.args.self.now c.add.new.self c.args.to c.args.kind c.args.reduce c.in-Small.value c.args.total exact c.in_ok-add-in-Small.ensures.added c.in-Small.is shows
