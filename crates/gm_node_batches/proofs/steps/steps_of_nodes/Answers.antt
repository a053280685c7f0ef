-- The steps of one more batch.
use Rattle.std.proofs.Common.{◌∙◌}
use Rattle.gm_machine.specs.Duties.{place_after}
use Rattle.gm_node_batches.proofs.TakenLaws.{taken-long, taken-next}
use Rattle.gm_node_batches.proofs.steps.steps_of_nodes.Goals as goal

pub step_batch-requires-in-batches-clause-fields : goal.step_batch-requires-in-batches-clause-fields
step_batch-requires-in-batches-clause-fields c =
    taken-long (place_after c.args.duty.now c.args.nodes.now c.args.inbox.now c.args.fields.now.rows) c.args.from c.batches.next c.args.fields.now c.batches.fields c.args.sent.now c.batches.sent c.batches.invariant
    ∙ c.requires.fields

pub batches-preserved : goal.batches-preserved
batches-preserved c =
    taken-next c.args.duty.now c.args.nodes.now c.args.inbox.now c.args.from c.batches.next c.in_ok-next-2.next c.args.fields.now c.batches.fields c.step_batch-in-batches.new.fields
    c.args.sent.now c.batches.sent c.step_batch-in-batches.new.sent c.batches.invariant c.in_ok-next-2.ensures
