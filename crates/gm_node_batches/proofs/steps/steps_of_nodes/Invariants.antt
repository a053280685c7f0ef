-- The steps so far.
use Rattle.std.proofs.Common.{◌-◌}
use Rattle.gm_machine.specs.Duties.{place_after}
use Rattle.gm_node_batches.specs.Taken.{StepsTaken}
use Rattle.gm_node_batches.proofs.steps.steps_of_nodes.Given as goal

abbrev pub invariant-batches : goal.invariant-batches
invariant-batches l = StepsTaken (place_after l.duty l.nodes l.inbox l.fn.fields.rows) l.from l.next l.fn.fields l.fields l.fn.sent l.sent

abbrev pub decreases-batches : goal.decreases-batches
decreases-batches l = l.places - l.next
