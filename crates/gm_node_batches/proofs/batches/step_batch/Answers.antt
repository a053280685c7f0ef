-- No messages wait for the nodes of the list.
use Rattle.std.proofs.Common.{List, sym, subst}
use Rattle.gm_machine.specs.declared.node_steps.Nodes.{Nodes}
use Rattle.gm_machine.specs.Duties.{AreNodes, place_after}
use Rattle.gm_node_batches.specs.Taken.{StepsTaken}
use Rattle.gm_machine.specs.Vertex.{Message}
use Rattle.gm_node_batches.specs.Inboxes.{AllEmpty}
use Rattle.gm_node_batches.proofs.batches.step_batch.Goals as goal

pub by_columns-requires-clause-nodes : goal.by_columns-requires-clause-nodes
by_columns-requires-clause-nodes c = subst (λ (ns : Nodes). AreNodes c.args.duty.now.graph.now ns) c.in-These.is c.requires.nodes

pub returns-then-branch : goal.returns-then-branch
returns-then-branch c =
    let empty : AllEmpty c.args.inbox.now = subst (λ (boxes : List (List Message)). AllEmpty boxes) c.inbox.view_is (c.inbox.invariant c.if-inbox.true) in
    subst (λ (ns : Nodes). StepsTaken (place_after c.args.duty.now ns c.args.inbox.now c.args.fields.now.rows) c.args.from c.args.to c.args.fields.now c.by_columns.new.fields c.args.sent.now c.by_columns.new.sent)
    (sym c.in-These.is) (c.in_ok-by_columns.ensures.steps c.if-branch.true c.args.inbox.now empty)
