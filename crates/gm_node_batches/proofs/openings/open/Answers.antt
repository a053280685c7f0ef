-- Nothing waits any more, or what waited is sorted.
use Rattle.std.proofs.Common.{◌≡◌, ◌∙◌, List, length, ap, subst}
use Rattle.std.proofs.lemmas.List.FromFn.{length-map-range_with_len}
use Rattle.gm_machine.specs.Machine.{inbox}
use Rattle.gm_machine.specs.Vertex.{Message}
use Rattle.gm_node_batches.specs.Openings.{AreSameSteps, boxes_of}
use Rattle.gm_node_batches.proofs.HandledLaws.{nothing-waits}
use Rattle.gm_node_batches.proofs.openings.open.Goals as goal

pub returns-then-branch-clause-same_steps : goal.returns-then-branch-clause-same_steps
returns-then-branch-clause-same_steps c =
    subst (λ (ms : List Message). AreSameSteps c.args.duty.now c.args.nodes.now c.empty.result c.by_columns.new.fields.rows (boxes_of ms (length c.args.nodes.now)) c.args.fields.now.rows)
    c.in-Some.ensures (c.in_ok-by_columns.ensures.same_steps c.if-branch.true c.empty.result (nothing-waits c.empty.result (length c.args.nodes.now) c.empty.ensures))

pub returns-clause-boxes : goal.returns-clause-boxes
returns-clause-boxes c = ap (λ (bs : List (List Message)). length bs) c.in_ok-inbox.ensures ∙ length-map-range_with_len (inbox c.in_ok-waiting.waiting) 0 (length c.args.nodes.now)
