-- The steps at all places are those of all nodes.
use Rattle.std.proofs.Common.{◌≤◌, ◌∙◌, ap, sym, arith}
use Rattle.gm_machine.specs.declared.fields.FieldColumns.{FieldColumns}
use Rattle.gm_machine.specs.declared.node_steps.Nodes.TheVariants.{All}
use Rattle.gm_machine.specs.Duties.{place_after}
use Rattle.gm_machine.specs.Fields.{fields_of}
use Rattle.gm_machine.specs.Supersteps.{all_after}
use Rattle.gm_machine.proofs.FieldRows.{length-by_node}
use Rattle.gm_machine.proofs.NodeSteps.{steps-whole, nodes-whole}
use Rattle.gm_machine.proofs.supersteps.step_all.Goals as goal

pub steps_of_nodes-requires-clause-fields : goal.steps_of_nodes-requires-clause-fields
steps_of_nodes-requires-clause-fields c =
    length-by_node c.replace.result.nodes _ ∙ ap (λ (f : FieldColumns). f.nodes) c.replace.ensures.value ∙ c.requires.nodes ∙ sym c.node_count-count.ensures.count

pub returns-clause-nodes : goal.returns-clause-nodes
returns-clause-nodes c =
    nodes-whole (place_after c.args.duty.now (All c.node_count-count.result) c.args.inbox.now (fields_of c.replace.result)) c.in_ok-to.to c.replace.result c.args.columns.now c.fields.inside.columns c.steps_of_nodes.new.fields c.args.sent.now c.steps_of_nodes.new.sent
    c.replace.ensures.value c.fields.view_is c.in_ok-to.ensures.steps

pub returns-clause-steps : goal.returns-clause-steps
returns-clause-steps c =
    let all : c.node_count-count.result ≤ c.in_ok-to.to = omega (arith, c.if-to-count.false) in
    steps-whole (all_after c.args.duty.now c.args.inbox.now) c.in_ok-to.to c.node_count-count.result c.replace.result c.args.columns.now c.fields.inside.columns c.steps_of_nodes.new.fields c.args.sent.now c.steps_of_nodes.new.sent
    c.replace.ensures.value c.fields.view_is all (c.requires.nodes ∙ sym c.node_count-count.ensures.count) c.in_ok-to.ensures.steps
