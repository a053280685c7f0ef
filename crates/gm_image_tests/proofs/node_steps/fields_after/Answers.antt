-- There is an inbox for each node.
use Rattle.std.proofs.Common.{◌∙◌, length, ap}
use Rattle.std.proofs.lemmas.List.FromFn.{length-map-range_with_len}
use Rattle.gm_machine.specs.Machine.{inbox}
use Rattle.gm_image_tests.proofs.node_steps.fields_after.Goals as goal

pub steps_of_nodes-requires-clause-inbox : goal.steps_of_nodes-requires-clause-inbox
steps_of_nodes-requires-clause-inbox c =
    ap length c.in_ok-inbox.ensures ∙ length-map-range_with_len (inbox c.args.waiting) 0 c.len-count.result ∙ c.len-count.ensures
