-- The handlers of the block set no field.
use Rattle.gm_image.specs.Views.{program}
use Rattle.gm_machine.specs.VertexViews.{code_of}
use Rattle.gm_machine.proofs.OneStep.{block-keeps}
use Rattle.gm_machine.proofs.Serving.{code_served}
use Rattle.gm_machine.proofs.steps.step.Goals as goal

pub run_vertex-requires-clause-asked : goal.run_vertex-requires-clause-asked
run_vertex-requires-clause-asked c =
    code_served c.args.in_rows.now c.args.graph.now (program c.args.image.now) c.args.block (code_of c.block_at-code.result) c.block_at-code.ensures c.requires.served

pub run_vertex-requires-clause-keeps : goal.run_vertex-requires-clause-keeps
run_vertex-requires-clause-keeps c = block-keeps (program c.args.image.now) c.args.block (code_of c.block_at-code.result) c.block_at-code.ensures c.requires.keeps
