-- The runs of the messages that are left come behind those that were run.
use Rattle.std.proofs.Common.{drop, map}
use Rattle.gm_image.specs.Views.{handler}
use Rattle.gm_machine.specs.Batches.{message_of}
use Rattle.gm_machine.specs.VertexViews.{context_of, state_of}
use Rattle.gm_machine.specs.Vertex.{begun, handler_run}
use Rattle.gm_machine.proofs.Handlers.{IsBehind}
use Rattle.gm_machine.proofs.bodies.run_handlers.Given as goal

abbrev pub invariant-loop-header : goal.invariant-loop-header
invariant-loop-header l =
    IsBehind (state_of l.fn.state) (state_of l.state) l.fault
    (map (handler_run (context_of l.context) (map handler l.handlers) (begun l.registers l.fn.state.fields.items)) (map (message_of l.values) (drop l.header-index l.headers)))
    (map (handler_run (context_of l.context) (map handler l.handlers) (begun l.registers l.fn.state.fields.items)) (map (message_of l.values) l.headers))
