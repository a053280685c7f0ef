-- One more turn.
use Rattle.std.proofs.Common.{None, Some, map}
use Rattle.gm_model.specs.Graphs.{Step}
use Rattle.gm_graph.specs.Walks.{edge_at}
use Rattle.gm_image.specs.Views.{line}
use Rattle.gm_machine.specs.VertexViews.{context_of, state_of, direction}
use Rattle.gm_machine.specs.Vertex.{turns_after, steps}
use Rattle.gm_machine.proofs.LineSteps.{turns-more}
use Rattle.gm_machine.proofs.lines.run_turns.Goals as goal

pub loop-k-preserved : goal.loop-k-preserved
loop-k-preserved c =
    let es = steps (direction c.args.out) c.args.context.now.graph.now c.args.context.now.node in
    let e : Step = record { node = c.step_at-neighbour.result.0; edge = edge_at c.args.context.now.graph.now (Some c.step_at-neighbour.result.1) } in
    turns-more (context_of c.args.context.now) (map line c.args.lines.now) es c.loop-k.k e (state_of c.loop-k.state) (state_of c.run_lines.new.state)
    c.loop-k.fault c.in_ok-one.one c.lesser-fault.result (turns_after (context_of c.args.context.now) (map line c.args.lines.now) es (state_of c.args.state.now) None)
    c.step_at-neighbour.ensures c.in_ok-one.ensures c.lesser-fault.ensures c.loop-k.invariant
