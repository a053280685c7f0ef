-- The turns that are left lead to where all turns lead.
use Rattle.std.proofs.Common.{◌≡◌, drop, map, None}
use Rattle.gm_image.specs.Views.{line}
use Rattle.gm_machine.specs.VertexViews.{context_of, state_of, direction}
use Rattle.gm_machine.specs.Vertex.{turns_after, steps}
use Rattle.gm_machine.proofs.lines.run_turns.Given as goal

abbrev pub invariant-loop-k : goal.invariant-loop-k
invariant-loop-k l =
    turns_after (context_of l.context) (map line l.lines) (drop l.k (steps (direction l.out) l.context.graph.now l.context.node)) (state_of l.state) l.fault
    ≡ turns_after (context_of l.context) (map line l.lines) (steps (direction l.out) l.context.graph.now l.context.node) (state_of l.fn.state) None
