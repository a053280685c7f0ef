use Rattle.std.proofs.Common.{◌≡◌, ◌++◌, ◌*◌}
use Rattle.gm_demo.specs.Draws.{held_after}
use Rattle.gm_demo.specs.Texts.{edge_lines}
use Rattle.gm_demo.proofs.graphs.put_edges.Given as goal

abbrev pub invariant-loop-edge : goal.invariant-loop-edge
invariant-loop-edge l = record {
  written : l.text.items ≡ l.initial.text.items ++ edge_lines l.nodes l._edge;
  held : l.draws.held ≡ held_after l.nodes (3 * l._edge);
}
