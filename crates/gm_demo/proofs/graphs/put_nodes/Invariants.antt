use Rattle.std.proofs.Common.{◌≡◌, ◌++◌}
use Rattle.gm_demo.specs.Texts.{node_lines}
use Rattle.gm_demo.proofs.graphs.put_nodes.Given as goal

abbrev pub invariant-loop-node : goal.invariant-loop-node
invariant-loop-node l = l.text.items ≡ l.initial.text.items ++ node_lines l.node
