-- The nodes so far have their first fields.
use Rattle.std.proofs.Common.{◌≡◌, length, map, take}
use Rattle.std.specs.List.{enumerate_from}
use Rattle.gm_model.specs.Graphs.{node_count}
use Rattle.gm_image.specs.Views.{program}
use Rattle.gm_machine.specs.Fields.{fields_of, IsFull}
use Rattle.gm_machine.specs.Machine.{start_fields}
use Rattle.gm_machine.proofs.starts.start.Given as goal

abbrev pub invariant-loop-node : goal.invariant-loop-node
invariant-loop-node l = record {
  nodes : l.fields.nodes ≡ node_count l.graph;
  full : IsFull (length l.image.fields) l.fields;
  started : take l.node (fields_of l.fields) ≡ take l.node (map (start_fields (program l.image) l.graph) (enumerate_from 0 l.graph.numbers));
}
