-- The nodes so far.
use Rattle.std.proofs.Common.{◌≡◌, map, take}
use Rattle.std.specs.List.{enumerate_from}
use Rattle.gm_image.specs.Views.{program}
use Rattle.gm_machine.specs.Machine.{start_fields}
use Rattle.gm_core.proofs.runs.all_fields.Given as goal

abbrev pub invariant-loop-node : goal.invariant-loop-node
invariant-loop-node l = map (λ row. row.items) l.fields.items ≡ take l.node (map (start_fields (program l.image) l.graph) (enumerate_from 0 l.graph.numbers))
