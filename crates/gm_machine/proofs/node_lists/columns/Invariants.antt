-- The columns of the outputs so far.
use Rattle.std.proofs.Common.{◌≡◌, ◌++◌, drop, map}
use Rattle.gm_image.specs.Views.{output}
use Rattle.gm_machine.specs.Machine.{properties, column_of}
use Rattle.gm_machine.proofs.node_lists.columns.Given as goal

abbrev pub invariant-loop-item : goal.invariant-loop-item
invariant-loop-item l =
    l.columns.items ++ map (λ i. column_of (map (λ row. row.items) l.fields) i.slot) (properties (map output (drop l.item-index l.outputs)))
    ≡ map (λ i. column_of (map (λ row. row.items) l.fields) i.slot) (properties (map output l.outputs))
