-- The columns that are left go to the inputs that are left.
use Rattle.std.proofs.Common.{◌≡◌, drop, map}
use Rattle.gm_image.specs.Views.{input}
use Rattle.gm_machine.specs.Machine.{properties, with_inputs, row_at}
use Rattle.gm_machine.proofs.starts.bind_properties.Given as goal

abbrev pub invariant-loop-item : goal.invariant-loop-item
invariant-loop-item l =
    with_inputs (properties (map input (drop l.item-index l.inputs))) (drop l.column (row_at l.graph.node_columns l.node)) l.fields.items
    ≡ with_inputs (properties (map input l.inputs)) (row_at l.graph.node_columns l.node) l.fn.fields.items
