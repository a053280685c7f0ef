-- The columns of the outputs so far.
use Rattle.std.proofs.Common.{◌≡◌, ◌++◌, List, drop, map}
use Rattle.gm_value.specs.declared.values.Value.{Value}
use Rattle.gm_image.specs.Views.{output}
use Rattle.gm_machine.specs.Machine.{properties, column_of}
use Rattle.gm_machine.specs.OwnFields.{AreRows}
use Rattle.gm_machine.proofs.own_fields.columns.Given as goal

abbrev pub invariant-loop-item : goal.invariant-loop-item
invariant-loop-item l =
    (rows : List (List Value)) → AreRows l.fields l.owners l.places rows →
    l.columns.items ++ map (λ i. column_of rows i.slot) (properties (map output (drop l.item-index l.outputs))) ≡ map (λ i. column_of rows i.slot) (properties (map output l.outputs))
