-- The values of the nodes so far.
use Rattle.std.proofs.Common.{◌≡◌, ◌++◌, List, drop}
use Rattle.gm_value.specs.declared.values.Value.{Value}
use Rattle.gm_machine.specs.Machine.{column_of}
use Rattle.gm_machine.specs.OwnFields.{AreRows}
use Rattle.gm_machine.proofs.own_fields.column.Given as goal

abbrev pub invariant-loop-node : goal.invariant-loop-node
invariant-loop-node l = (rows : List (List Value)) → AreRows l.fields l.owners l.places rows → l.values.items ++ column_of (drop l.node rows) l.slot ≡ column_of rows l.slot
