-- The values of the nodes so far.
use Rattle.std.proofs.Common.{◌≡◌, ◌++◌, drop, map}
use Rattle.gm_machine.specs.Machine.{column_of}
use Rattle.gm_machine.proofs.node_lists.column.Given as goal

abbrev pub invariant-loop-row : goal.invariant-loop-row
invariant-loop-row l =
    l.values.items ++ column_of (map (λ row. row.items) (drop l.row-index l.fields)) l.slot
    ≡ column_of (map (λ row. row.items) l.fields) l.slot
