use Rattle.std.proofs.Common.{◌≡◌, take}
use Rattle.gm_columns.specs.Cells.{values_of}
use Rattle.gm_columns.proofs.cells.Cells.mixed.Given as goal

-- the values so far are those of the first nodes
abbrev pub invariant-loop-node : goal.invariant-loop-node
invariant-loop-node l = l.values.items ≡ take l.node (values_of l.self)
