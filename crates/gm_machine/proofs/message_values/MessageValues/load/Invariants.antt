-- The values of the cells so far.
use Rattle.std.proofs.Common.{◌≡◌, map, take}
use Rattle.gm_machine.specs.MessageValues.{cell_value}
use Rattle.gm_machine.proofs.message_values.MessageValues.load.Given as goal

abbrev pub invariant-loop-cell : goal.invariant-loop-cell
invariant-loop-cell l = l.into.items ≡ map (cell_value l.words l.fn.header.start) (take l.cell-index l.cell-items)
