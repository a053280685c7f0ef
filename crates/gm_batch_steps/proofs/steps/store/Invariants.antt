-- The fields that were written so far.
use Rattle.std.proofs.Common.{◌≡◌, map, take}
use Rattle.gm_columns.specs.Cells.{values_of}
use Rattle.gm_batch_steps.specs.Parts.{with_parts}
use Rattle.gm_batch_steps.proofs.steps.store.Given as goal

abbrev pub invariant-loop-slot : goal.invariant-loop-slot
invariant-loop-slot l = map values_of l.fields.items ≡ with_parts l.from (map values_of l.fn.fields.items) (map values_of (take l.slot l.parts))
