-- What was written so far.
use Rattle.std.proofs.Common.{◌≡◌, ◌-◌, take}
use Rattle.gm_columns.specs.Cells.{values_of}
use Rattle.gm_batch_steps.specs.Parts.{with_part}
use Rattle.gm_batch_steps.proofs.parts.set_part.Given as goal

abbrev pub invariant-loop-place : goal.invariant-loop-place
invariant-loop-place l = values_of l.cells ≡ with_part l.from (values_of l.fn.cells) (take (l.place - l.from) (values_of l.part))
