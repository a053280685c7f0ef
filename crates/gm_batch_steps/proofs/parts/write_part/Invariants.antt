-- What was written so far.
use Rattle.std.proofs.Common.{◌≡◌, ◌-◌, take}
use Rattle.gm_batch_steps.specs.Parts.{with_part}
use Rattle.gm_batch_steps.proofs.parts.write_part.Given as goal

abbrev pub invariant-loop-place : goal.invariant-loop-place
invariant-loop-place g l = l.cells.items ≡ with_part l.from l.fn.cells.items (take (l.place - l.from) l.part)
