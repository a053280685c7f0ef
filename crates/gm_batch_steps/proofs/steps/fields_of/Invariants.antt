-- The parts so far.
use Rattle.std.proofs.Common.{◌≡◌, map, take}
use Rattle.std.specs.Prelude.{slice_range}
use Rattle.gm_columns.specs.Cells.{values_of}
use Rattle.gm_batch_steps.proofs.steps.fields_of.Given as goal

abbrev pub invariant-loop-cells : goal.invariant-loop-cells
invariant-loop-cells l = map values_of l.parts.items ≡ map (λ cells. slice_range (values_of cells) l.from l.to) (take l.cells-index l.fields)
