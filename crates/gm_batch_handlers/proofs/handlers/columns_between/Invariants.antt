-- The columns so far.
use Rattle.std.proofs.Common.{◌≡◌, map, take}
use Rattle.std.specs.Prelude.{slice_range}
use Rattle.gm_batch_handlers.specs.Handling.{all_values}
use Rattle.gm_batch_handlers.proofs.handlers.columns_between.Given as goal

abbrev pub invariant-loop-column : goal.invariant-loop-column
invariant-loop-column l = all_values l.columns.items ≡ map (λ column. slice_range column.values l.from l.to) (take l.column-index l.values)
