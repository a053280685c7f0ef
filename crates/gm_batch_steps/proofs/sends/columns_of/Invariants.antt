-- The columns so far.
use Rattle.std.proofs.Common.{◌≡◌, Some, map, take}
use Rattle.std.specs.List.{AllZip}
use Rattle.gm_image.specs.Views.{term}
use Rattle.gm_batches.specs.ValuesIn.{values_in}
use Rattle.gm_batch_steps.specs.Turns.{turn_view, turns_in}
use Rattle.gm_batch_steps.proofs.sends.columns_of.Given as goal

abbrev pub invariant-loop-i : goal.invariant-loop-i
invariant-loop-i l = AllZip (λ a column. values_in (map (turn_view l.context l.state) (turns_in l.context l.turns)) a ≡ Some column.values) (map term (take l.i l.values)) l.columns.items
