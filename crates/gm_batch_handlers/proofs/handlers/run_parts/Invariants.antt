-- What the messages so far gave.
use Rattle.std.proofs.Common.{◌≤◌, ◌-◌, map}
use Rattle.std.specs.List.{range_with_len}
use Rattle.gm_columns.specs.Cells.{values_of}
use Rattle.gm_batch_handlers.specs.Gathering.{Gathers}
use Rattle.gm_batch_handlers.specs.Gifts.{AreLong}
use Rattle.gm_batch_handlers.specs.Handling.{all_values, message_in}
use Rattle.gm_batch_handlers.proofs.handlers.run_parts.Given as goal

abbrev pub invariant-parts : goal.invariant-parts
invariant-parts l =
    (l.from ≤ l.count)
    × (AreLong (map values_of l.fields) l.state.totals.items
    × Gathers l.duty l.nodes (map values_of l.fields) (map (message_in l.kind l.to (all_values l.values)) (range_with_len 0 l.from)) l.state.totals.items)

abbrev pub decreases-parts : goal.decreases-parts
decreases-parts l = l.count - l.from
