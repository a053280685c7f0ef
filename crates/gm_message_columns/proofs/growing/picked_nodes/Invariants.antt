-- The nodes in the first rows have been picked.
use Rattle.std.proofs.Common.{◌≡◌, map, take}
use Rattle.std.specs.Prelude.{slice_index}
use Rattle.gm_message_columns.proofs.growing.picked_nodes.Given as goal

abbrev pub invariant-loop-row : goal.invariant-loop-row
invariant-loop-row l = l.picked.items ≡ map (slice_index l.nodes) (take l.row-index l.rows)
