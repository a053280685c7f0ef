-- The slots that are left, and the fields that were stored.
use Rattle.std.proofs.Common.{◌≡◌, ◌<◌, ◌≤◌, ℕ, None, get_or, length, map}
use Rattle.gm_columns.specs.Cells.{values_of}
use Rattle.gm_batch_handlers.proofs.StoreLaws.{IsStoredTo}
use Rattle.gm_batch_handlers.proofs.totals.store.Given as goal

abbrev pub invariant-storing : goal.invariant-storing
invariant-storing l =
    (length l.totals.items ≤ length l.fn.fields.items)
    × (IsStoredTo (map values_of l.fn.fields.items) l.fn.totals.items (length l.totals.items) (map values_of l.fields.items)
    × ((k : ℕ) → k < length l.totals.items → get_or l.totals.items k None ≡ get_or l.fn.totals.items k None))

abbrev pub decreases-storing : goal.decreases-storing
decreases-storing l = length l.totals.items
