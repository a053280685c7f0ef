-- Each kind's row is in order, and the rows go by the kinds.
use Rattle.std.proofs.Common.{◌≡◌, ℕ, None, get_or, length, map, take}
use Rattle.std.specs.Option.{option_map}
use Rattle.gm_combine.specs.Held.{row_at, IsRow, reduce_held, type_held, total_held, type_if}
use Rattle.gm_combine.proofs.rows.Rows.prepare.Given as goal

abbrev pub invariant-loop-kind : goal.invariant-loop-kind
invariant-loop-kind l =
    ((k : ℕ) → IsRow l.width 0 (row_at l.kinds.items k))
    × (map reduce_held l.kinds.items ≡ map (λ kind. kind.combiner) (take l.kind-index l.kind-items))
    × (map type_held l.kinds.items ≡ map type_if (take l.kind-index l.kind-items))
    × ((k place : ℕ) → total_held (row_at l.kinds.items k) place ≡ None)
