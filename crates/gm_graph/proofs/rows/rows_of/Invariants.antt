use Rattle.std.proofs.Common.{◌≡◌, ◌<◌, ℕ, length, slice_index, vec_len}
use Rattle.gm_graph.specs.Spreads.{IsRowOf}
use Rattle.gm_graph.proofs.rows.rows_of.Given as goal

abbrev pub invariant-loop-row : goal.invariant-loop-row
invariant-loop-row l =
    (vec_len l.rows ≡ length l.numbers)
    × ((k : ℕ) → k < length l.numbers → IsRowOf l.extra l.row (slice_index l.numbers k) (slice_index l.rows.items k))
