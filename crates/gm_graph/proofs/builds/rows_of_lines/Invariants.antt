use Rattle.std.proofs.Common.{◌≡◌, ◌<◌, ℕ, length, slice_index, vec_len}
use Rattle.gm_graph.specs.Rows.{row_of}
use Rattle.gm_graph.proofs.builds.rows_of_lines.Given as goal

-- the rows of the lines that stand in the first rows
abbrev pub invariant-loop-row : goal.invariant-loop-row
invariant-loop-row l =
    (vec_len l.rows ≡ length l.lines)
    × ((line : ℕ) → line < length l.lines → row_of l.lines line < l.row → slice_index l.rows.items line ≡ row_of l.lines line)
