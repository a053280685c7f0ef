use Rattle.std.proofs.Common.{◌≡◌, map, take, slice_index_or}
use Rattle.gm_columns.proofs.columns.picked.Given as goal

-- the cells of the first rows
abbrev pub invariant-loop-row : goal.invariant-loop-row
invariant-loop-row g l = (d : g.row.T.Denot) → l.picked.items ≡ map (λ row. slice_index_or l.cells row d) (take l.row-index l.rows)
