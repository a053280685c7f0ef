use Rattle.std.proofs.Common.{◌≡◌, map, take}
use Rattle.gm_graph.specs.Spreads.{value_in}
use Rattle.gm_graph.proofs.rows.spread.Given as goal

abbrev pub invariant-loop-row : goal.invariant-loop-row
invariant-loop-row l =
    (l.spread.vtype ≡ l.column.vtype) × (l.spread.values ≡ map (value_in l.column) (take l.row-index l.rows))
