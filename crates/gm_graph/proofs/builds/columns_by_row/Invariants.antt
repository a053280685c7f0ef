use Rattle.std.proofs.Common.{◌≡◌, map, take}
use Rattle.gm_graph.specs.Rows.{value_at}
use Rattle.gm_graph.proofs.builds.columns_by_row.Given as goal

abbrev pub invariant-loop-column : goal.invariant-loop-column
invariant-loop-column l =
    map (λ c. c.values) l.placed.items ≡ map (λ c. map (value_at c.values) l.lines) (take l.column-index l.columns)
