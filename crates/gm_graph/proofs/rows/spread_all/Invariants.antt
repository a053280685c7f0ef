use Rattle.std.proofs.Common.{◌≡◌, map, take}
use Rattle.gm_graph.specs.Spreads.{value_in}
use Rattle.gm_graph.proofs.rows.spread_all.Given as goal

abbrev pub invariant-loop-column : goal.invariant-loop-column
invariant-loop-column l =
    map (λ c. c.values) l.all.items ≡ map (λ c. map (value_in c) l.rows) (take l.column-index l.columns)
