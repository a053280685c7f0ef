use Rattle.std.proofs.Common.{◌≡◌, map, take}
use Rattle.gm_mtx.specs.MatrixMarket.{zero_column}
use Rattle.gm_mtx.proofs.tables.zero_columns.Given as goal

abbrev pub invariant-loop-vtype : goal.invariant-loop-vtype
invariant-loop-vtype l = l.columns.items ≡ map (zero_column l.nodes) (take l.vtype-index l.types)
