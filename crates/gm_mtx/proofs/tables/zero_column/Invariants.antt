use Rattle.std.proofs.Common.{◌≡◌}
use Rattle.gm_mtx.specs.MatrixMarket.{zero_column}
use Rattle.gm_mtx.proofs.tables.zero_column.Given as goal

abbrev pub invariant-loop-row : goal.invariant-loop-row
invariant-loop-row l = l.column ≡ zero_column l.row l.vtype
