use Rattle.std.proofs.Common.{take}
use Rattle.std.specs.Prelude.{All}
use Rattle.gm_columns.specs.Columns.{CanHold}
use Rattle.gm_graph.proofs.builds.know_types.Given as goal

abbrev pub invariant-loop-column : goal.invariant-loop-column
invariant-loop-column l = All (λ c. All (CanHold c.vtype) c.values) (take l.column-index l.columns)
