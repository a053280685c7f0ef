use Rattle.std.proofs.Common.{◌≡◌}
use Rattle.gm_value.specs.declared.values.VType.TheVariants.{I32}
use Rattle.gm_graph_tests.proofs.demos.ints.Given as goal

abbrev pub invariant-loop-number : goal.invariant-loop-number
invariant-loop-number l = l.column.vtype ≡ I32
