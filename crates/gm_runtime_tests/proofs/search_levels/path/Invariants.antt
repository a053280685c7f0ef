use Rattle.std.proofs.Common.{◌≡◌, length}
use Rattle.gm_runtime_tests.proofs.search_levels.path.Given as goal

abbrev pub invariant-loop-number : goal.invariant-loop-number
invariant-loop-number l = length l.edges.items ≡ l.number
