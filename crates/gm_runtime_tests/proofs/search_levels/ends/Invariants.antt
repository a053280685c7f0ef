use Rattle.std.proofs.Common.{◌≡◌, length}
use Rattle.gm_runtime_tests.proofs.search_levels.ends.Given as goal

abbrev pub invariant-loop-edge : goal.invariant-loop-edge
invariant-loop-edge l = (length l.from ≡ l.edge-index) × (length l.to ≡ l.edge-index)
