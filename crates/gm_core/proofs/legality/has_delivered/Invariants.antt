-- The workers so far.
use Rattle.std.proofs.Common.{◌≡◌, nat_eq, true, length}
use Rattle.std.specs.List.{list_all}
use Rattle.gm_core.specs.Cores.{below}
use Rattle.gm_core.specs.CoreViews.{row_at}
use Rattle.gm_core.proofs.legality.has_delivered.Given as goal

abbrev pub invariant-loop-to : goal.invariant-loop-to
invariant-loop-to l = list_all (λ w. nat_eq (length (row_at l.outbox w)) 0) (below l.to) ≡ true
