-- The workers so far.
use Rattle.std.proofs.Common.{◌≡◌, true, false}
use Rattle.std.specs.Prelude.{slice_index_or}
use Rattle.std.specs.List.{list_all}
use Rattle.gm_core.specs.Cores.{below}
use Rattle.gm_core.proofs.legality.have_arrived.Given as goal

abbrev pub invariant-loop-worker : goal.invariant-loop-worker
invariant-loop-worker l = list_all (λ w. slice_index_or l.arrived w false) (below l.worker) ≡ true
