-- The nodes so far.
use Rattle.std.proofs.Common.{◌≡◌, nat_eq, true, false}
use Rattle.std.specs.Prelude.{slice_index_or, if◌then◌else◌}
use Rattle.std.specs.List.{list_all}
use Rattle.gm_core.specs.Cores.{owner, below}
use Rattle.gm_core.proofs.legality.has_computed.Given as goal

abbrev pub invariant-loop-node : goal.invariant-loop-node
invariant-loop-node l = list_all (λ n. if nat_eq (owner l.owners n) l.worker then slice_index_or l.marks n false else true) (below l.node) ≡ true
