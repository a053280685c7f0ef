-- The owners so far.
use Rattle.std.proofs.Common.{◌≡◌, ◌<◌, map}
use Rattle.std.specs.Prelude.{All}
use Rattle.std.specs.List.{range_with_len}
use Rattle.gm_partition.specs.Owners.{owner_is}
use Rattle.gm_core.proofs.owners.owners_of.Given as goal

abbrev pub invariant-loop-node : goal.invariant-loop-node
invariant-loop-node l = record {
  each : l.owners.items ≡ map (owner_is l.owner l.workers l.nodes) (range_with_len 0 l.node);
  below : All (λ w. w < l.workers) l.owners.items;
}
