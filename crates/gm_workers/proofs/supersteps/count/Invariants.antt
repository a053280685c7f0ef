-- The messages to the workers so far.
use Rattle.std.proofs.Common.{◌≡◌, ◌+◌, drop, length}
use Rattle.std.specs.List.{flat_map}
use Rattle.gm_workers.specs.Parts.{messages_in}
use Rattle.gm_workers.proofs.supersteps.count.Given as goal

abbrev pub invariant-loop-slot : goal.invariant-loop-slot
invariant-loop-slot l = l.count + length (flat_map (λ x. messages_in x.waiting.items) (drop l.slot-index l.slots)) ≡ length (flat_map (λ x. messages_in x.waiting.items) l.slots)
