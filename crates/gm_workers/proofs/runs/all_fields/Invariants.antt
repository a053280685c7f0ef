-- The fields of the nodes so far.
use Rattle.std.proofs.Common.{◌≡◌, map}
use Rattle.gm_core.specs.Cores.{below}
use Rattle.gm_workers.specs.Crews.{fields_at}
use Rattle.gm_workers.proofs.runs.all_fields.Given as goal

abbrev pub invariant-loop-node : goal.invariant-loop-node
invariant-loop-node l = map (λ row. row.items) l.fields.items ≡ map (fields_at l.crew.dealing.owners.items l.crew.slots.items) (below l.node)
