-- The values so far.
use Rattle.std.proofs.Common.{◌≡◌, map, take}
use Rattle.gm_machine.specs.Expressions.{edge_value_at}
use Rattle.gm_batch_steps.specs.Turns.{edges_at}
use Rattle.gm_batch_steps.proofs.turn_values.edge_values.Given as goal

abbrev pub invariant-loop-i : goal.invariant-loop-i
invariant-loop-i l = (l.values.vtype ≡ l.vtype) × (l.values.values ≡ map (λ edge. edge_value_at l.graph l.column edge) (edges_at l.graph (take l.i l.edges)))
