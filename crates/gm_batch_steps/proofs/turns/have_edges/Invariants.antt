-- The flags so far.
use Rattle.std.proofs.Common.{◌≡◌, map, take}
use Rattle.std.specs.Prelude.{All}
use Rattle.gm_batch_steps.specs.Turns.{IsInGraph, has_edges}
use Rattle.gm_batch_steps.proofs.turns.have_edges.Given as goal

abbrev pub invariant-loop-i : goal.invariant-loop-i
invariant-loop-i l = (l.flags.items ≡ map (has_edges l.context) (take l.i l.rows)) × All (IsInGraph l.context) (take l.i l.rows)
