-- The degrees so far.
use Rattle.std.proofs.Common.{◌≡◌, map, take}
use Rattle.gm_batches.specs.Degrees.{degree}
use Rattle.gm_batches.proofs.degrees.out_degrees.Given as goal

abbrev pub invariant-loop-row : goal.invariant-loop-row
invariant-loop-row l = l.degrees.items ≡ map (degree l.graph) (take l.row l.nodes)
