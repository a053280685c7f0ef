use Rattle.std.proofs.Common.{take}
use Rattle.gm_loops.specs.Turns.{Overlays}
use Rattle.gm_loops.proofs.turns.write_all.Given as goal

-- the writes so far are done
abbrev pub invariant-loop-write : goal.invariant-loop-write
invariant-loop-write l = Overlays l.fn.store l.store (take l.write-index l.writes)
