use Rattle.std.proofs.Common.{take}
use Rattle.gm_loops.specs.Own.{Sets}
use Rattle.gm_loops.proofs.own.set_all.Given as goal

-- the writes so far are done
abbrev pub invariant-loop-write : goal.invariant-loop-write
invariant-loop-write l = Sets l.fn.store l.store (take l.write-index l.writes)
