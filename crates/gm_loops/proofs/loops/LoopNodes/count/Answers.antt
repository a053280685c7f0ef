use Rattle.std.proofs.Common.{sym}
use Rattle.gm_loops.proofs.Looping.{length-numbers}
use Rattle.gm_loops.proofs.loops.LoopNodes.count.Goals as goal

pub returns-in-Below : goal.returns-in-Below
returns-in-Below c = rw c.in-Below.is (sym (length-numbers 0 c.in-Below.count))
