-- A superstep with an own loop's block is the loop.
use Rattle.gm_lowering.proofs.OwnLoops.{own-loops}
use Rattle.gm_lowering.proofs.laws.own_loops_are_supersteps.Goals as goal

pub returns : goal.returns
returns c = own-loops
