-- One superstep with a home loop's block is the loop.
use Rattle.gm_lowering.proofs.HomeLoops.{home-loops, home-blocks}
use Rattle.gm_lowering.proofs.laws.home_loops_are_supersteps.Goals as goal

pub returns-clause-supersteps : goal.returns-clause-supersteps
returns-clause-supersteps c = home-loops

pub returns-clause-blocks : goal.returns-clause-blocks
returns-clause-blocks c = home-blocks
