-- The step of a vertex with a home loop's block is the loop's iteration.
use Rattle.gm_lowering.proofs.HomeSteps.{home-steps}
use Rattle.gm_lowering.proofs.laws.home_steps_are_iterations.Goals as goal

pub returns : goal.returns
returns c = home-steps
