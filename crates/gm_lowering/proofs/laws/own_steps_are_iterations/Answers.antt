-- The step of a vertex in an own loop is the loop's iteration.
use Rattle.gm_lowering.proofs.OwnSteps.{own-steps}
use Rattle.gm_lowering.proofs.laws.own_steps_are_iterations.Goals as goal

pub returns : goal.returns
returns c = own-steps
