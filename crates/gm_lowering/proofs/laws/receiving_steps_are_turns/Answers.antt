-- The step of a receiver takes what the turns that reach it give.
use Rattle.gm_lowering.proofs.Receiving.{receiving-steps}
use Rattle.gm_lowering.proofs.laws.receiving_steps_are_turns.Goals as goal

pub returns : goal.returns
returns c = receiving-steps
