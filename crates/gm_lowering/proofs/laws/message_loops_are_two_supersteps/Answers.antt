-- A message loop is two supersteps.
use Rattle.gm_lowering.proofs.TwoSupersteps.{message-loops}
use Rattle.gm_lowering.proofs.laws.message_loops_are_two_supersteps.Goals as goal

pub returns : goal.returns
returns c = message-loops
