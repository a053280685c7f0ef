-- The run of a handler is the inner loop's turn.
use Rattle.gm_lowering.proofs.Receivers.{handlers-are-turns}
use Rattle.gm_lowering.proofs.laws.handlers_are_turns.Goals as goal

pub returns : goal.returns
returns c = handlers-are-turns
