-- The lines of an each are the inner loop's turn.
use Rattle.gm_lowering.proofs.HomeTurns.{each-turns}
use Rattle.gm_lowering.proofs.laws.each_lines_are_turns.Goals as goal

pub returns : goal.returns
returns c = each-turns
