-- Locals become properties.
use Rattle.gm_loop_laws.proofs.Moves.{locals-move}
use Rattle.gm_loop_laws.proofs.laws.locals_can_be_properties.Goals as goal

pub returns : goal.returns
returns c = locals-move
