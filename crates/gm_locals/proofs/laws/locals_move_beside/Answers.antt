use Rattle.gm_locals.proofs.MovesBeside.{locals-move-beside}
use Rattle.gm_locals.proofs.laws.locals_move_beside.Goals as goal

pub returns : goal.returns
returns c = locals-move-beside
