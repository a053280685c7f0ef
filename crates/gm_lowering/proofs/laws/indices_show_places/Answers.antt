-- The place at a fault's index is what the fault shows.
use Rattle.gm_lowering.proofs.Shown.{indices-show}
use Rattle.gm_lowering.proofs.laws.indices_show_places.Goals as goal

pub returns : goal.returns
returns c = indices-show
