-- Filters are saved.
use Rattle.gm_loop_laws.proofs.Saves.{saving-holds}
use Rattle.gm_loop_laws.proofs.laws.filters_can_be_saved.Goals as goal

pub returns : goal.returns
returns c = saving-holds
