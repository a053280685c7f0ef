-- Conditions are saved.
use Rattle.gm_loop_laws.proofs.Saved.{conditions-saved}
use Rattle.gm_loop_laws.proofs.laws.conditions_can_be_saved.Goals as goal

pub returns : goal.returns
returns c = conditions-saved
