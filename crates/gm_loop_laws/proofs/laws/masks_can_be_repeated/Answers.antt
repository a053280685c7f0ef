-- Masks are repeated.
use Rattle.gm_loop_laws.proofs.Conditions.{conditions-part}
use Rattle.gm_loop_laws.proofs.Masks.{masks-stay}
use Rattle.gm_loop_laws.proofs.laws.masks_can_be_repeated.Goals as goal

pub returns-clause-stays : goal.returns-clause-stays
returns-clause-stays c = masks-stay

pub returns-clause-parts : goal.returns-clause-parts
returns-clause-parts c = conditions-part
