-- What is sent for a reduction is taken.
use Rattle.gm_lowering.proofs.Takings.{takings-take}
use Rattle.gm_lowering.proofs.laws.taking_handlers_take.Goals as goal

pub returns : goal.returns
returns c = takings-take
