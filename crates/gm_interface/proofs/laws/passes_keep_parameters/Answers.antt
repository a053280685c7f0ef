-- Inputs and outputs stay.
use Rattle.gm_interface.proofs.Kept.{passes-keep-parameters}
use Rattle.gm_interface.proofs.laws.passes_keep_parameters.Goals as goal

pub returns : goal.returns
returns c = passes-keep-parameters
