-- Names stay.
use Rattle.gm_interface.proofs.Kept.{passes-keep-names}
use Rattle.gm_interface.proofs.laws.passes_keep_names.Goals as goal

pub returns : goal.returns
returns c = passes-keep-names
