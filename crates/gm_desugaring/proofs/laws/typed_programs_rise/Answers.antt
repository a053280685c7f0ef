use Rattle.gm_desugaring.proofs.RisingTyped.{typed-program-rises}
use Rattle.gm_desugaring.proofs.laws.typed_programs_rise.Goals as goal

pub returns : goal.returns
returns c = typed-program-rises
