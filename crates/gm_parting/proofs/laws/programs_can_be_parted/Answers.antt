use Rattle.gm_parting.proofs.Programs.{programs-parted}
use Rattle.gm_parting.proofs.laws.programs_can_be_parted.Goals as goal

pub returns : goal.returns
returns c = programs-parted
