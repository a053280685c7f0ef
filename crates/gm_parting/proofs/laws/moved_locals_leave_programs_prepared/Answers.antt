use Rattle.gm_parting.proofs.MovedPrograms.{locals-gone}
use Rattle.gm_parting.proofs.laws.moved_locals_leave_programs_prepared.Goals as goal

pub returns : goal.returns
returns c = locals-gone
