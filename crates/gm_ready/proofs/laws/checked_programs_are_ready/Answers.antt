use Rattle.gm_ready.proofs.Readiness.{checked-ready}
use Rattle.gm_ready.proofs.laws.checked_programs_are_ready.Goals as goal

pub returns : goal.returns
returns c = checked-ready
