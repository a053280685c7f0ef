use Rattle.gm_ready.proofs.Readiness.{canonical-checked}
use Rattle.gm_ready.proofs.laws.canonical_programs_are_checked.Goals as goal

pub returns : goal.returns
returns c = canonical-checked
