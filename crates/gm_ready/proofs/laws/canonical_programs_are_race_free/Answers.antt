use Rattle.gm_ready.proofs.Readiness.{canonical-free}
use Rattle.gm_ready.proofs.laws.canonical_programs_are_race_free.Goals as goal

pub returns : goal.returns
returns c = canonical-free
