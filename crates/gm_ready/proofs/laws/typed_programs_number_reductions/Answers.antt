use Rattle.gm_ready.proofs.Readiness.{typed-rises}
use Rattle.gm_ready.proofs.laws.typed_programs_number_reductions.Goals as goal

pub returns : goal.returns
returns c = typed-rises
