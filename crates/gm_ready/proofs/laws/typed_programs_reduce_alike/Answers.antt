use Rattle.gm_ready.proofs.Readiness.{typed-alike}
use Rattle.gm_ready.proofs.laws.typed_programs_reduce_alike.Goals as goal

pub returns : goal.returns
returns c = typed-alike
