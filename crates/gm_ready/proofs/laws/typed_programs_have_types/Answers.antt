use Rattle.gm_ready.proofs.Procedures.{typed-typed}
use Rattle.gm_ready.proofs.laws.typed_programs_have_types.Goals as goal

pub returns : goal.returns
returns c = typed-typed
